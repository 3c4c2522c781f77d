-- ok says at each turn whether all values of the fours passed so far lie in range.
use Rattle.std.proofs.Common.{take}
use Rattle.std.specs.List.{list_all}
use Rattle.aec3_common.specs.Binary32.{within}
use Rattle.aec3_common.proofs.Every.{Tested}
use Rattle.aec3_common.proofs.binary32.all_within.Given as goal

abbrev pub invariant-loop-four : goal.invariant-loop-four
invariant-loop-four l = Tested (λ four. list_all (within l.hi) (take 4 four)) l.fours l.four-index l.ok
