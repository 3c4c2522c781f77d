-- The entries before the index are changed.
use Rattle.aec3_common.specs.Steps.{Changed}
use Rattle.aec3_common.proofs.entries.change.Given as goal

abbrev pub invariant-loop-k : goal.invariant-loop-k
invariant-loop-k g l = Changed (goal.F-post g l.f) l.from l.k l.initial.table l.table
