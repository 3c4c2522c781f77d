-- The loop's invariant: what is left and the counts passed so far make up the blocks.
use Rattle.std.proofs.Common.{◌≡◌, ◌+◌, take}
use Rattle.section_echoes.specs.Packed.{total}
use Rattle.signal_dependent_erle_estimator.proofs.judge.add_up_to.Given as goal

abbrev pub invariant-loop-count : goal.invariant-loop-count
invariant-loop-count l = l.left + total (take l.count-index l.counts) ≡ l.blocks
