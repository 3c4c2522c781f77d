use Rattle.std.proofs.Common.{length, ◌≡◌}
use Rattle.std.specs.Iterator.Adapters.{enumerate_count}
use Rattle.speed.specs.Runs.{StepsTo, StepAt}
use Rattle.speed.proofs.blocks.Blocks.round.Given as goal

-- So many steps were made as blocks were yielded.
abbrev pub invariant-loop-index : goal.invariant-loop-index
invariant-loop-index g l =
    goal.F-IsAlwaysCallable g l.step
    × StepsTo (StepAt (goal.F-post g l.fn.step) l.fn.self) (length l.yielded) l.fn.estimator l.estimator
    × (enumerate_count l.index-iterator ≡ length l.yielded)
