use Rattle.speed.specs.Runs.{StepsTo, StepAt, block_count}
use Rattle.speed.proofs.blocks.Blocks.run.Given as goal

-- So many rounds were made as were counted.
abbrev pub invariant-loop : goal.invariant-loop
invariant-loop g l =
    goal.F-IsAlwaysCallable g l.step
    × StepsTo (λ e n e'. StepsTo (StepAt (goal.F-post g l.fn.step) l.fn.self) (block_count l.fn.self) e e') l.counter l.fn.start l.estimator
