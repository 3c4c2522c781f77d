-- No flag before ch stands. The measure is what is left of the flags.
use Rattle.std.proofs.Common.{length, ◌-◌}
use Rattle.erl_estimator.proofs.Steps.{Walked}
use Rattle.erl_estimator.proofs.reduce.first_converged.Given as goal

abbrev pub invariant-loop-ch : goal.invariant-loop-ch
invariant-loop-ch l = Walked l.converged l.ch

abbrev pub decreases-loop-ch : goal.decreases-loop-ch
decreases-loop-ch l = length l.converged - l.ch
