use Rattle.erl_estimator.proofs.Steps.{walked_more, walked_to, walked-past}
use Rattle.erl_estimator.proofs.reduce.first_converged.Goals as goal

pub loop-ch-preserved : goal.loop-ch-preserved
loop-ch-preserved c = walked_more c.loop-ch.invariant c.if-converged-ch.false c.if-converged-ch-2.false

pub returns-then-converged-ch : goal.returns-then-converged-ch
returns-then-converged-ch c = walked-past c.loop-ch.invariant c.if-converged-ch.true

pub returns-then-converged-ch-2 : goal.returns-then-converged-ch-2
returns-then-converged-ch-2 c = walked_to c.loop-ch.invariant c.if-converged-ch.false c.if-converged-ch-2.true
