-- The channels before ch have raised r.
use Rattle.erl_estimator.proofs.Steps.{Raised}
use Rattle.erl_estimator.proofs.reduce.reduced_from.Given as goal

abbrev pub invariant-loop-ch : goal.invariant-loop-ch
invariant-loop-ch l = Raised l.spectra l.flags l.first l.r l.ch
