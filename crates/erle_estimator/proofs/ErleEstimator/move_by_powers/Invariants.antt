-- The loop's invariant: the records before ch are updated, part by part.
use Rattle.std.proofs.Common.{}
use Rattle.erle_estimator.proofs.Updates.{MovingByPowers}
use Rattle.erle_estimator.proofs.ErleEstimator.move_by_powers.Given as goal

abbrev pub invariant-loop-ch : goal.invariant-loop-ch
invariant-loop-ch l =
    MovingByPowers l.fn.self l.block.converged_filters.now l.block.x2.now l.block.y2.now l.block.e2.now l.self l.ch
