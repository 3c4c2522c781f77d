-- The loop updates the records one by one.
use Rattle.std.proofs.Common.{◌≤◌}
use Rattle.subband_erle_estimator.proofs.Updates.{Updating}
use Rattle.subband_erle_estimator.proofs.SubbandErleEstimator.update.Given as goal

abbrev pub invariant-loop-ch : goal.invariant-loop-ch
invariant-loop-ch l =
    (l.ch ≤ l.count) × (l.count ≤ 4)
    × Updating l.initial.self l.block.converged_filters.now l.block.x2.now l.block.y2.now l.block.e2.now l.self l.ch
