-- The loop updates the state's records one by one.
use Rattle.std.proofs.Common.{◌≤◌}
use Rattle.fullband_erle_estimator.proofs.Updates.{Updating}
use Rattle.fullband_erle_estimator.proofs.FullBandErleEstimator.updated.Given as goal

abbrev pub invariant-loop-ch : goal.invariant-loop-ch
invariant-loop-ch l =
    record {
      few : l.fn.self.settings.num_capture_channels ≤ 4;
      so_far : Updating l.initial.self l.block.converged_filters.now l.block.x2.now l.block.y2.now l.block.e2.now l.self l.ch;
    }
