use Rattle.std.proofs.Common.{rules}
use Rattle.aec3_common.proofs.Changes.{changed-all}
use Rattle.aec3_common.proofs.Tables.{length-mapped}
use Rattle.subband_erle_estimator.specs.Channel.{fresh}
use Rattle.subband_erle_estimator.specs.Subband.{no_channel, started}
use Rattle.subband_erle_estimator.proofs.SubbandErleEstimator.all_reset.Goals as goal

pub returns : goal.returns
unfolding started
returns c =
    λ i.
    record {
      settings = c.args.self.settings;
      channels = changed-all {n = 4} no_channel (λ k channel. fresh c.args.self.settings.limits.min) c.change.ensures (search (rules, length-mapped)) (λ k x y h r. search rules) i;
    }
