-- What inner functions of the code promise; no part of the definition.
use Rattle.std.specs.Prelude.{cond, false}
use Rattle.aec3_common.specs.declared.settings.ErleLimits.{ErleLimits}
use Rattle.aec3_common.specs.Binary32.{zero32}
use Rattle.aec3_common.specs.Lists.{tab}
use Rattle.aec3_common.specs.Settings.{greatest_erle}
use Rattle.subband_erle_estimator.specs.declared.settings.SubbandSettings.{SubbandSettings}
use Rattle.subband_erle_estimator.specs.declared.channel.SubbandChannel.{SubbandChannel}
use Rattle.subband_erle_estimator.specs.Channel.{sums_at, streams_at, onset_at, channel_from, streams_learnt_at, onset_learnt_at}

abbrev pub uncapped_limits : SubbandSettings → ErleLimits
uncapped_limits s = record { min = s.limits.min; max_l = greatest_erle; max_h = greatest_erle }

-- a record whose sums begin again
unfoldable pub sums_cleared : SubbandChannel → SubbandChannel
sums_cleared c =
    record {
      num_points = c.num_points;
      y2 = tab 65 (λ k. zero32);
      e2 = tab 65 (λ k. zero32);
      low_render_energy = tab 65 (λ k. false);
      erle = c.erle;
      erle_unbounded = c.erle_unbounded;
      erle_onset_compensated = c.erle_onset_compensated;
      erle_onsets = c.erle_onsets;
      coming_onset = c.coming_onset;
      hold_counters = c.hold_counters;
    }

-- a record after its bands have learnt from its own sums
unfoldable pub learnt_by : SubbandSettings → SubbandChannel → SubbandChannel
learnt_by s c =
    channel_from c.num_points (sums_at c)
    (λ k. streams_learnt_at s k (sums_at c k) (streams_at c k))
    (λ k. cond s.onset_detection (onset_learnt_at s k (sums_at c k) (onset_at c k)) (onset_at c k))
