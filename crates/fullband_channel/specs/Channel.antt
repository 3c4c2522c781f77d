-- One channel of the fullband estimator: its instantaneous ERLE, its figure and its hold.
use Rattle.std.specs.Prelude.{Bool, cond, ◌&&◌, List, ltb, ℤ, pos, Float}
use Rattle.std.specs.Float.{binary32}
use Rattle.std.specs.Float.Ieee.{of_bits, lt}
use Rattle.aec3_common.specs.Binary32.{sum_threshold, greatest_sum, within, larger, moved}
use Rattle.aec3_common.specs.Counts.{fallen, is_zero}
use Rattle.aec3_common.specs.Spectra.{sum}
use Rattle.fullband_channel.specs.declared.instantaneous.OptionalNumber.{OptionalNumber}
use Rattle.fullband_channel.specs.declared.instantaneous.OptionalNumber.TheVariants.{Absent, Number}
use Rattle.fullband_channel.specs.declared.channel.FullBandChannel.{FullBandChannel}
use Rattle.fullband_channel.specs.Instantaneous.{all_points, new_log2, accumulated, learnt, accumulators_reset, fresh}

-- 0.05, the share of the difference by which a figure moves
abbrev pub figure_share : Float
figure_share = of_bits binary32 0x3d4c_cccd

-- the hold that a new log2 value sets
abbrev pub blocks_to_hold : ℤ
blocks_to_hold = pos 100

-- what number 20 asks of a record: fewer than six points, so a point count of 0 to 5, and held sums within 0 to 2^110
unfoldable pub channel_ok : FullBandChannel → Bool
channel_ok c =
    let i = c.instantaneous_erle in
    ltb i.num_points all_points && within greatest_sum i.y2_accum && within greatest_sum i.e2_accum

-- a start, and a reset: the figure at log2 of (the minimum plus 0.001), the hold 0
unfoldable pub fresh_channel : Float → FullBandChannel
fresh_channel min_log2 =
    record { instantaneous_erle = fresh; erle_time_domain_log2 = min_log2; hold_counter_time_domain = pos 0 }

-- Where a log2 value is new the hold becomes 100, and the figure moves by 0.05 of the difference, not below log2 of (the minimum
-- plus 0.001), which also takes the place of a NaN. Extremes and quality estimate move with it.
abbrev pub with_new : Float → OptionalNumber → FullBandChannel → FullBandChannel
with_new min_log2 Absent c = c
with_new min_log2 (Number value) c =
    record {
      instantaneous_erle = learnt value c.instantaneous_erle;
      erle_time_domain_log2 = larger min_log2 (moved c.erle_time_domain_log2 value figure_share);
      hold_counter_time_domain = blocks_to_hold;
    }

-- a channel with one more point
unfoldable pub with_point : Float → Float → Float → FullBandChannel → FullBandChannel
with_point min_log2 capture residual c =
    let i = c.instantaneous_erle in
    with_new min_log2 (new_log2 capture residual i)
    (record {
      instantaneous_erle = accumulated capture residual i;
      erle_time_domain_log2 = c.erle_time_domain_log2;
      hold_counter_time_domain = c.hold_counter_time_domain;
    })

-- The hold falls by 1; `reset_accumulators` runs only when it is then exactly 0.
unfoldable pub one_block_less : FullBandChannel → FullBandChannel
one_block_less c =
    let hold = fallen c.hold_counter_time_domain in
    let i = c.instantaneous_erle in
    record {
      instantaneous_erle = cond (is_zero hold) (accumulators_reset i) i;
      erle_time_domain_log2 = c.erle_time_domain_log2;
      hold_counter_time_domain = hold;
    }

-- A converged channel accumulates only if the render sum is above T times 65. Sums run from band 0 to 64, beginning at plus
-- zero. The hold falls for every channel in every update.
unfoldable pub channel_after : Float → Bool → List Float → List Float → List Float → FullBandChannel → FullBandChannel
channel_after min_log2 converged render capture residual c =
    one_block_less (cond (converged && lt sum_threshold (sum render)) (with_point min_log2 (sum capture) (sum residual) c) c)
