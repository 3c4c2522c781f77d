-- One channel's instantaneous ERLE: the log2 of the ratio of six points, its extremes, and the quality of the linear filter.
use Rattle.std.specs.Prelude.{Bool, true, false, cond, ◌&&◌, List, [], ◌∷◌, ℕ, ◌≤◌, suc, eqb, Float}
use Rattle.std.specs.Float.{binary32}
use Rattle.std.specs.Float.Ieee.{of_bits, add, sub, div, lt}
use Rattle.aec3_common.specs.Binary32.{zero32, one32, larger, smaller, moved}
use Rattle.aec3_common.specs.Log2.{approx_log2}
use Rattle.aec3_common.specs.Refusal.{accepted}
use Rattle.fullband_channel.specs.declared.instantaneous.OptionalNumber.{OptionalNumber}
use Rattle.fullband_channel.specs.declared.instantaneous.OptionalNumber.TheVariants.{Absent, Number}
use Rattle.fullband_channel.specs.declared.instantaneous.ErleInstantaneous.{ErleInstantaneous}

-- ---- a number that may be absent

-- the case of what may be absent: a number is its one value; absent has none
abbrev pub optional_case : Bool → Float → OptionalNumber
optional_case present x = cond present (Number x) Absent

-- and back: whether a number is there, the refusal that a case stands for, which is none, and its values
abbrev pub is_present : OptionalNumber → Bool
is_present Absent = false
is_present (Number x) = true

abbrev pub optional_refusal : OptionalNumber → ℕ
optional_refusal Absent = accepted
optional_refusal (Number x) = accepted

abbrev pub optional_values : OptionalNumber → List Float
optional_values Absent = []
optional_values (Number x) = x ∷ []

-- ---- constants

-- 0.001, which a ratio or the minimum gains before its log2 is taken
abbrev pub epsilon : Float
epsilon = of_bits binary32 0x3a83_126f

-- 0.0004, by which an extreme gives way
abbrev pub extreme_step : Float
extreme_step = of_bits binary32 0x39d1_b717

-- 0.07, the share of the difference by which a quality estimate falls
abbrev pub quality_share : Float
quality_share = of_bits binary32 0x3d8f_5c29

-- -10 and 33, the greatest and the least log2 value of a start
abbrev pub first_greatest : Float
first_greatest = of_bits binary32 0xc120_0000

abbrev pub first_least : Float
first_least = of_bits binary32 0x4204_0000

-- after six points the ratio is looked at
abbrev pub all_points : ℕ
all_points = 6

-- ---- one point

-- there is room for a point: fewer than six are held
abbrev pub HasRoom : ErleInstantaneous → Type 0
HasRoom i = i.num_points ≤ 5

-- log2 of (a number plus 0.001)
abbrev pub log2_above : Float → Float
log2_above x = approx_log2 (add binary32 x epsilon)

-- the same with other sums and another count of points
unfoldable pub holding : Float → Float → ℕ → ErleInstantaneous → ErleInstantaneous
holding capture residual points i =
    record {
      erle_log2 = i.erle_log2;
      inst_quality_estimate = i.inst_quality_estimate;
      max_erle_log2 = i.max_erle_log2;
      min_erle_log2 = i.min_erle_log2;
      y2_accum = capture;
      e2_accum = residual;
      num_points = points;
    }

-- a point: the sums of a block's capture and residual power
module _ (capture residual : Float) (i : ErleInstantaneous) where
  abbrev pub capture_with : Float
  capture_with = add binary32 i.y2_accum capture

  abbrev pub residual_with : Float
  residual_with = add binary32 i.e2_accum residual

  abbrev pub is_last_point : Bool
  is_last_point = eqb (suc i.num_points) all_points

  -- On the sixth point with residual above 0, log2 of (the ratio plus 0.001) is new.
  unfoldable pub new_log2 : OptionalNumber
  new_log2 = optional_case (is_last_point && lt zero32 residual_with) (log2_above (div binary32 capture_with residual_with))

  -- sums and count with the point; the sixth clears them
  unfoldable pub accumulated : ErleInstantaneous
  accumulated =
      cond is_last_point (holding zero32 zero32 0 i) (holding capture_with residual_with (suc i.num_points) i)

-- ---- a new log2 value

-- an extreme becomes a value beyond it, and otherwise gives way by 0.0004
abbrev pub greatest_with : Float → Float → Float
greatest_with value greatest = cond (lt greatest value) value (sub binary32 greatest extreme_step)

abbrev pub least_with : Float → Float → Float
least_with value least = cond (lt value least) value (add binary32 least extreme_step)

-- how far a value stands on the way from the least to the greatest: from 0 to 1, or outside where an extreme has just given
-- way; 0 where the greatest is not above the least
unfoldable pub new_quality : Float → Float → Float → Float
new_quality least greatest value =
    cond (lt least greatest) (div binary32 (sub binary32 value least) (sub binary32 greatest least)) zero32

-- the quality estimate becomes a new quality above it, and otherwise moves towards it by 0.07 of the difference
abbrev pub quality_with : Float → Float → Float
quality_with new quality = cond (lt quality new) new (moved quality new quality_share)

-- a new log2 value moves the extremes, and then the quality estimate by the extremes as they are now
unfoldable pub learnt : Float → ErleInstantaneous → ErleInstantaneous
learnt value i =
    let greatest = greatest_with value i.max_erle_log2 in
    let least = least_with value i.min_erle_log2 in
    record {
      erle_log2 = Number value;
      inst_quality_estimate = quality_with (new_quality least greatest value) i.inst_quality_estimate;
      max_erle_log2 = greatest;
      min_erle_log2 = least;
      y2_accum = i.y2_accum;
      e2_accum = i.e2_accum;
      num_points = i.num_points;
    }

-- ---- clearing

-- sums, points and quality estimate 0, the log2 value absent, and with it the quality
unfoldable pub cleared : Float → Float → ErleInstantaneous
cleared greatest least =
    record {
      erle_log2 = Absent;
      inst_quality_estimate = zero32;
      max_erle_log2 = greatest;
      min_erle_log2 = least;
      y2_accum = zero32;
      e2_accum = zero32;
      num_points = 0;
    }

-- `reset_accumulators` keeps the extremes
unfoldable pub accumulators_reset : ErleInstantaneous → ErleInstantaneous
accumulators_reset i = cleared i.max_erle_log2 i.min_erle_log2

-- a start, and a reset, give them anew
unfoldable pub fresh : ErleInstantaneous
fresh = cleared first_greatest first_least

-- ---- the quality that is answered

-- not below 0 where the switch for it is on
abbrev pub raised_quality : Bool → Float → Float
raised_quality to_zero quality = cond to_zero (larger quality zero32) quality

-- not above 1 where the switch for it is on
abbrev pub lowered_quality : Bool → Float → Float
lowered_quality to_one quality = cond to_one (smaller quality one32) quality

-- The quality estimate within what the two switches ask. Between zeros of two signs it keeps the one it was given, and a NaN
-- stays.
unfoldable pub clamped_quality : Bool → Bool → Float → Float
clamped_quality to_zero to_one quality = lowered_quality to_one (raised_quality to_zero quality)

-- absent while the log2 value is, else one number
unfoldable pub quality_of : Bool → Bool → ErleInstantaneous → OptionalNumber
quality_of to_zero to_one i =
    optional_case (is_present i.erle_log2) (clamped_quality to_zero to_one i.inst_quality_estimate)
