-- One band of one channel of the subband estimator: what it holds, in three parts, and how a block moves each. The rule of each field has
-- a name and stands once.
use Rattle.std.specs.Prelude.{Bool, true, false, cond, ◌&&◌, ◌||◌, if◌then◌else◌, Option, None, Some, ℕ, ℤ, pos, Float}
use Rattle.std.specs.Int.Signed.{le_z}
use Rattle.std.specs.Float.{binary32}
use Rattle.std.specs.Float.Ieee.{of_bits, add, mul, div, lt}
use Rattle.aec3_common.specs.Binary32.{zero32, energy_threshold, clamped, larger, moved}
use Rattle.aec3_common.specs.Counts.{fallen}
use Rattle.aec3_common.specs.Settings.{greatest_erle}
use Rattle.aec3_common.specs.Spectra.{inner_band}

-- 0.05, 0.1: the share of the difference by which a stream moves up, and down
abbrev pub share_up : Float
share_up = of_bits binary32 0x3d4c_cccd

abbrev pub share_down : Float
share_down = of_bits binary32 0x3dcc_cccd

-- 0.97: what a block leaves of a compensated value that decays
abbrev pub decay_factor : Float
decay_factor = of_bits binary32 0x3f78_51ec

-- A stream moves by 0.05 of the difference; if new is smaller, by 0.1, or by 0 under low energy.
abbrev pub share : Float → Bool → Float → Float
share new low old = cond (lt new old) (cond low zero32 share_down) share_up

-- It is clamped to the minimum and its maximum.
unfoldable pub stream_moved : Float → Float → Float → Bool → Float → Float
stream_moved min max new low old = clamped (moved old new (share new low old)) min max

-- ---- the sums, to which only converged blocks add

-- the held sums of capture and residual power, and whether low energy was noted
pub record Sums : Type 0 where
  pub capture : Float
  pub residual : Float
  pub low : Bool

-- a reset fills sums with 0 and low energy with no
abbrev pub fresh_sums : Sums
fresh_sums = record { capture = zero32; residual = zero32; low = false }

-- a power is added to a held sum, or to zero where the sums begin again
unfoldable pub sum_with : Bool → Float → Float → Float
sum_with anew sum power = add binary32 (cond anew zero32 sum) power

-- low energy is noted where render is below T; what was noted stays until the sums begin again
unfoldable pub low_with : Bool → Bool → Float → Bool
low_with anew low render = cond anew false low || lt render energy_threshold

-- A converged channel adds capture and residual power, and notes low energy.
unfoldable pub added : Bool → Float → Float → Float → Sums → Sums
added anew render capture residual s =
    record {
      capture = sum_with anew s.capture capture;
      residual = sum_with anew s.residual residual;
      low = low_with anew s.low render;
    }

-- With a residual sum above 0 there is a ratio, of the two sums.
abbrev pub has_ratio : Float → Bool
has_ratio residual = lt zero32 residual

abbrev pub ratio : Float → Float → Float
ratio capture residual = div binary32 capture residual

abbrev pub new_ratio : Float → Float → Option Float
new_ratio capture residual = if has_ratio residual then Some (ratio capture residual) else None

-- ---- which bands

-- the bands that have a ratio and learn from it: 1 to 63 with a residual sum above 0
abbrev pub learns : ℕ → Float → Bool
learns k residual = inner_band k && has_ratio residual

-- the bands whose hold falls in every update: 1 to 63 where onset detection is on
abbrev pub hold_falls : Bool → ℕ → Bool
hold_falls on k = on && inner_band k

-- ---- the streams that only a new ratio moves

-- the plain and the uncapped ERLE
pub record Streams : Type 0 where
  pub plain : Float
  pub uncapped : Float

-- a reset fills streams with the minimum
abbrev pub fresh_streams : Float → Streams
fresh_streams min = record { plain = min; uncapped = min }

-- A new ratio moves the plain stream, up to the band's maximum, and the uncapped one, up to 100,000.
unfoldable pub streams_learnt : Float → Float → Float → Bool → Streams → Streams
streams_learnt min max new low s =
    record {
      plain = stream_moved min max new low s.plain;
      uncapped = stream_moved min greatest_erle new low s.uncapped;
    }

-- ---- what every block moves where onset detection is on; the onset value stands beside it

-- the compensated ERLE, the onset value, whether the band waits for an onset, and its hold
pub record Onset : Type 0 where
  pub compensated : Float
  pub onset : Float
  pub waits : Bool
  pub hold : ℤ

-- a reset fills compensated stream and onset value with the minimum, waiting with yes, holds with 0
abbrev pub fresh_onset : Float → Onset
fresh_onset min = record { compensated = min; onset = min; waits = true; hold = pos 0 }

-- by a new ratio without low energy the band stops waiting, and its hold becomes 250
unfoldable pub waits_learnt : Bool → Bool → Bool
waits_learnt low waits = cond low waits false

unfoldable pub hold_learnt : Bool → ℤ → ℤ
hold_learnt low hold = cond low hold (pos 250)

-- A new ratio moves the compensated stream, waiting and hold. The onset value stays.
unfoldable pub onset_learnt : Float → Float → Float → Bool → Onset → Onset
onset_learnt min max new low o =
    record {
      compensated = stream_moved min max new low o.compensated;
      onset = o.onset;
      waits = waits_learnt low o.waits;
      hold = hold_learnt low o.hold;
    }

-- the hold falls by 1; at 0 or less it is 0
unfoldable pub hold_less : ℤ → ℤ
hold_less hold = cond (le_z (fallen hold) (pos 0)) (pos 0) (fallen hold)

-- A compensated value above the onset value becomes the greatest of the onset value, 0.97 times itself and the minimum.
unfoldable pub decayed : Float → Float → Float → Float
decayed min onset x = cond (lt onset x) (larger (larger onset (mul binary32 decay_factor x)) min) x

-- it does so where the lowered hold is 150 or less
unfoldable pub compensated_beside : Float → ℤ → Float → Float → Float
compensated_beside min hold onset x = cond (le_z hold (pos 150)) (decayed min onset x) x

-- where the lowered hold is 0 or less the band waits
unfoldable pub waits_beside : ℤ → Bool → Bool
waits_beside hold waits = cond (le_z hold (pos 0)) true waits

-- One block less to hold; compensated value and waiting go by the lowered hold.
unfoldable pub one_block_less : Float → Onset → Onset
one_block_less min o =
    let hold = hold_less o.hold in
    record {
      compensated = compensated_beside min hold o.onset o.compensated;
      onset = o.onset;
      waits = waits_beside hold o.waits;
      hold = hold;
    }
