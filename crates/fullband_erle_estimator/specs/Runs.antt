-- Lists of calls: the state that they leave is taken up again, no figure is below log2 of (the minimum plus 0.001), and figures,
-- extremes and qualities are numbers.
use Rattle.std.specs.Prelude.{◌≡◌, true, List, ℕ, ◌<◌, Float}
use Rattle.std.specs.Float.Ieee.{le}
use Rattle.aec3_common.specs.Answers.{Answered}
use Rattle.aec3_common.specs.Binary32.{zero32, one32, is_finite, number_from}
use Rattle.aec3_common.specs.Calls.{Call, update, reset, run_by}
use Rattle.std.specs.List.{list_all}
use Rattle.aec3_common.specs.Refusal.{accepted, bad_state}
use Rattle.fullband_erle_estimator.specs.declared.settings.FullBandSettings.{FullBandSettings}
use Rattle.fullband_erle_estimator.specs.declared.FullBandErleEstimator.{FullBandErleEstimator}
use Rattle.fullband_erle_estimator.specs.FullBand.{state_refusal, min_log2, reset_answer, update_answer, channel_at, fullband_log2, decibels, quality_answer, quality_values}

-- ---- lists of calls

-- what an update or a reset is answered with
unfoldable pub answer : FullBandErleEstimator → Call → Answered FullBandErleEstimator
answer s (update channels converged render capture residual) = update_answer s channels converged render capture residual
answer s reset = reset_answer s

-- each call takes up the state that the last one left; a refused one passes on what it got
unfoldable pub run : FullBandErleEstimator → List Call → FullBandErleEstimator
run s calls = run_by (λ t c. (answer t c).state) s calls

-- ---- states taken up

-- no update or reset of the state is refused under 20, and no reading of a figure or a quality at all
pub record NotBad (s : FullBandErleEstimator) : Type 0 where
  pub calls : (next : Call) → (answer s next).refused ≡ bad_state → ⊥
  pub readings : state_refusal s ≡ accepted

-- Claim, which an accepted start promises of the state that it answers with: after any list of updates and resets, refused calls
-- among them, no call is refused under 20.
unfoldable pub NeverBadState : FullBandErleEstimator → Type 0
NeverBadState start = (calls : List Call) → NotBad (run start calls)

-- ---- figures

-- a channel's log2 figure
abbrev pub figure_of : FullBandErleEstimator → ℕ → Float
figure_of s ch = (channel_at s ch).erle_time_domain_log2

-- the figure of each channel, and the least of them, is no NaN, which fails `le`, and not below log2 of (the minimum plus 0.001)
pub record NotBelowMinimum (settings : FullBandSettings) (s : FullBandErleEstimator) : Type 0 where
  pub channels : (ch : ℕ) → ch < settings.num_capture_channels → le (min_log2 settings) (figure_of s ch) ≡ true
  pub least : le (min_log2 settings) (fullband_log2 s) ≡ true

-- Claim, which an accepted start promises too: in such runs no figure is below log2 of (the minimum plus 0.001), and none is a NaN.
unfoldable pub FiguresNotBelowMinimum : FullBandSettings → FullBandErleEstimator → Type 0
FiguresNotBelowMinimum settings start = (calls : List Call) → NotBelowMinimum settings (run start calls)

-- ---- numbers

-- the quality that a channel is answered, where it is present
abbrev pub quality_of_channel : FullBandErleEstimator → ℕ → List Float
quality_of_channel s ch = quality_values (quality_answer s ch)

-- A channel's figure and its two extremes are numbers, neither a NaN nor an infinity, and so is its quality where that is present. With
-- both clamps on it lies in 0 to 1.
pub record ChannelNumbers (settings : FullBandSettings) (s : FullBandErleEstimator) (ch : ℕ) : Type 0 where
  pub figure : is_finite (figure_of s ch) ≡ true
  pub greatest : is_finite (channel_at s ch).instantaneous_erle.max_erle_log2 ≡ true
  pub least : is_finite (channel_at s ch).instantaneous_erle.min_erle_log2 ≡ true
  pub quality : list_all is_finite (quality_of_channel s ch) ≡ true
  pub clamped :
      settings.clamps.to_zero ≡ true → settings.clamps.to_one ≡ true
      → list_all (number_from zero32 one32) (quality_of_channel s ch) ≡ true

-- and so are the fullband figure and its decibels
pub record AreNumbers (settings : FullBandSettings) (s : FullBandErleEstimator) : Type 0 where
  pub channels : (ch : ℕ) → ch < settings.num_capture_channels → ChannelNumbers settings s ch
  pub log2 : is_finite (fullband_log2 s) ≡ true
  pub decibels : is_finite (decibels (fullband_log2 s)) ≡ true

-- Claim, which an accepted start promises of the state that it answers with: after any list of calls, refused ones among them, the
-- figures, the extremes and the qualities of its channels and the fullband figures are numbers.
--
-- Phrase by phrase:
-- "qualities, where present, are numbers" -> quality; one that is absent has no number (that no reading is refused is `NeverBadState`)
-- "with both clamps on, from 0 to 1" -> clamped
-- "extremes and the figure are numbers" -> figure, greatest, least, and of the whole log2 and decibels
unfoldable pub FiguresAreNumbers : FullBandSettings → FullBandErleEstimator → Type 0
FiguresAreNumbers settings start = (calls : List Call) → AreNumbers settings (run start calls)
