-- The subband estimator: start, update and reset, and the calls that are turned away.
use Rattle.std.specs.Prelude.{Bool, false, cond, ◌&&◌, List, [], ℕ, leb, ltb, eqb, Float, get_or, take, Result}
use Rattle.aec3_common.specs.declared.settings.ErleSettings.{ErleSettings}
use Rattle.aec3_common.specs.Answers.{answer_case, Answered}
use Rattle.aec3_common.specs.Binary32.{sums_ok}
use Rattle.aec3_common.specs.Calls.{call_refusal}
use Rattle.std.specs.List.{list_all}
use Rattle.aec3_common.specs.Lists.{tab}
use Rattle.aec3_common.specs.Refusal.{unless, accepted, bad_state}
use Rattle.aec3_common.specs.Settings.{max_capture_channels, limits_and_channels_refusal}
use Rattle.aec3_common.specs.Spectra.{part}
use Rattle.subband_erle_estimator.specs.declared.settings.SubbandSettings.{SubbandSettings}
use Rattle.subband_erle_estimator.specs.declared.channel.SubbandChannel.{SubbandChannel}
use Rattle.subband_erle_estimator.specs.declared.SubbandErleEstimator.{SubbandErleEstimator}
use Rattle.subband_erle_estimator.specs.Channel.{Block, all_points, fresh, channel_after}

-- ---- settings

-- its share of the settings of the whole ERLE estimator
abbrev pub subband_settings : ErleSettings → SubbandSettings
subband_settings s =
    record {
      limits = s.limits;
      onset_detection = s.onset_detection;
      num_capture_channels = s.num_capture_channels;
    }

-- ---- calls turned away

-- the first of 1 and 2 that the settings break, or 0
unfoldable pub settings_refusal : SubbandSettings → ℕ
settings_refusal s = limits_and_channels_refusal s.limits.min s.limits.max_l s.limits.max_h s.num_capture_channels

-- a point count of 0 to 6, and held sums within 0 to 2^110
unfoldable pub channel_ok : SubbandChannel → Bool
channel_ok c = leb c.num_points all_points && sums_ok c.y2 && sums_ok c.e2

-- number 20: the settings break neither 1 nor 2, and each of the state's channels passes; records beyond them are not judged
unfoldable pub state_ok : SubbandErleEstimator → Bool
state_ok s =
    eqb (settings_refusal s.settings) accepted
    && list_all channel_ok (take s.settings.num_capture_channels s.channels)

-- the first of 20, 21, 5 and 6, or 0
unfoldable pub update_refusal : SubbandErleEstimator → ℕ → List Bool → List Float → List Float → List Float → ℕ
update_refusal s channels converged render capture residual =
    call_refusal (state_ok s) s.settings.num_capture_channels channels converged render capture residual

-- a reset is turned away under 20 alone
unfoldable pub state_refusal : SubbandErleEstimator → ℕ
state_refusal s = unless (state_ok s) bad_state accepted

-- ---- start, reset, update

-- a start fills all four records
unfoldable pub started : SubbandSettings → SubbandErleEstimator
started s = record { settings = s; channels = tab max_capture_channels (λ ch. fresh s.limits.min) }

-- The answer: what a start gives, or the refusal.
unfoldable pub start_answer : SubbandSettings → Result SubbandErleEstimator ℕ
start_answer s = answer_case (settings_refusal s) (started s)

-- a reset leaves what a start with the state's settings gives
unfoldable pub reset_answer : SubbandErleEstimator → Answered SubbandErleEstimator
reset_answer s =
    let n = state_refusal s in
    record { state = cond (eqb n accepted) (started s.settings) s; refused = n }

-- what stands where a list of channels has no record
abbrev pub no_channel : SubbandChannel
no_channel =
    record {
      erle = [];
      erle_onset_compensated = [];
      erle_unbounded = [];
      erle_onsets = [];
      coming_onset = [];
      hold_counters = [];
      y2 = [];
      e2 = [];
      low_render_energy = [];
      num_points = 0;
    }

abbrev pub channel_at : SubbandErleEstimator → ℕ → SubbandChannel
channel_at s ch = get_or s.channels ch no_channel

-- what an update brings channel ch: the render is the same for all
abbrev pub block_of : List Bool → List Float → List Float → List Float → ℕ → Block
block_of converged render capture residual ch =
    record {
      converged = get_or converged ch false;
      render = render;
      capture = part capture ch;
      residual = part residual ch;
    }

-- an update moves the state's channels; records beyond them stay
unfoldable pub updated : SubbandErleEstimator → List Bool → List Float → List Float → List Float → SubbandErleEstimator
updated s converged render capture residual =
    record {
      settings = s.settings;
      channels =
          tab max_capture_channels
          (λ ch.
          cond (ltb ch s.settings.num_capture_channels)
          (channel_after s.settings (block_of converged render capture residual ch) (channel_at s ch))
          (channel_at s ch));
    }

-- The answer: the next state and 0, or the state as it was and the refusal.
unfoldable pub update_answer : SubbandErleEstimator → ℕ → List Bool → List Float → List Float → List Float → Answered SubbandErleEstimator
update_answer s channels converged render capture residual =
    let n = update_refusal s channels converged render capture residual in
    record { state = cond (eqb n accepted) (updated s converged render capture residual) s; refused = n }
