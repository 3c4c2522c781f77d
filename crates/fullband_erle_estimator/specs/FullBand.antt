-- The fullband estimator: start, update and reset, its figures and qualities, and the calls that are turned away.
use Rattle.std.specs.Prelude.{Bool, false, cond, ◌&&◌, List, [], ◌∷◌, ℕ, ltb, eqb, pos, Float, Result, Ok, Err, fold, get_or, take}
use Rattle.std.specs.Float.{nan, binary32}
use Rattle.std.specs.Float.Ieee.{of_bits, mul}
use Rattle.aec3_common.specs.declared.settings.ErleSettings.{ErleSettings}
use Rattle.aec3_common.specs.Answers.{Answered, answer_case}
use Rattle.aec3_common.specs.Binary32.{smaller}
use Rattle.aec3_common.specs.Calls.{call_refusal}
use Rattle.std.specs.List.{list_all}
use Rattle.aec3_common.specs.Lists.{tab}
use Rattle.aec3_common.specs.Refusal.{unless, accepted, bad_state}
use Rattle.aec3_common.specs.Settings.{max_capture_channels, limits_and_channels_refusal}
use Rattle.aec3_common.specs.Spectra.{part}
use Rattle.fullband_channel.specs.declared.instantaneous.OptionalNumber.{OptionalNumber}
use Rattle.fullband_channel.specs.declared.instantaneous.OptionalNumber.TheVariants.{Absent}
use Rattle.fullband_channel.specs.declared.channel.FullBandChannel.{FullBandChannel}
use Rattle.fullband_channel.specs.Instantaneous.{optional_values, log2_above, quality_of}
use Rattle.fullband_channel.specs.Channel.{channel_ok, fresh_channel, channel_after}
use Rattle.fullband_erle_estimator.specs.declared.settings.FullBandSettings.{FullBandSettings}
use Rattle.fullband_erle_estimator.specs.declared.FullBandErleEstimator.{FullBandErleEstimator}

-- ---- settings

-- the share of the whole estimator's settings
abbrev pub fullband_settings : ErleSettings → FullBandSettings
fullband_settings g =
    record {
      limits = g.limits;
      clamps = record { to_zero = g.clamp_quality_estimate_to_zero; to_one = g.clamp_quality_estimate_to_one };
      num_capture_channels = g.num_capture_channels;
    }

-- ---- calls turned away

-- the first of 1 and 2 that the settings break, or 0
unfoldable pub settings_refusal : FullBandSettings → ℕ
settings_refusal s = limits_and_channels_refusal s.limits.min s.limits.max_l s.limits.max_h s.num_capture_channels

-- number 20: the settings break neither 1 nor 2, and each of the state's channels passes; records beyond them are not judged
unfoldable pub state_ok : FullBandErleEstimator → Bool
state_ok s =
    eqb (settings_refusal s.settings) accepted
    && list_all channel_ok (take s.settings.num_capture_channels s.channels)

-- a reset and the readers are turned away under 20 alone
unfoldable pub state_refusal : FullBandErleEstimator → ℕ
state_refusal s = unless (state_ok s) bad_state accepted

-- the first of 20, 21, 5 and 6, or 0
unfoldable pub update_refusal : FullBandErleEstimator → ℕ → List Bool → List Float → List Float → List Float → ℕ
update_refusal s channels converged render capture residual =
    call_refusal (state_ok s) s.settings.num_capture_channels channels converged render capture residual

-- ---- start, reset, update

-- log2 of (the minimum plus 0.001), below which no figure moves
unfoldable pub min_log2 : FullBandSettings → Float
min_log2 s = log2_above s.limits.min

-- a start fills all four records
unfoldable pub started : FullBandSettings → FullBandErleEstimator
started s = record { settings = s; channels = tab max_capture_channels (λ ch. fresh_channel (min_log2 s)) }

unfoldable pub start_answer : FullBandSettings → Result FullBandErleEstimator ℕ
start_answer s = answer_case (settings_refusal s) (started s)

-- a reset leaves what a start with the state's settings gives
unfoldable pub reset_answer : FullBandErleEstimator → Answered FullBandErleEstimator
reset_answer s =
    let n = state_refusal s in
    record { state = cond (eqb n accepted) (started s.settings) s; refused = n }

-- what stands where a list of channels has no record
abbrev pub no_channel : FullBandChannel
no_channel =
    record {
      instantaneous_erle =
          record {
            erle_log2 = Absent;
            inst_quality_estimate = nan;
            max_erle_log2 = nan;
            min_erle_log2 = nan;
            y2_accum = nan;
            e2_accum = nan;
            num_points = 0;
          };
      erle_time_domain_log2 = nan;
      hold_counter_time_domain = pos 0;
    }

abbrev pub channel_at : FullBandErleEstimator → ℕ → FullBandChannel
channel_at s ch = get_or s.channels ch no_channel

-- an update moves the state's channels; records beyond them stay
unfoldable pub updated : FullBandErleEstimator → List Bool → List Float → List Float → List Float → FullBandErleEstimator
updated s converged render capture residual =
    record {
      settings = s.settings;
      channels =
          tab max_capture_channels
          (λ ch.
          cond (ltb ch s.settings.num_capture_channels)
          (channel_after (min_log2 s.settings) (get_or converged ch false) render (part capture ch) (part residual ch) (channel_at s ch))
          (channel_at s ch));
    }

-- The answer: the next state and 0, or the state as it was and the refusal.
unfoldable pub update_answer : FullBandErleEstimator → ℕ → List Bool → List Float → List Float → List Float → Answered FullBandErleEstimator
update_answer s channels converged render capture residual =
    let n = update_refusal s channels converged render capture residual in
    record { state = cond (eqb n accepted) (updated s converged render capture residual) s; refused = n }

-- ---- figures

-- the least of a number and the figures of channels; an earlier one stays unless a later one is below it
abbrev pub least_from : Float → List FullBandChannel → Float
least_from x cs = fold (λ least c. smaller least c.erle_time_domain_log2) x cs

-- the least figure of channels, or what stands for it where there is none
unfoldable pub least_or : Float → List FullBandChannel → Float
least_or none [] = none
least_or none (c ∷ cs) = least_from c.erle_time_domain_log2 cs

-- The fullband log2 figure is the least over the state's channels. The array has four, and a state that number 20 lets pass
-- uses one at least.
unfoldable pub fullband_log2 : FullBandErleEstimator → Float
fullband_log2 s = least_or (min_log2 s.settings) (take s.settings.num_capture_channels s.channels)

-- 3, by which a log2 figure is turned into decibels
abbrev pub decibel_factor : Float
decibel_factor = of_bits binary32 0x4040_0000

-- The decibel figure: 3 times the log2 figure, one rounding.
unfoldable pub decibels : Float → Float
decibels log2 = mul binary32 decibel_factor log2

unfoldable pub log2_answer : FullBandErleEstimator → Result Float ℕ
log2_answer s = answer_case (state_refusal s) (fullband_log2 s)

unfoldable pub decibel_answer : FullBandErleEstimator → Result Float ℕ
decibel_answer s = answer_case (state_refusal s) (decibels (fullband_log2 s))

-- ---- qualities

-- The quality of a channel's linear filter, absent too where the state has no such channel.
unfoldable pub quality_answer : FullBandErleEstimator → ℕ → Result OptionalNumber ℕ
quality_answer s ch =
    let g = s.settings in
    answer_case (state_refusal s)
    (cond (ltb ch g.num_capture_channels)
    (quality_of g.clamps.to_zero g.clamps.to_one (channel_at s ch).instantaneous_erle)
    Absent)

-- ---- answers read back

-- the value of an answer's case, beside its number
abbrev pub answer_values : {A : Type 0} → Result A ℕ → List A
answer_values (Ok value) = value ∷ []
answer_values (Err number) = []

-- the number of a quality that is answered, where one is present
abbrev pub quality_values : Result OptionalNumber ℕ → List Float
quality_values (Ok quality) = optional_values quality
quality_values (Err number) = []
