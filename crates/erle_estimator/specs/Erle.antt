-- The whole ERLE estimator: start, update and reset, its figures, and the calls that are turned away.
use Rattle.std.specs.Prelude.{Bool, true, false, cond, ◌&&◌, List, ℕ, ltb, eqb, Float, Result, Err}
use Rattle.aec3_common.specs.declared.settings.ErleSettings.{ErleSettings}
use Rattle.aec3_common.specs.Answers.{Answered, answer_case}
use Rattle.aec3_common.specs.Binary32.{zero32}
use Rattle.aec3_common.specs.Calls.{value_refusal}
use Rattle.aec3_common.specs.Counts.{one_more}
use Rattle.aec3_common.specs.Refusal.{unless, accepted, bad_state}
use Rattle.aec3_common.specs.Settings.{settings_refusal}
use Rattle.aec3_common.specs.Streams.{erle_of}
use Rattle.subband_erle_estimator.specs.declared.channel.SubbandChannel.{SubbandChannel}
use Rattle.subband_erle_estimator.specs.Subband.{channel_at as Subband·channel_at, state_ok as Subband·state_ok, started as Subband·started, updated as Subband·updated}
use Rattle.signal_dependent_erle_estimator.specs.declared.channel.SignalDependentChannel.{SignalDependentChannel}
use Rattle.signal_dependent_erle_estimator.specs.SignalDependent.{channel_at as SignalDependent·channel_at, state_ok as SignalDependent·state_ok, refusal_by, boundaries_of, started as SignalDependent·started, active_of, after_block as SignalDependent·after_block}
use Rattle.fullband_channel.specs.declared.instantaneous.OptionalNumber.{OptionalNumber}
use Rattle.fullband_erle_estimator.specs.FullBand.{state_ok as FullBand·state_ok, started as FullBand·started, updated as FullBand·updated, fullband_log2, decibels, quality_answer as FullBand·quality_answer}
use Rattle.erle_estimator.specs.declared.ErleEstimator.{ErleEstimator}
use Rattle.erle_estimator.specs.declared.streams.ErleStreams.{ErleStreams}
use Rattle.erle_estimator.specs.Parts.{subband_settings, signal_settings, fullband_settings, subband_part, signal_part, fullband_part, with_records}
-- what an update is lent, number 5 of it, and its values
pub use Rattle.signal_dependent_erle_estimator.specs.SignalDependent.{Update, Echoes, echoes_of, Powers, powers_of}
unfoldable pub use Rattle.signal_dependent_erle_estimator.specs.SignalDependent.{lent_lengths_ok, lent_values}

-- ---- calls turned away

-- Number 20: each part passes, the signal-dependent one with one section too.
unfoldable pub state_ok : ErleEstimator → Bool
state_ok s = Subband·state_ok (subband_part s) && SignalDependent·state_ok (signal_part s) && FullBand·state_ok (fullband_part s)

-- a reset and the readers of the whole state are turned away under 20 alone
unfoldable pub state_refusal : ErleEstimator → ℕ
state_refusal s = unless (state_ok s) bad_state accepted

-- the first of 20, 21, 2, 4, 9, 5 and 6, or 0
unfoldable pub update_refusal : ErleEstimator → Update → ℕ
update_refusal s u =
    refusal_by (state_ok s) (signal_settings s.settings) u (lent_lengths_ok s.settings.layout.filter_length_blocks u) (value_refusal (lent_values u))

-- ---- start, reset, update

-- every part as a start leaves it, with a block count
unfoldable pub started_with : ℕ → ℕ → ErleSettings → ErleEstimator
started_with startup blocks g =
    record {
      settings = g;
      startup_phase_length_blocks = startup;
      blocks_since_reset = blocks;
      section_boundaries_blocks = boundaries_of (signal_settings g);
      subband = (Subband·started (subband_settings g)).channels;
      signal_dependent = (SignalDependent·started (signal_settings g)).channels;
      fullband = (FullBand·started (fullband_settings g)).channels;
    }

-- settings without a channel, which number 20 turns away
unfoldable pub refused_settings : ErleSettings
refused_settings =
    record {
      limits = record { min = zero32; max_l = zero32; max_h = zero32 };
      onset_detection = false;
      num_capture_channels = 0;
      layout = record { num_sections = 0; filter_length_blocks = 0; delay_headroom_samples = 0 };
      clamp_quality_estimate_to_zero = false;
      clamp_quality_estimate_to_one = false;
    }

-- a start has counted no block
unfoldable pub start_answer : ℕ → ErleSettings → Result ErleEstimator ℕ
start_answer startup g = answer_case (settings_refusal g) (started_with startup 0 g)

-- a reset clears the count only if the delay changed
unfoldable pub blocks_kept : Bool → ℕ → ℕ
blocks_kept delay_change blocks = cond delay_change 0 blocks

-- A reset leaves every part as a start with the state's settings does, in all four records; the startup count stays.
unfoldable pub after_reset : ErleEstimator → Bool → ErleEstimator
after_reset s delay_change =
    started_with s.startup_phase_length_blocks (blocks_kept delay_change s.blocks_since_reset) s.settings

unfoldable pub reset_answer : ErleEstimator → Bool → Answered ErleEstimator
reset_answer s delay_change =
    let n = state_refusal s in
    record { state = cond (eqb n accepted) (after_reset s delay_change) s; refused = n }

-- one block more
unfoldable pub counted : ErleEstimator → ErleEstimator
counted s = with_records s (one_more s.blocks_since_reset) s.subband s.signal_dependent s.fullband

-- The three parts in the Rust's order: the subband part; the signal-dependent part, by the active sections of each channel, which with one
-- section stays as it is and otherwise is lent each channel's subband streams after this update; the fullband part. (With onset detection off the
-- Rust lends the plain stream twice; the part then reads no compensated one.) The count is not touched here.
unfoldable pub updated : ErleEstimator → Powers → (active : ℕ → List ℕ) → ErleEstimator
updated s p active =
    let subband = Subband·updated (subband_part s) p.converged p.render p.capture p.residual in
    let own = Subband·channel_at subband in
    let signal = SignalDependent·after_block (signal_part s) p active (λ ch. (own ch).erle) (λ ch. (own ch).erle_onset_compensated) in
    let fullband = FullBand·updated (fullband_part s) p.converged p.render p.capture p.residual in
    with_records s s.blocks_since_reset subband.channels signal.channels fullband.channels

-- The inner update, by active sections: one block is counted first; if the count is then below the startup count, nothing else happens.
unfoldable pub after_block : ErleEstimator → Powers → (active : ℕ → List ℕ) → ErleEstimator
after_block s p active =
    let c = counted s in
    cond (ltb c.blocks_since_reset c.startup_phase_length_blocks) c (updated c p active)

-- the active sections that an update finds; beside being judged, ring, spectra, counts and responses do nothing else
abbrev pub active_in : ErleEstimator → Update → ℕ → List ℕ
active_in s u = active_of (signal_part s) u

-- An accepted update is the inner update by the active sections that it finds.
unfoldable pub after_accepted : ErleEstimator → Update → ErleEstimator
after_accepted s u = after_block s (powers_of u) (active_in s u)

-- The answer: the next state and 0, or the state as it was and the refusal.
unfoldable pub update_answer : ErleEstimator → Update → Answered ErleEstimator
update_answer s u =
    let n = update_refusal s u in
    record { state = cond (eqb n accepted) (after_accepted s u) s; refused = n }

-- ---- figures

-- Whether the signal-dependent part is in use.
unfoldable pub sectioned : ErleSettings → Bool
sectioned g = ltb 1 g.layout.num_sections

-- What `erle` answers for a channel, of its two records: with two or more sections a signal-dependent stream, else a subband one; the
-- compensated one where it is asked for and onset detection is on, else the plain one.
unfoldable pub erle_shown : ErleSettings → SubbandChannel → SignalDependentChannel → Bool → List Float
erle_shown g subband signal onset_compensated =
    cond (sectioned g)
    (erle_of signal.erle signal.erle_onset_compensated onset_compensated g.onset_detection)
    (erle_of subband.erle subband.erle_onset_compensated onset_compensated g.onset_detection)

-- A channel's streams: what `erle` answers, without and with the compensated stream asked for; the uncapped answer, which with two or more
-- sections is the signal-dependent plain stream; the onset values, always the subband part's.
unfoldable pub streams_shown : ErleSettings → SubbandChannel → SignalDependentChannel → ErleStreams
streams_shown g subband signal =
    record {
      plain = erle_shown g subband signal false;
      compensated = erle_shown g subband signal true;
      unbounded = cond (sectioned g) signal.erle subband.erle_unbounded;
      onsets = subband.erle_onsets;
    }

-- what a state shows of a channel
abbrev pub streams_of : ErleEstimator → ℕ → ErleStreams
streams_of s ch = streams_shown s.settings (Subband·channel_at (subband_part s) ch) (SignalDependent·channel_at (signal_part s) ch)

unfoldable pub log2_answer : ErleEstimator → Result Float ℕ
log2_answer s = answer_case (state_refusal s) (fullband_log2 (fullband_part s))

unfoldable pub decibel_answer : ErleEstimator → Result Float ℕ
decibel_answer s = answer_case (state_refusal s) (decibels (fullband_log2 (fullband_part s)))

-- the quality of a channel's linear filter, as the fullband part answers it; absent where the state has no such channel
unfoldable pub quality_answer : ErleEstimator → ℕ → Result OptionalNumber ℕ
quality_answer s ch =
    let n = state_refusal s in
    cond (eqb n accepted) (FullBand·quality_answer (fullband_part s) ch) (Err n)
