-- What a state keeps over any list of calls: what each part keeps of its own. So number 20 lets it pass.
use mathlib.Core.Path.{◌≡◌}
use mathlib.Core.Bool.{Bool, true}
use Prim.Native.Nat.{ℕ, ◌<◌}
use native.Mathlib.Omega.{arith}
use lib.Ieee.{nan}
use borrow.Author.Tests.{eqb-true}
use lib.Dec.{ltb, eqb}
use Rattle.aec3_common.specs.declared.settings.ErleSettings.{ErleSettings}
use Rattle.aec3_common.specs.Refusal.{accepted}
use Rattle.aec3_common.specs.Settings.{settings_refusal}
use Rattle.aec3_common.proofs.Choices.{cond_has}
use Rattle.aec3_common.proofs.Every.{list_all-by}
use Rattle.aec3_common.proofs.Limits.{InBinary32, between-value}
use Rattle.aec3_common.specs.Binary32.{greatest_value, within}
use Rattle.filter_sections.proofs.Limits.{AllInOrder}
use Rattle.subband_erle_estimator.specs.declared.settings.SubbandSettings.{SubbandSettings}
use Rattle.subband_erle_estimator.specs.declared.channel.SubbandChannel.{SubbandChannel}
use Rattle.subband_erle_estimator.specs.declared.SubbandErleEstimator.{SubbandErleEstimator}
use Rattle.subband_erle_estimator.specs.Subband.{channel_at as Subband·channel_at, started as Subband·started, updated as Subband·updated}
use Rattle.subband_erle_estimator.proofs.Channels.{ChannelKept as SubbandChannelKept}
use Rattle.subband_erle_estimator.proofs.Calls.{SettingsOk as SubbandSettingsOk, settings-ok, Kept as SubbandKept, kept-ok as subband-ok, started-kept as subband-started, updated-kept as subband-updated}
use Rattle.signal_dependent_erle_estimator.specs.declared.SignalDependentErleEstimator.{SignalDependentErleEstimator}
use Rattle.signal_dependent_erle_estimator.specs.SignalDependent.{started as SignalDependent·started, updated as SignalDependent·updated, after_block as SignalDependent·after_block}
use Rattle.signal_dependent_erle_estimator.proofs.Channels.{SpectrumOk, spectrum-part}
use Rattle.signal_dependent_erle_estimator.proofs.Runs.{SettingsOk as SignalSettingsOk, settings-ok as signal-settings, Kept as SignalKept, AllLentOk, found-below, started-kept as signal-started, updated-kept as signal-updated, state-ok as signal-ok}
use Rattle.fullband_erle_estimator.specs.FullBand.{started as FullBand·started, updated as FullBand·updated}
use Rattle.fullband_erle_estimator.proofs.Runs.{Kept as FullBandKept, started-kept as fullband-started, updated-kept as fullband-updated, state-ok as fullband-ok}
use Rattle.erle_estimator.specs.declared.ErleEstimator.{ErleEstimator}
use Rattle.erle_estimator.specs.Parts.{subband_settings, signal_settings, fullband_settings, subband_part, signal_part, fullband_part, with_records}
use Rattle.erle_estimator.specs.Erle.{Update, powers_of, active_in, after_block, state_ok, state_refusal, update_refusal, started_with, blocks_kept, after_reset, reset_answer, counted, updated, after_accepted, update_answer}
use Rattle.erle_estimator.proofs.Judged.{signal-settings-passed, subband-settings-passed, fullband-settings-passed, subband-passed, fullband-passed, Accepted, accepted-call, fits}

-- each part's settings
module _ (g : ErleSettings) (held : InBinary32 g.limits.min g.limits.max_l g.limits.max_h) (ok : settings_refusal g ≡ accepted) where
  pub subband-settings-ok : SubbandSettingsOk (subband_settings g)
  subband-settings-ok = settings-ok (subband_settings g) held (subband-settings-passed g ok)

  signal-settings-ok : SignalSettingsOk (signal_settings g)
  signal-settings-ok = signal-settings (signal_settings g) held (signal-settings-passed g ok)

-- settings that pass, of values of binary32, and what each part keeps
pub record Good (s : ErleEstimator) : Type 0 where
  pub settings : settings_refusal s.settings ≡ accepted
  pub held : InBinary32 s.settings.limits.min s.settings.limits.max_l s.settings.limits.max_h
  pub subband : SubbandKept (subband_settings s.settings) (subband_part s)
  pub signal : SignalKept (signal_settings s.settings) (signal_part s)
  pub fullband : FullBandKept (fullband_settings s.settings) (fullband_part s)

-- number 20 lets it pass
pub good-ok : (s : ErleEstimator) → Good s → state_ok s ≡ true
unfolding state_ok
good-ok s good =
    let g = s.settings in
    simp (
      subband-ok (subband_part s) (subband-settings-passed g good.settings) good.subband,
      signal-ok (signal_settings g) (signal-settings-ok g good.held good.settings) (signal_part s) good.signal,
      fullband-ok (fullband_settings g) (fullband_part s) (fullband-settings-passed g good.settings) good.fullband,
    )

-- ---- starts and resets

pub started-good :
    (startup blocks : ℕ) (g : ErleSettings) → InBinary32 g.limits.min g.limits.max_l g.limits.max_h → settings_refusal g ≡ accepted
    → Good (started_with startup blocks g)
unfolding started_with Subband·started SignalDependent·started FullBand·started
started-good startup blocks g held ok =
    record {
      settings = ok;
      held = held;
      subband = subband-started (subband_settings g) (subband-settings-ok g held ok);
      signal = signal-started (signal_settings g) (signal-settings-ok g held ok);
      fullband = fullband-started (fullband_settings g) (fullband-settings-passed g ok);
    }

-- a reset, accepted or refused, does too
pub reset-good : (s : ErleEstimator) (delay_change : Bool) → Good s → Good (reset_answer s delay_change).state
unfolding reset_answer after_reset
reset-good s delay_change good =
    cond_has Good (eqb (state_refusal s) accepted)
    (λ e. started-good s.startup_phase_length_blocks (blocks_kept delay_change s.blocks_since_reset) s.settings good.held good.settings)
    (λ e. good)

-- ---- updates

counted-good : (s : ErleEstimator) → Good s → Good (counted s)
unfolding counted
counted-good s good =
    record { settings = good.settings; held = good.held; subband = good.subband; signal = good.signal; fullband = good.fullband }

-- a subband channel's streams are lent as averages
module _ {g : SubbandSettings} (limits : AllInOrder g.limits.min g.limits.max_l g.limits.max_h) {c : SubbandChannel} (kept : SubbandChannelKept g c) where
  plain-lent : SpectrumOk c.erle
  plain-lent =
      record {
        long = kept.long.plain;
        values =
            list_all-by (within greatest_value) c.erle nan
            (λ k h. let b : k < 65 = omega (arith, kept.long.plain) in between-value (limits k) (kept.streams k b).plain);
      }

  compensated-lent : SpectrumOk c.erle_onset_compensated
  compensated-lent =
      record {
        long = kept.long.compensated;
        values =
            list_all-by (within greatest_value) c.erle_onset_compensated nan
            (λ k h. let b : k < 65 = omega (arith, kept.long.compensated) in between-value (limits k) (kept.onset k b).compensated);
      }

-- a block that an accepted update lends, and active sections below the section count
module _ (s : ErleEstimator) (u : Update) (a : Accepted s u) (good : Good s) where
  abbrev g : ErleSettings
  g = s.settings

  next-subband : SubbandErleEstimator
  next-subband = Subband·updated (subband_part s) u.converged u.render u.capture u.residual

  next-subband-kept : SubbandKept (subband_settings g) next-subband
  unfolding next-subband
  next-subband-kept =
      subband-updated (subband_settings g) (subband-settings-ok g good.held good.settings) (subband_part s)
      u.converged u.render u.capture u.residual good.subband (fits a (subband-passed s a.state))

  -- what the signal-dependent part is lent
  all-lent :
      AllLentOk g.num_capture_channels (powers_of u)
      (λ ch. (Subband·channel_at next-subband ch).erle)
      (λ ch. (Subband·channel_at next-subband ch).erle_onset_compensated)
  all-lent ch h =
      let inside : ch < u.channels = omega (arith, a.count) in
      let limits = (subband-settings-ok g good.held good.settings).limits in
      record {
        capture = spectrum-part u.channels u.capture ch a.lent.capture a.capture_ok inside;
        average = plain-lent limits (next-subband-kept.channels ch h);
        compensated = compensated-lent limits (next-subband-kept.channels ch h);
      }

  updated-good : Good (updated (counted s) (powers_of u) (active_in s u))
  unfolding counted updated Subband·updated SignalDependent·updated SignalDependent·after_block FullBand·updated next-subband
  updated-good =
      let signal = signal_part s in
      let ok = signal-settings-ok g good.held good.settings in
      record {
        settings = good.settings;
        held = good.held;
        subband = next-subband-kept;
        signal =
            cond_has
            (λ (r : SignalDependentErleEstimator).
            SignalKept (signal_settings g)
            (signal_part (with_records s s.blocks_since_reset s.subband r.channels s.fullband)))
            (ltb 1 g.layout.num_sections)
            (λ e. signal-updated (signal_settings g) ok signal (powers_of u) (active_in s u) _ _ good.signal (found-below (signal_settings g) ok signal u good.signal) all-lent)
            (λ e. good.signal);
        fullband =
            fullband-updated (fullband_settings g) (fullband-settings-passed g good.settings) (fullband_part s)
            u.converged u.render u.capture u.residual good.fullband (fits a (fullband-passed s a.state));
      }

-- and so does an update, accepted or refused
pub update-good : (s : ErleEstimator) (u : Update) → Good s → Good (update_answer s u).state
unfolding update_answer after_accepted after_block
update-good s u good =
    let c = counted s in
    cond_has Good (eqb (update_refusal s u) accepted)
    (λ e.
    cond_has Good (ltb c.blocks_since_reset c.startup_phase_length_blocks)
    (λ early. counted-good s good)
    (λ late. updated-good s u (accepted-call s u (eqb-true (update_refusal s u) accepted e)) good))
    (λ e. good)
