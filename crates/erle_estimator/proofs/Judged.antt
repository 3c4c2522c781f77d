-- What the judging of settings, of a state and of an update tells of the parts.
use mathlib.Core.Path.{◌≡◌, refl, sym, ◌∙◌}
use mathlib.Core.Bool.{Bool, true, false, ◌&&◌}
use Prim.Native.Nat.{suc, ◌≤◌}
use borrow.Author.Tests.{eq-eqb, eqb-true}
use lib.Dec.{eqb}
use lib.ListN.{take}
use Rattle.aec3_common.specs.declared.settings.ErleSettings.{ErleSettings}
use Rattle.aec3_common.specs.Binary32.{values_ok}
use Rattle.aec3_common.specs.Calls.{value_refusal}
use Rattle.std.specs.List.{list_all}
use Rattle.aec3_common.specs.Refusal.{accepted}
use Rattle.aec3_common.specs.Settings.{settings_refusal}
use Rattle.aec3_common.proofs.Calls.{UpdateOk, first-passed}
use Rattle.aec3_common.proofs.Choices.{and_left, each-of-three, passed}
use Rattle.subband_erle_estimator.specs.Subband.{settings_refusal as Subband·settings_refusal, channel_ok as Subband·channel_ok, state_ok as Subband·state_ok}
use Rattle.signal_dependent_erle_estimator.specs.SignalDependent.{settings_refusal as SignalDependent·settings_refusal, boundaries_of, settings_pass, same_first, channel_ok as SignalDependent·channel_ok, state_ok as SignalDependent·state_ok}
use Rattle.signal_dependent_erle_estimator.specs.Steps.{Passed}
use Rattle.signal_dependent_erle_estimator.proofs.Judged.{few-captures, settings-passed, all-judged, lent-passed, powers-passed}
use Rattle.fullband_channel.specs.Channel.{channel_ok as FullBand·channel_ok}
use Rattle.fullband_erle_estimator.specs.FullBand.{settings_refusal as FullBand·settings_refusal, state_ok as FullBand·state_ok}
use Rattle.erle_estimator.specs.declared.ErleEstimator.{ErleEstimator}
use Rattle.erle_estimator.specs.Parts.{subband_settings, signal_settings, fullband_settings, subband_part, signal_part, fullband_part}
use Rattle.erle_estimator.specs.Erle.{Update, state_ok, state_refusal, lent_lengths_ok, lent_values, update_refusal}

-- ---- settings

module _ (g : ErleSettings) (ok : settings_refusal g ≡ accepted) where
  pub signal-settings-passed : SignalDependent·settings_refusal (signal_settings g) ≡ accepted
  unfolding settings_refusal SignalDependent·settings_refusal
  signal-settings-passed = ok

  pub subband-settings-passed : Subband·settings_refusal (subband_settings g) ≡ accepted
  unfolding settings_refusal Subband·settings_refusal
  subband-settings-passed =
      first-passed g.limits.min g.limits.max_l g.limits.max_h g.num_capture_channels g.layout.num_sections g.layout.filter_length_blocks g.layout.delay_headroom_samples ok

  pub fullband-settings-passed : FullBand·settings_refusal (fullband_settings g) ≡ accepted
  unfolding settings_refusal FullBand·settings_refusal
  fullband-settings-passed =
      first-passed g.limits.min g.limits.max_l g.limits.max_h g.num_capture_channels g.layout.num_sections g.layout.filter_length_blocks g.layout.delay_headroom_samples ok

-- the whole estimator and the signal-dependent part judge the same settings
signal-settings-same : (g : ErleSettings) → SignalDependent·settings_refusal (signal_settings g) ≡ settings_refusal g
unfolding SignalDependent·settings_refusal settings_refusal
signal-settings-same g = refl

-- ---- a state

-- what is left to judge where settings and boundaries pass
abbrev channels_ok : ErleEstimator → Bool
channels_ok s =
    let n = s.settings.num_capture_channels in
    list_all Subband·channel_ok (take n s.subband)
    && list_all (SignalDependent·channel_ok s.settings.layout.num_sections) (take n s.signal_dependent)
    && list_all FullBand·channel_ok (take n s.fullband)

module _ (s : ErleEstimator) where
  -- the settings among those that pass
  pub settings-within : settings_pass (signal_settings s.settings) s.section_boundaries_blocks ≡ true → settings_refusal s.settings ≡ accepted
  settings-within ok =
      sym (signal-settings-same s.settings)
      ∙ eqb-true (SignalDependent·settings_refusal (signal_settings s.settings)) accepted
      (and_left
      (eqb (SignalDependent·settings_refusal (signal_settings s.settings)) accepted)
      (same_first (suc s.settings.layout.num_sections) s.section_boundaries_blocks (boundaries_of (signal_settings s.settings))) ok)

  pub channels-left : settings_pass (signal_settings s.settings) s.section_boundaries_blocks ≡ true → channels_ok s ≡ state_ok s
  unfolding state_ok Subband·state_ok SignalDependent·state_ok FullBand·state_ok
  channels-left ok =
      let g = s.settings in
      let passes = settings-within ok in
      rw (ok, eq-eqb _ _ (subband-settings-passed g passes), eq-eqb _ _ (fullband-settings-passed g passes)) refl

  -- settings that fail do not pass
  pub settings-failed : settings_pass (signal_settings s.settings) s.section_boundaries_blocks ≡ false → false ≡ state_ok s
  unfolding state_ok SignalDependent·state_ok
  settings-failed bad = go (Subband·state_ok (subband_part s))
    where
      go :
          (t : Bool)
          → false
          ≡ t
          && (settings_pass (signal_settings s.settings) s.section_boundaries_blocks
          && list_all (SignalDependent·channel_ok s.settings.layout.num_sections) (take s.settings.num_capture_channels s.signal_dependent))
          && FullBand·state_ok (fullband_part s)
      go true = rw bad refl
      go false = refl

module _ (s : ErleEstimator) where
  -- a state that is not turned away
  pub state-passed : state_refusal s ≡ accepted → state_ok s ≡ true
  unfolding state_refusal
  state-passed e = passed (state_ok s) 19 accepted e

  module _ (ok : state_ok s ≡ true) where
    each : (Subband·state_ok (subband_part s) ≡ true) × (SignalDependent·state_ok (signal_part s) ≡ true) × (FullBand·state_ok (fullband_part s) ≡ true)
    unfolding state_ok
    each = each-of-three (Subband·state_ok (subband_part s)) (SignalDependent·state_ok (signal_part s)) (FullBand·state_ok (fullband_part s)) ok

    pub subband-passed : Subband·state_ok (subband_part s) ≡ true
    subband-passed = each.0

    pub signal-passed : SignalDependent·state_ok (signal_part s) ≡ true
    signal-passed = each.1

    pub fullband-passed : FullBand·state_ok (fullband_part s) ≡ true
    fullband-passed = each.2

-- ---- an update

-- an accepted update: each part passes, and all that is lent fits
pub record Accepted (s : ErleEstimator) (u : Update) : Type 0 where
  pub state : state_ok s ≡ true
  pub count : u.channels ≡ s.settings.num_capture_channels
  pub few : s.settings.num_capture_channels ≤ 4
  pub lent : Passed (signal_settings s.settings) u
  pub capture_ok : values_ok u.capture ≡ true
  pub residual_ok : values_ok u.residual ≡ true

pub accepted-call : (s : ErleEstimator) (u : Update) → update_refusal s u ≡ accepted → Accepted s u
unfolding update_refusal
accepted-call s u e =
    let g = signal_settings s.settings in
    let judged = all-judged (state_ok s) g u (lent_lengths_ok g.layout.filter_length_blocks u) (value_refusal (lent_values u)) e in
    let lent = lent-passed g u (settings-passed (signal_part s) (signal-passed s judged.state)) judged.count judged.ring judged.long in
    let (capture_ok, residual_ok) = powers-passed u judged.none in
    record {
      state = judged.state;
      count = judged.count;
      few = few-captures g lent.state;
      lent = lent;
      capture_ok = capture_ok;
      residual_ok = residual_ok;
    }

module _ {s : ErleEstimator} {u : Update} (a : Accepted s u) where
  -- what is lent fits a part that passes
  pub fits : {ok : Bool} → ok ≡ true → UpdateOk ok s.settings.num_capture_channels u.converged u.render u.capture u.residual
  fits ok =
      record {
        state = ok;
        flags = a.lent.flags ∙ a.count;
        long_render = a.lent.render;
        long_capture = rw a.count at a.lent.capture;
        long_residual = rw a.count at a.lent.residual;
        capture_ok = a.capture_ok;
        residual_ok = a.residual_ok;
      }
