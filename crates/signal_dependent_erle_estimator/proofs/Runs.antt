-- No call of a run from an accepted start is refused under 20.
use mathlib.Core.Path.{◌≡◌, refl, sym, ap, subst}
use mathlib.Core.Bool.{true}
use mathlib.Core.List.{List, ◌++◌}
use Prim.Native.Nat.{ℕ, zero, suc, ◌≤◌, ◌<◌}
use native.Mathlib.Omega.{arith}
use borrow.Author.Tests.{eq-eqb, eqb-true}
use lib.Dec.{ltb, eqb}
use lib.Ieee.{Float}
use lib.ListN.{get_or}
use Rattle.std.specs.List.{list_all}
use Rattle.aec3_common.specs.Refusal.{accepted, bad_state}
use Rattle.aec3_common.specs.Spectra.{part}
use Rattle.aec3_common.proofs.Calls.{limits-passed, first-passed, run-keeps}
use Rattle.aec3_common.proofs.Choices.{cond_has}
use Rattle.aec3_common.proofs.Values.{values-not-20}
use Rattle.aec3_common.proofs.Every.{list_all_first}
use Rattle.aec3_common.proofs.Limits.{InBinary32}
use Rattle.aec3_common.proofs.Tables.{get_or-tab, get_or-tab-first}
use Rattle.filter_sections.proofs.Limits.{AllInOrder, all-in-order}
use Rattle.correction_factors.specs.Factors.{subband_sums}
use Rattle.signal_dependent_erle_estimator.specs.declared.settings.SignalDependentSettings.{SignalDependentSettings}
use Rattle.signal_dependent_erle_estimator.specs.declared.channel.SignalDependentChannel.{SignalDependentChannel}
use Rattle.signal_dependent_erle_estimator.specs.declared.SignalDependentErleEstimator.{SignalDependentErleEstimator}
use Rattle.signal_dependent_erle_estimator.specs.Channel.{fresh_channel, channel_after}
use Rattle.signal_dependent_erle_estimator.specs.SignalDependent.{Update, Powers, powers_of, settings_refusal, boundaries_of, same_first, channel_ok, state_ok, state_refusal, lent_values, refusal_of, update_refusal, started, reset_answer, no_channel, channel_at, active_of, lent_to, updated, after_block, after_accepted, update_answer}
use Rattle.signal_dependent_erle_estimator.specs.Runs.{Call, update, reset, answer, run, NeverBadState}
use Rattle.signal_dependent_erle_estimator.specs.Range.{FiguresInRange}
use Rattle.signal_dependent_erle_estimator.proofs.Channels.{ChannelKept, LentOk, spectrum-part, fresh_kept, after_kept, channel-in-range}
use Rattle.signal_dependent_erle_estimator.proofs.Judged.{few-captures, one-section, eight-sections, update-passed, refusal-not-20}
use Rattle.signal_dependent_erle_estimator.proofs.Updates.{active-within}

-- ---- what every call keeps

same-as-itself : (n : ℕ) (xs : List ℕ) → same_first n xs xs ≡ true
unfolding same_first
same-as-itself zero xs = refl
same-as-itself (suc n) xs = simp (same-as-itself n xs, eq-eqb (get_or xs n 0) (get_or xs n 0) refl)

-- settings that pass, of values of binary32
pub record SettingsOk (g : SignalDependentSettings) : Type 0 where
  pub passed : settings_refusal g ≡ accepted
  pub limits : AllInOrder g.limits.min g.limits.max_l g.limits.max_h

pub settings-ok : (g : SignalDependentSettings) → InBinary32 g.limits.min g.limits.max_l g.limits.max_h → settings_refusal g ≡ accepted → SettingsOk g
unfolding settings_refusal
settings-ok g held passed =
    record {
      passed = passed;
      limits =
          all-in-order g.limits.min g.limits.max_l g.limits.max_h held
          (limits-passed g.limits.min g.limits.max_l g.limits.max_h g.num_capture_channels
          (first-passed g.limits.min g.limits.max_l g.limits.max_h g.num_capture_channels g.layout.num_sections g.layout.filter_length_blocks g.layout.delay_headroom_samples passed));
    }

-- the settings of the start and their boundaries, and what each channel keeps
pub record Kept (g : SignalDependentSettings) (s : SignalDependentErleEstimator) : Type 0 where
  pub settings : s.settings ≡ g
  boundaries : s.section_boundaries_blocks ≡ boundaries_of g
  pub channels : (ch : ℕ) → ch < g.num_capture_channels → ChannelKept g (channel_at s ch)

-- what an accepted update lends its channels
abbrev pub AllLentOk : ℕ → Powers → (ℕ → List Float) → (ℕ → List Float) → Type 0
AllLentOk n p average average_compensated = (ch : ℕ) → ch < n → LentOk (lent_to p average average_compensated ch)

-- sections that are found of n channels, each below the section count
abbrev pub SectionsBelow : ℕ → ℕ → (ℕ → List ℕ) → Type 0
SectionsBelow sections n active = (ch : ℕ) → ch < n → list_all (λ k. ltb k sections) (active ch) ≡ true

-- and so it does with two packed streams
all-lent-ok :
    (s : SignalDependentErleEstimator) (u : Update) (average average_compensated : List Float)
    → update_refusal s u average average_compensated ≡ accepted
    → AllLentOk s.settings.num_capture_channels (powers_of u) (part average) (part average_compensated)
all-lent-ok s u average average_compensated e ch h =
    let ok = update-passed s u average average_compensated e in
    let lent = ok.lent in
    let inside : ch < u.channels = omega (arith, lent.count) in
    record {
      capture = spectrum-part u.channels u.capture ch lent.capture ok.capture_ok inside;
      average = spectrum-part u.channels average ch ok.plain ok.plain_ok inside;
      compensated = spectrum-part u.channels average_compensated ch ok.compensated ok.compensated_ok inside;
    }

module _ (g : SignalDependentSettings) (ok : SettingsOk g) where
  pub started-kept : Kept g (started g)
  unfolding started
  started-kept =
      record {
        settings = refl;
        boundaries = refl;
        channels = λ ch h.
            subst (ChannelKept g) (sym (get_or-tab 4 (λ c. fresh_channel g.limits.min) ch no_channel (omega (arith, few-captures g ok.passed))))
            (fresh_kept g (one-section g ok.passed) (eight-sections g ok.passed) ok.limits);
      }

  pub updated-kept :
      (s : SignalDependentErleEstimator) (p : Powers) (active : ℕ → List ℕ) (average average_compensated : ℕ → List Float)
      → Kept g s → SectionsBelow g.layout.num_sections g.num_capture_channels active → AllLentOk g.num_capture_channels p average average_compensated
      → Kept g (updated s p active average average_compensated)
  unfolding updated
  updated-kept s p active average average_compensated kept below lent =
      let next : SignalDependentSettings → ℕ → SignalDependentChannel = λ held ch.
      channel_after held (active ch) (subband_sums p.render) (lent_to p average average_compensated ch) (channel_at s ch) in
      let n = s.settings.num_capture_channels in
      let same : n ≡ g.num_capture_channels = ap (λ (h : SignalDependentSettings). h.num_capture_channels) kept.settings in
      let few : n ≤ 4 = omega (arith, same, few-captures g ok.passed) in
      record {
        settings = kept.settings;
        boundaries = kept.boundaries;
        channels = λ ch h.
            subst (λ (c : SignalDependentChannel). ChannelKept g c)
            (sym (get_or-tab-first 4 n (next s.settings) (channel_at s) ch no_channel few (omega (arith, h, same))))
            (subst (λ (held : SignalDependentSettings). ChannelKept g (next held ch)) (sym kept.settings)
            (after_kept g (one-section g ok.passed) (eight-sections g ok.passed) ok.limits (active ch) (below ch h)
            p.render (lent_to p average average_compensated ch) (lent ch h) (channel_at s ch) (kept.channels ch h)));
      }

  -- the sections that are found are below the section count
  pub found-below : (s : SignalDependentErleEstimator) (u : Update) → Kept g s → SectionsBelow g.layout.num_sections g.num_capture_channels (active_of s u)
  found-below s u kept ch h =
      let sections = ap (λ (h : SignalDependentSettings). h.layout.num_sections) kept.settings in
      subst (λ (m : ℕ). list_all (λ n. ltb n m) (active_of s u ch) ≡ true) sections (active-within s u ch (omega (arith, sections, one-section g ok.passed)))

  answer-kept : (s : SignalDependentErleEstimator) (c : Call) → Kept g s → Kept g (answer s c).state
  unfolding answer update_answer after_accepted after_block reset_answer
  answer-kept s (update u average average_compensated) kept =
      cond_has (Kept g) (eqb (update_refusal s u average average_compensated) accepted)
      (λ e.
      cond_has (Kept g) (ltb 1 s.settings.layout.num_sections)
      (λ q. updated-kept s (powers_of u) (active_of s u) (part average) (part average_compensated) kept (found-below s u kept) (rw kept.settings at (all-lent-ok s u average average_compensated (eqb-true _ accepted e))))
      (λ q. kept))
      (λ e. kept)
  answer-kept s reset kept = cond_has (Kept g) (eqb (state_refusal s) accepted) (λ e. rw kept.settings started-kept) (λ e. kept)

  run-kept : (calls : List Call) → Kept g (run (started g) calls)
  unfolding run
  run-kept calls = run-keeps (Kept g) (λ s c. (answer s c).state) answer-kept calls _ started-kept

  pub state-ok : (s : SignalDependentErleEstimator) → Kept g s → state_ok s ≡ true
  unfolding state_ok
  state-ok s kept =
      rw (kept.settings, kept.boundaries, ok.passed)
      (simp (
        same-as-itself (suc g.layout.num_sections) (boundaries_of g),
        list_all_first (channel_ok g.layout.num_sections) g.num_capture_channels s.channels no_channel (λ ch h. (kept.channels ch h).sections),
      ))

-- ---- never refused under 20

answer-not-20 : (s : SignalDependentErleEstimator) (c : Call) → state_ok s ≡ true → (answer s c).refused ≡ bad_state → ⊥
unfolding answer update_answer update_refusal refusal_of reset_answer state_refusal
answer-not-20 s (update u average average_compensated) ok e =
    refusal-not-20 s.settings u _ _ (values-not-20 (lent_values u ++ average ++ average_compensated)) (rw ok at e)
answer-not-20 s reset ok e = let never : ◌≡◌ {A = ℕ} 0 20 = rw ok at e in omega arith

pub never-bad-state : (g : SignalDependentSettings) → SettingsOk g → NeverBadState (started g)
unfolding NeverBadState
never-bad-state g ok calls next =
    let s = run (started g) calls in
    answer-not-20 s next (state-ok g ok s (run-kept g ok calls))

-- ---- figures

pub figures-in-range : (g : SignalDependentSettings) → SettingsOk g → FiguresInRange g (started g)
unfolding FiguresInRange
figures-in-range g ok calls ch h = channel-in-range ok.limits ((run-kept g ok calls).channels ch h)
