-- Of ring, spectra and responses only the active section of each channel and band reaches a state.
use mathlib.Core.Path.{◌≡◌, refl, sym, ap, ◌∙◌}
use mathlib.Core.Bool.{Bool, cond}
use mathlib.Core.List.{List}
use Prim.Native.Nat.{ℕ, ◌<◌}
use borrow.Author.Tests.{eq-eqb}
use lib.Dec.{ltb, eqb}
use Rattle.aec3_common.proofs.Choices.{cond_has}
use Rattle.subband_erle_estimator.specs.Subband.{channel_at as Subband·channel_at, updated as Subband·updated}
use Rattle.signal_dependent_erle_estimator.specs.SignalDependent.{sections_found}
use Rattle.signal_dependent_erle_estimator.specs.declared.SignalDependentErleEstimator.{SignalDependentErleEstimator}
use Rattle.signal_dependent_erle_estimator.proofs.Updates.{block-alone}
use Rattle.fullband_erle_estimator.specs.FullBand.{updated as FullBand·updated}
use Rattle.erle_estimator.specs.declared.ErleEstimator.{ErleEstimator}
use Rattle.erle_estimator.specs.Parts.{signal_settings, subband_part, signal_part, fullband_part, with_records}
use Rattle.aec3_common.specs.Refusal.{accepted}
use Rattle.erle_estimator.specs.Erle.{Update, Powers, powers_of, state_refusal, update_refusal, active_in, started_with, counted, updated, after_block, after_accepted, update_answer, after_reset, reset_answer}
use Rattle.erle_estimator.specs.Sections.{BySections, SectionsStay, UpdateBySections}

module _ (s : ErleEstimator) (p : Powers) {active other : ℕ → List ℕ} where
  -- with one section none is looked at, otherwise those of the state's channels
  updated-alone :
      (1 < s.settings.layout.num_sections → (ch : ℕ) → ch < s.settings.num_capture_channels → active ch ≡ other ch)
      → updated s p active ≡ updated s p other
  unfolding updated
  updated-alone same =
      let subband = Subband·updated (subband_part s) p.converged p.render p.capture p.residual in
      let own = Subband·channel_at subband in
      let fullband = FullBand·updated (fullband_part s) p.converged p.render p.capture p.residual in
      ap
      (λ (r : SignalDependentErleEstimator). with_records s s.blocks_since_reset subband.channels r.channels fullband.channels)
      (block-alone (signal_part s) p (λ ch. (own ch).erle) (λ ch. (own ch).erle_onset_compensated) same)

pub sections-alone :
    (s : ErleEstimator) (p : Powers) {active other : ℕ → List ℕ}
    → (1 < s.settings.layout.num_sections → (ch : ℕ) → ch < s.settings.num_capture_channels → active ch ≡ other ch)
    → after_block s p active ≡ after_block s p other
unfolding after_block counted
sections-alone s p same =
    ap (λ (r : ErleEstimator). cond (ltb (counted s).blocks_since_reset s.startup_phase_length_blocks) (counted s) r) (updated-alone (counted s) p same)

-- no update changes settings or boundaries
module _ (s : ErleEstimator) (u : Update) where
  abbrev Like : ErleEstimator → Type 0
  Like t = (t.settings ≡ s.settings) × (t.section_boundaries_blocks ≡ s.section_boundaries_blocks)

  pub after-like : Like (after_accepted s u)
  unfolding after_accepted after_block counted updated
  after-like =
      cond_has Like (ltb (counted s).blocks_since_reset s.startup_phase_length_blocks) (λ early. (refl, refl)) (λ late. (refl, refl))

  pub answer-like : Like (update_answer s u).state
  unfolding update_answer
  answer-like = cond_has Like (eqb (update_refusal s u) accepted) (λ e. after-like) (λ e. (refl, refl))

-- nor does a reset, where the boundaries are those that the settings give
pub reset-like : (s : ErleEstimator) (delay_change : Bool) → SectionsStay s delay_change
unfolding reset_answer after_reset started_with
reset-like s delay_change =
    let passes = eqb (state_refusal s) accepted in
    record {
      settings = cond_has (λ (t : ErleEstimator). t.settings ≡ s.settings) passes (λ e. refl) (λ e. refl);
      boundaries = λ given.
          cond_has (λ (t : ErleEstimator). t.section_boundaries_blocks ≡ s.section_boundaries_blocks) passes (λ e. sym given) (λ e. refl);
    }

by-sections : (s : ErleEstimator) (u : Update) → BySections s u
unfolding update_answer after_accepted
by-sections s u =
    record {
      inner = λ e. rw (eq-eqb _ _ e) refl;
      alone = λ v e f powers same.
          rw (eq-eqb _ _ e, eq-eqb _ _ f)
          (sections-alone s (powers_of u) (λ many. same) ∙ ap (λ (p : Powers). after_block s p (active_in s v)) powers);
      earlier = λ t v settings boundaries echoes.
          λ i. sections_found (signal_settings (settings i)) (boundaries i) (echoes i);
      settings = (answer-like s u).0;
      boundaries = (answer-like s u).1;
    }

pub update-by-sections : UpdateBySections
unfolding UpdateBySections
update-by-sections s = (by-sections s, reset-like s)
