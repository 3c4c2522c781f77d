use Rattle.std.proofs.Common.{◌≡◌, ℕ, ◌≤◌, List, refl, ap, ◌∙◌, sym, cond, ltb, lt-ltb, le-ltb}
use Rattle.aec3_common.specs.declared.settings.ErleSettings.{ErleSettings}
use Rattle.aec3_common.specs.Counts.{one_more}
use Rattle.erle_estimator.specs.declared.ErleEstimator.{ErleEstimator}
use Rattle.erle_estimator.specs.Parts.{with_records}
use Rattle.erle_estimator.specs.Erle.{Powers, counted, updated, after_block}
use Rattle.erle_estimator.specs.Steps.{BlockFits, SectionsFit, moved_by_powers, moved_by_sections}
use Rattle.erle_estimator.proofs.Updates.{updated-is}
use Rattle.erle_estimator.proofs.ErleEstimator.advance.Goals as goal

-- records that have moved by a block's powers, in a state like s
module _ (s : ErleEstimator) (p : Powers) {r : ErleEstimator} (moved : r ≡ moved_by_powers s p) where
  -- the settings are those that they were
  settings-stay : r.settings ≡ s.settings
  unfolding moved_by_powers
  settings-stay = ap (λ (z : ErleEstimator). z.settings) moved

  fits-after : {n : ℕ} → BlockFits s n p → BlockFits r n p
  fits-after f =
      let count = ap (λ (g : ErleSettings). g.num_capture_channels) (sym settings-stay) in
      record { count = f.count ∙ count; few = f.few; flags = f.flags; render = f.render; capture = f.capture; residual = f.residual }

  sections-after : {n : ℕ} {active : ℕ → List ℕ} → SectionsFit s n active → SectionsFit r n active
  sections-after f =
      let same = ap (λ (g : ErleSettings). g.layout.num_sections) (sym settings-stay) in
      record { some = rw same at f.some; few = rw same at f.few; below = rw same at f.below }

-- the state with one block more counted, after the startup phase
module _ (s : ErleEstimator) (p : Powers) (active : ℕ → List ℕ) {blocks : ℕ} (raised : blocks ≡ one_more s.blocks_since_reset) (over : s.startup_phase_length_blocks ≤ blocks) where
  abbrev from : ErleEstimator
  from = with_records s blocks s.subband s.signal_dependent s.fullband

  block-over :
      {r : ErleEstimator}
      → r ≡ cond (ltb 1 s.settings.layout.num_sections) (moved_by_sections (moved_by_powers from p) p active) (moved_by_powers from p)
      → r ≡ after_block s p active
  unfolding after_block counted
  block-over e =
      rw (le-ltb _ _ (rw raised at over))
      (e ∙ updated-is from p active ∙ ap (λ (n : ℕ). updated (with_records s n s.subband s.signal_dependent s.fullband) p active) raised)

pub move_by_sections-requires-clause-fits : goal.move_by_sections-requires-clause-fits
move_by_sections-requires-clause-fits c =
    fits-after _ _ c.move_by_powers.ensures
    (record {
      count = c.requires.fits.count;
      few = c.requires.fits.few;
      flags = c.requires.fits.flags;
      render = c.requires.fits.render;
      capture = c.requires.fits.capture;
      residual = c.requires.fits.residual;
    })

pub move_by_sections-requires-clause-sections : goal.move_by_sections-requires-clause-sections
move_by_sections-requires-clause-sections c =
    let fit = c.requires.sections (rw (settings-stay _ _ c.move_by_powers.ensures) at c.if-self-gt1.true) in
    sections-after _ _ c.move_by_powers.ensures (record { some = fit.some; few = fit.few; below = fit.below })

pub returns-then-self-gt1 : goal.returns-then-self-gt1
returns-then-self-gt1 c =
    let many = lt-ltb _ _ (rw (settings-stay _ _ c.move_by_powers.ensures) at c.if-self-gt1.true) in
    block-over _ _ _ c.one_more-blocks.ensures c.if-self-blocks.true
    (c.move_by_sections.ensures ∙ rw (c.move_by_powers.ensures, many) refl)

pub returns-else-self-gt1 : goal.returns-else-self-gt1
returns-else-self-gt1 c =
    let one = le-ltb _ _ (rw (settings-stay _ _ c.move_by_powers.ensures) at c.if-self-gt1.false) in
    block-over _ _ _ c.one_more-blocks.ensures c.if-self-blocks.true (c.move_by_powers.ensures ∙ rw one refl)

pub returns-else-self-blocks : goal.returns-else-self-blocks
unfolding after_block counted
returns-else-self-blocks c =
    let raised = c.one_more-blocks.ensures in
    simp (raised, lt-ltb _ _ (rw raised at c.if-self-blocks.false))
