-- What ring, spectra, counts and responses are to an update: the active section of each channel and band, and nothing else.
use Rattle.std.specs.Prelude.{◌≡◌, Bool, ℕ, ◌<◌}
use Rattle.aec3_common.specs.Refusal.{accepted}
use Rattle.signal_dependent_erle_estimator.specs.SignalDependent.{boundaries_of}
use Rattle.erle_estimator.specs.declared.ErleEstimator.{ErleEstimator}
use Rattle.erle_estimator.specs.Parts.{signal_settings}
use Rattle.erle_estimator.specs.Erle.{Update, echoes_of, powers_of, update_refusal, active_in, after_block, update_answer, reset_answer}

-- of an update of a state
pub record BySections (s : ErleEstimator) (u : Update) : Type 0 where
  pub inner : update_refusal s u ≡ accepted → (update_answer s u).state ≡ after_block s (powers_of u) (active_in s u)
  pub alone :
      (v : Update) → update_refusal s u ≡ accepted → update_refusal s v ≡ accepted → powers_of u ≡ powers_of v
      → ((ch : ℕ) → ch < s.settings.num_capture_channels → active_in s u ch ≡ active_in s v ch)
      → (update_answer s u).state ≡ (update_answer s v).state
  pub earlier :
      (t : ErleEstimator) (v : Update) → t.settings ≡ s.settings → t.section_boundaries_blocks ≡ s.section_boundaries_blocks → echoes_of v ≡ echoes_of u
      → active_in t v ≡ active_in s u
  pub settings : (update_answer s u).state.settings ≡ s.settings
  pub boundaries : (update_answer s u).state.section_boundaries_blocks ≡ s.section_boundaries_blocks

-- of a reset of a state
pub record SectionsStay (s : ErleEstimator) (delay_change : Bool) : Type 0 where
  pub settings : (reset_answer s delay_change).state.settings ≡ s.settings
  pub boundaries :
      s.section_boundaries_blocks ≡ boundaries_of (signal_settings s.settings)
      → (reset_answer s delay_change).state.section_boundaries_blocks ≡ s.section_boundaries_blocks

-- Claim, phrase by phrase:
-- "Of ring, spectra, counts and responses only the active section of each channel and band reaches a figure" -> alone: two updates of one state that are
--     accepted, with the same powers and flags, leave the same state if they find the same active sections
-- "and it depends on nothing else in the block" -> earlier: in whatever update and state of the same settings and boundaries the same ring, spectra,
--     counts and responses come, the same sections are found; and no update or reset changes settings and boundaries (those that the settings give, as
--     a start makes them), so that they may be found before it
-- "judging, then active sections found, then the inner update" -> inner, for an update that is accepted
unfoldable pub UpdateBySections : Type 0
UpdateBySections = (s : ErleEstimator) → ((u : Update) → BySections s u) × ((delay_change : Bool) → SectionsStay s delay_change)
