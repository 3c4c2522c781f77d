-- What inner functions of the code promise or ask; no part of the definition.
use Rattle.std.specs.Prelude.{◌≡◌, Bool, true, ℕ, ◌*◌, leb, length}
use Rattle.std.specs.List.{list_all}
use Rattle.aec3_common.specs.Refusal.{accepted}
use Rattle.section_echoes.specs.Packed.{total}
use Rattle.section_echoes.specs.Steps.{RingFits}
use Rattle.signal_dependent_erle_estimator.specs.declared.settings.SignalDependentSettings.{SignalDependentSettings}
use Rattle.signal_dependent_erle_estimator.specs.SignalDependent.{Update, settings_refusal, lent_lengths_ok, refusal_by}
use Rattle.aec3_common.specs.Settings.{max_filter_length_blocks}

-- what an accepted update is lent: settings and a ring that pass, and all as long as the channels and the counts ask
pub record Passed (g : SignalDependentSettings) (u : Update) : Type 0 where
  pub state : settings_refusal g ≡ accepted
  pub count : u.channels ≡ g.num_capture_channels
  pub ring : RingFits u.ring u.spectra
  pub flags : length u.converged ≡ u.channels
  pub render : length u.render ≡ 65
  pub capture : length u.capture ≡ u.channels * 65
  pub residual : length u.residual ≡ u.channels * 65
  pub counts : length u.counts ≡ u.channels
  pub blocks : list_all (λ n. leb n max_filter_length_blocks) u.counts ≡ true
  pub responses : length u.responses ≡ total u.counts * 65

-- the first of all but 6, which comes last
abbrev pub form_refusal : Bool → SignalDependentSettings → Update → ℕ
form_refusal passes20 g u = refusal_by passes20 g u (lent_lengths_ok g.layout.filter_length_blocks u) accepted
