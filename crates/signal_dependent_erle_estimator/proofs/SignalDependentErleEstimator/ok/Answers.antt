use Rattle.std.proofs.Common.{◌≡◌, true, sym, eqb-true, arith, rules}
use Rattle.std.proofs.lemmas.Iterator.{YieldsList-from_slice, YieldsList-from_take}
use Rattle.std.proofs.lemmas.Iterator.Search.{all_from_yields_List}
use Rattle.aec3_common.specs.Refusal.{accepted}
use Rattle.aec3_common.proofs.Choices.{and_left}
use Rattle.signal_dependent_erle_estimator.specs.SignalDependent.{settings_refusal, settings_pass, channel_ok, state_ok}
use Rattle.signal_dependent_erle_estimator.proofs.Judged.{eight-sections}
use Rattle.signal_dependent_erle_estimator.proofs.SignalDependentErleEstimator.ok.Goals as goal

pub overflow_cast-sections : goal.overflow_cast-sections
overflow_cast-sections c =
    let g = c.args.self.now.settings in
    let passes : settings_pass g c.args.self.now.section_boundaries_blocks ≡ true = sym c.if-not-settings_pass.ensures in
    record { fits = omega (arith, eight-sections g (eqb-true (settings_refusal g) accepted (and_left _ _ passes))) }

pub returns : goal.returns
unfolding state_ok
returns c =
    let s = c.args.self.now in
    rw (sym c.if-not-settings_pass.ensures)
    (all_from_yields_List (channel_ok s.settings.layout.num_sections) _ _ c.all.result c.all.ensures.ran
    (YieldsList-from_take s.settings.num_capture_channels (YieldsList-from_slice s.channels (search rules)) (search rules))
    (λ x b q k. search rules))
