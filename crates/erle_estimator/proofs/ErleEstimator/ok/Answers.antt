use Rattle.std.proofs.Common.{◌≡◌, Bool, sym, ap, ◌∙◌, ◌&&◌, arith, rules}
use Rattle.std.proofs.lemmas.Iterator.{YieldsList-from_slice, YieldsList-from_take}
use Rattle.std.proofs.lemmas.Iterator.Search.{all_from_yields_List}
use Rattle.subband_erle_estimator.specs.Subband.{channel_ok as Subband·channel_ok}
use Rattle.signal_dependent_erle_estimator.specs.declared.settings.SignalDependentSettings.{SignalDependentSettings}
use Rattle.signal_dependent_erle_estimator.specs.SignalDependent.{settings_pass, channel_ok as SignalDependent·channel_ok}
use Rattle.signal_dependent_erle_estimator.proofs.Judged.{eight-sections}
use Rattle.fullband_channel.specs.Channel.{channel_ok as FullBand·channel_ok}
use Rattle.erle_estimator.specs.declared.ErleEstimator.{ErleEstimator}
use Rattle.erle_estimator.specs.Parts.{signal_settings}
use Rattle.erle_estimator.proofs.Judged.{settings-within, channels-left, settings-failed, signal-settings-passed}
use Rattle.erle_estimator.proofs.ErleEstimator.ok.Goals as goal

-- settings and boundaries, as the code has judged them
passes :
    (s : ErleEstimator) {g : SignalDependentSettings} {passed answer : Bool} → g ≡ signal_settings s.settings
    → passed ≡ settings_pass g s.section_boundaries_blocks → passed ≡ answer → settings_pass (signal_settings s.settings) s.section_boundaries_blocks ≡ answer
passes s share told e = ap (λ (g : SignalDependentSettings). settings_pass g s.section_boundaries_blocks) (sym share) ∙ sym told ∙ e

pub returns-then-not-settings_pass : goal.returns-then-not-settings_pass
returns-then-not-settings_pass c =
    settings-failed c.args.self.now (passes c.args.self.now c.into.ensures c.settings_pass.ensures c.if-not-settings_pass.true)

pub overflow_cast-sections : goal.overflow_cast-sections
overflow_cast-sections c =
    let g = c.args.self.now.settings in
    let ok = settings-within c.args.self.now (passes c.args.self.now c.into.ensures c.settings_pass.ensures c.if-not-settings_pass.false) in
    record { fits = omega (arith, eight-sections (signal_settings g) (signal-settings-passed g ok)) }

pub returns : goal.returns
returns c =
    let s = c.args.self.now in
    let n = s.settings.num_capture_channels in
    let subband =
    all_from_yields_List Subband·channel_ok _ _ c.all-subband.result c.all-subband.ensures.ran
    (YieldsList-from_take n (YieldsList-from_slice s.subband (search rules)) (search rules)) (λ x b q k. search rules) in
    let signal =
    all_from_yields_List (SignalDependent·channel_ok s.settings.layout.num_sections) _ _ c.all-signal_dependent.result c.all-signal_dependent.ensures.ran
    (YieldsList-from_take n (YieldsList-from_slice s.signal_dependent (search rules)) (search rules)) (λ x b q k. search rules) in
    let fullband =
    all_from_yields_List FullBand·channel_ok _ _ c.all-fullband.result c.all-fullband.ensures.ran
    (YieldsList-from_take n (YieldsList-from_slice s.fullband (search rules)) (search rules)) (λ x b q k. search rules) in
    (λ i. subband i && signal i && fullband i)
    ∙ channels-left s (passes s c.into.ensures c.settings_pass.ensures c.if-not-settings_pass.false)
