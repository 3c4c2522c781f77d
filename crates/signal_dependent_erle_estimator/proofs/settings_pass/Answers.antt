use Rattle.std.proofs.Common.{◌≡◌, arith, rules}
use Rattle.aec3_common.specs.Refusal.{accepted}
use Rattle.signal_dependent_erle_estimator.specs.SignalDependent.{settings_refusal}
use Rattle.signal_dependent_erle_estimator.proofs.Judged.{eight-sections}
use Rattle.signal_dependent_erle_estimator.proofs.settings_pass.Goals as goal

pub overflow_add-settings : goal.overflow_add-settings
overflow_add-settings c =
    let passes : settings_refusal c.args.settings ≡ accepted = search rules in
    record { fits = omega (arith, eight-sections _ passes) }

pub same_first-requires : goal.same_first-requires
same_first-requires c =
    let passes : settings_refusal c.args.settings ≡ accepted = search rules in
    omega (arith, eight-sections _ passes)
