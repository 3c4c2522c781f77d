-- An f32 argument is a value of binary32, so that the claims over lists of calls need no premise.
use Rattle.std.proofs.Common.{◌≡◌, sym, ap, ◌∙◌, rules}
use Rattle.aec3_common.specs.Answers.{number_of}
use Rattle.aec3_common.proofs.Rounding.{holds}
use Rattle.subband_erle_estimator.specs.Subband.{settings_refusal}
use Rattle.subband_erle_estimator.proofs.Accepted.{never-bad-state}
use Rattle.subband_erle_estimator.proofs.Resting.{figures-in-range-and-at-rest}
use Rattle.subband_erle_estimator.proofs.SubbandErleEstimator.new.Goals as goal

pub returns-clause-range_and_rest : goal.returns-clause-range_and_rest
returns-clause-range_and_rest c =
    λ calls e.
    let passed : settings_refusal c.args.settings ≡ 0 = sym c.judge.ensures ∙ ap number_of c.in_ok-judge.was in
    figures-in-range-and-at-rest c.args.settings (record { min_held = holds (search rules); max_l_held = holds (search rules); max_h_held = holds (search rules) })
    passed calls

pub returns-clause-never_bad_state : goal.returns-clause-never_bad_state
returns-clause-never_bad_state c =
    let passed : settings_refusal c.args.settings ≡ 0 = sym c.judge.ensures ∙ ap number_of c.in_ok-judge.was in
    rw c.started.ensures
    (never-bad-state c.args.settings (record { min_held = holds (search rules); max_l_held = holds (search rules); max_h_held = holds (search rules) }) passed)
