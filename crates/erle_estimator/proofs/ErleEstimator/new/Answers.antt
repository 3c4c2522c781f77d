-- An f32 argument is a value of binary32, so that the claims over lists of calls need no premise.
use Rattle.std.proofs.Common.{◌≡◌, sym, ap, ◌∙◌, rules}
use Rattle.aec3_common.specs.Answers.{number_of}
use Rattle.aec3_common.specs.Refusal.{accepted}
use Rattle.aec3_common.specs.Settings.{settings_refusal}
use Rattle.aec3_common.proofs.Rounding.{holds}
use Rattle.erle_estimator.proofs.Runs.{never-bad-state, figures-in-range}
use Rattle.erle_estimator.proofs.ErleEstimator.new.Goals as goal

-- the settings are accepted
passed : (c : goal.After-started_with) → settings_refusal c.args.settings ≡ accepted
passed c = sym c.judge.ensures ∙ ap number_of c.in_ok-judge.was

pub returns-clause-never_bad_state : goal.returns-clause-never_bad_state
returns-clause-never_bad_state c =
    rw c.started_with.ensures
    (never-bad-state c.args.startup_phase_length_blocks c.args.settings
    (record { min_held = holds (search rules); max_l_held = holds (search rules); max_h_held = holds (search rules) })
    (passed c))

pub returns-clause-figures_in_range : goal.returns-clause-figures_in_range
returns-clause-figures_in_range c =
    rw c.started_with.ensures
    (figures-in-range c.args.startup_phase_length_blocks c.args.settings
    (record { min_held = holds (search rules); max_l_held = holds (search rules); max_h_held = holds (search rules) })
    (passed c))
