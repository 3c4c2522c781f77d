-- An f32 argument is a value of binary32, so that the claims over lists of calls need no premise.
use Rattle.std.proofs.Common.{sym, ap, ◌∙◌, rules}
use Rattle.aec3_common.specs.Answers.{number_of}
use Rattle.aec3_common.proofs.Rounding.{holds}
use Rattle.signal_dependent_erle_estimator.proofs.Runs.{SettingsOk, settings-ok, never-bad-state, figures-in-range}
use Rattle.signal_dependent_erle_estimator.proofs.SignalDependentErleEstimator.new.Goals as goal

-- the settings are accepted
settings-passed : (c : goal.After-started) → SettingsOk c.args.settings
settings-passed c =
    settings-ok c.args.settings (record { min_held = holds (search rules); max_l_held = holds (search rules); max_h_held = holds (search rules) })
    (sym c.judge.ensures ∙ ap number_of c.in_ok-judge.was)

pub returns-clause-never_bad_state : goal.returns-clause-never_bad_state
returns-clause-never_bad_state c = rw c.started.ensures (never-bad-state c.args.settings (settings-passed c))

pub returns-clause-figures_in_range : goal.returns-clause-figures_in_range
returns-clause-figures_in_range c = rw c.started.ensures (figures-in-range c.args.settings (settings-passed c))
