use Rattle.std.proofs.Common.{refl}
use Rattle.aec3_common.specs.Lists.{tab}
use Rattle.erl_estimator.specs.Erl.{started}
use Rattle.erl_estimator.proofs.Range.{figures-in-range}
use Rattle.erl_estimator.proofs.ErlEstimator.new.Goals as goal

pub returns-clause-value : goal.returns-clause-value
unfolding started tab
returns-clause-value c = refl

pub returns-clause-figures_in_range : goal.returns-clause-figures_in_range
unfolding started tab
returns-clause-figures_in_range c = figures-in-range c.args.startup_phase_length_blocks
