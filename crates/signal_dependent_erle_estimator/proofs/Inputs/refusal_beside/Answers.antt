use Rattle.std.proofs.Common.{rules}
use Rattle.aec3_common.specs.Refusal.{lesser}
use Rattle.signal_dependent_erle_estimator.proofs.Inputs.refusal_beside.Goals as goal

pub returns-in-Ok : goal.returns-in-Ok
unfolding lesser
returns-in-Ok c = search rules
