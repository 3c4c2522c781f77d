use Rattle.std.proofs.Common.{rules, get_or}
use Rattle.std.specs.Float.{nan}
use Rattle.aec3_common.specs.Binary32.{larger}
use Rattle.aec3_common.proofs.Changes.{changed-all}
use Rattle.erl_estimator.proofs.reduce.raise.Goals as goal

pub returns : goal.returns
returns c = changed-all nan (λ k own. larger own (get_or c.args.other.now k nan)) c.change.ensures (search rules) (λ k x y h r. search rules)
