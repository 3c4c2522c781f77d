use Rattle.std.proofs.Common.{rules, pos, get_or}
use Rattle.std.specs.Float.{nan}
use Rattle.aec3_common.proofs.Changes.{changed-between}
use Rattle.erle_bands.specs.Band.{compensated_beside}
use Rattle.erle_bands.specs.Steps.{all_compensated_beside}
use Rattle.erle_bands.proofs.onsets.decay_all.Goals as goal

pub returns : goal.returns
unfolding all_compensated_beside
returns c =
    changed-between {n = 65} nan (λ k erle. compensated_beside c.args.min (get_or c.args.holds.now k (pos 0)) (get_or c.args.onsets.now k nan) erle)
    c.change.ensures (search rules) (λ k x y h r. search rules)
