use Rattle.std.proofs.Common.{rules, false, pos, get_or}
use Rattle.aec3_common.proofs.Changes.{changed-between}
use Rattle.erle_bands.specs.Band.{waits_beside}
use Rattle.erle_bands.specs.Steps.{all_waits_beside}
use Rattle.erle_bands.proofs.onsets.wait_all.Goals as goal

pub returns : goal.returns
unfolding all_waits_beside
returns c =
    changed-between {n = 65} false (λ k wait. waits_beside (get_or c.args.holds.now k (pos 0)) wait) c.change.ensures (search rules) (λ k x y h r. search rules)
