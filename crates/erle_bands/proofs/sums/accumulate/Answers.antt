use Rattle.std.proofs.Common.{rules, false, get_or}
use Rattle.std.specs.Float.{nan}
use Rattle.aec3_common.proofs.Changes.{changed-all}
use Rattle.erle_bands.specs.Band.{sum_with}
use Rattle.erle_bands.specs.Steps.{sums_with}
use Rattle.erle_bands.proofs.sums.accumulate.Goals as goal

pub returns : goal.returns
unfolding sums_with sum_with
returns c =
    changed-all nan (λ k sum. sum_with false sum (get_or c.args.powers.now k nan)) c.change.ensures (search rules) (λ k x y h r. search rules)
