use Rattle.std.proofs.Common.{rules, false, get_or}
use Rattle.std.specs.Float.{nan}
use Rattle.aec3_common.proofs.Changes.{changed-all}
use Rattle.erle_bands.specs.Band.{low_with}
use Rattle.erle_bands.specs.Steps.{lows_with}
use Rattle.erle_bands.proofs.sums.accumulate_low_energy.Goals as goal

pub returns : goal.returns
unfolding lows_with low_with
returns c =
    changed-all false (λ k low. low_with false low (get_or c.args.x2.now k nan)) c.change.ensures (search rules) (λ k x y h r. search rules)
