use Rattle.std.proofs.Common.{rules, get_or}
use Rattle.std.specs.Float.{nan}
use Rattle.erle_bands.specs.Band.{ratio}
use Rattle.erle_bands.specs.Steps.{ratios_of}
use Rattle.aec3_common.proofs.Changes.{made-all}
use Rattle.erle_bands.proofs.sums.ratios.Goals as goal

pub returns : goal.returns
unfolding ratios_of
returns c =
    made-all _ _ (λ k. ratio (get_or c.args.y2.now k nan) (get_or c.args.e2.now k nan)) (λ k y q e. (search rules, search rules)) 65 c.from_fn.result nan c.from_fn.ensures.items
