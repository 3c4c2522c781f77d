use Rattle.std.proofs.Common.{rules}
use Rattle.std.specs.Float.{nan}
use Rattle.correction_factors.specs.Factors.{subband_sum, subband_sums}
use Rattle.aec3_common.proofs.Changes.{made-all}
use Rattle.correction_factors.proofs.subbands.subband_sums.Goals as goal

pub returns : goal.returns
unfolding subband_sum subband_sums
returns c =
    made-all _ _ (λ s. subband_sum c.args.spectrum.now s) (λ k y q called. (search rules, search rules)) 6 c.from_fn.result nan c.from_fn.ensures.items
