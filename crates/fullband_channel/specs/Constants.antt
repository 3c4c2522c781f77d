-- The constants of one channel that stand as bits, beside their numbers in document 01 and in the source.
use Rattle.std.specs.Prelude.{◌≡◌, List, [], ◌∷◌, pos, neg_ℤ, Float}
use Rattle.std.specs.Float.{binary32}
use Rattle.std.specs.Float.Ieee.{of_int, div}
use Rattle.aec3_common.specs.Log2.{rounded}
use Rattle.fullband_channel.specs.Instantaneous.{epsilon, extreme_step, quality_share, first_greatest, first_least}
use Rattle.fullband_channel.specs.Channel.{figure_share}

-- Claim: 0.001, 0.0004, 0.07 and 0.05 are the binary32 numbers nearest to 1/1000, 4/10000, 7/100 and 5/100; -10 and 33 are exact.
unfoldable pub ConstantsAreTheirNumbers : Type 0
ConstantsAreTheirNumbers =
    ◌≡◌ {A = List Float}
    (epsilon ∷ extreme_step ∷ quality_share ∷ figure_share ∷ first_greatest ∷ first_least ∷ [])
    (div binary32 (rounded 1) (rounded 1000) ∷ div binary32 (rounded 4) (rounded 10000) ∷ div binary32 (rounded 7) (rounded 100)
    ∷ div binary32 (rounded 5) (rounded 100) ∷ of_int binary32 (neg_ℤ (pos 10)) ∷ rounded 33 ∷ [])
