-- The constants that stand as bits, beside their numbers in document 01.
use Rattle.std.specs.Prelude.{◌≡◌, List, [], ◌∷◌, Float}
use Rattle.std.specs.Float.{binary32}
use Rattle.std.specs.Float.Ieee.{div}
use Rattle.aec3_common.specs.Log2.{rounded}
use Rattle.correction_factors.specs.Factors.{share_up, share_down, factor_share}

-- Claim: 0.05 and 0.1 are the binary32 numbers nearest to 5/100 and 1/10.
unfoldable pub ConstantsAreTheirNumbers : Type 0
ConstantsAreTheirNumbers =
    ◌≡◌ {A = List Float}
    (share_up ∷ share_down ∷ factor_share ∷ [])
    (div binary32 (rounded 5) (rounded 100) ∷ div binary32 (rounded 1) (rounded 10) ∷ div binary32 (rounded 1) (rounded 10) ∷ [])
