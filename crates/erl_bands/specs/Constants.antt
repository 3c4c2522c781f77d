-- The ERL's constants that stand as bits, beside their numbers in document 01.
use Rattle.std.specs.Prelude.{◌≡◌, List, [], ◌∷◌, Float}
use Rattle.std.specs.Float.{binary32}
use Rattle.std.specs.Float.Ieee.{div}
use Rattle.aec3_common.specs.Log2.{rounded}
use Rattle.erl_bands.specs.Figure.{min_erl, max_erl, share, two32}

-- Claim: 0.01 and 0.1 are the binary32 numbers nearest to 1/100 and 1/10; 1,000 and 2 are exact.
unfoldable pub ConstantsAreTheirNumbers : Type 0
ConstantsAreTheirNumbers =
    ◌≡◌ {A = List Float}
    (min_erl ∷ share ∷ max_erl ∷ two32 ∷ [])
    (div binary32 (rounded 1) (rounded 100) ∷ div binary32 (rounded 1) (rounded 10) ∷ rounded 1000 ∷ rounded 2 ∷ [])
