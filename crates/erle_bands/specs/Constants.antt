-- The constants that stand as bits, beside their numbers in document 01.
use Rattle.std.specs.Prelude.{◌≡◌, List, [], ◌∷◌, Float}
use Rattle.std.specs.Float.{binary32}
use Rattle.std.specs.Float.Ieee.{div}
use Rattle.aec3_common.specs.Log2.{rounded}
use Rattle.erle_bands.specs.Band.{share_up, share_down, decay_factor}

-- Claim: 0.05, 0.1 and 0.97 are the binary32 numbers nearest to 5/100, 1/10 and 97/100.
unfoldable pub ConstantsAreTheirNumbers : Type 0
ConstantsAreTheirNumbers =
    ◌≡◌ {A = List Float}
    (share_up ∷ share_down ∷ decay_factor ∷ [])
    (div binary32 (rounded 5) (rounded 100) ∷ div binary32 (rounded 1) (rounded 10) ∷ div binary32 (rounded 97) (rounded 100) ∷ [])
