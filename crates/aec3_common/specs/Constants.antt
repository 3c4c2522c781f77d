-- The constants that stand as bits, beside their numbers in document 01.
use Rattle.std.specs.Prelude.{◌≡◌, ◌^◌, List, [], ◌∷◌, Float}
use Rattle.std.specs.Float.{binary32}
use Rattle.std.specs.Float.Ieee.{mul}
use Rattle.aec3_common.specs.Binary32.{zero32, one32, energy_threshold, sum_threshold, greatest_value, greatest_sum}
use Rattle.aec3_common.specs.Log2.{rounded}
use Rattle.aec3_common.specs.Settings.{greatest_erle}

-- Claim: each constant is its whole number, and the threshold of sums is T times 65, rounded.
unfoldable pub ConstantsAreTheirNumbers : Type 0
ConstantsAreTheirNumbers =
    ◌≡◌ {A = List Float}
    (zero32 ∷ one32 ∷ greatest_erle ∷ energy_threshold ∷ greatest_value ∷ greatest_sum ∷ sum_threshold ∷ sum_threshold ∷ [])
    (rounded 0 ∷ rounded 1 ∷ rounded 100000 ∷ rounded 44015068 ∷ rounded (2 ^ 100) ∷ rounded (2 ^ 110)
    ∷ mul binary32 energy_threshold (rounded 65) ∷ rounded 2860979456 ∷ [])
