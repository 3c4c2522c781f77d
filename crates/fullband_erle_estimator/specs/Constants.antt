-- The fullband estimator's constant that stands as bits, beside its number in document 01.
use Rattle.std.specs.Prelude.{◌≡◌}
use Rattle.aec3_common.specs.Log2.{rounded}
use Rattle.fullband_erle_estimator.specs.FullBand.{decibel_factor}

-- Claim: the factor is 3, which is exact.
unfoldable pub ConstantsAreTheirNumbers : Type 0
ConstantsAreTheirNumbers = decibel_factor ≡ rounded 3
