-- The constant that stands as bits, beside its number in document 01.
use Rattle.std.specs.Prelude.{◌≡◌}
use Rattle.std.specs.Float.{binary32}
use Rattle.std.specs.Float.Ieee.{div}
use Rattle.aec3_common.specs.Log2.{rounded}
use Rattle.section_echoes.specs.Echoes.{active_share}

-- Claim: 0.9 is the binary32 number nearest to 9/10.
unfoldable pub ConstantsAreTheirNumbers : Type 0
ConstantsAreTheirNumbers = active_share ≡ div binary32 (rounded 9) (rounded 10)
