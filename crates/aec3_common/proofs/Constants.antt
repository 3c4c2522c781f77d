-- The constants' claim, by computation.
use Rattle.std.proofs.Common.{refl}
use lib.Ieee.{of_bits, of_int, mul}
use Rattle.aec3_common.specs.Constants.{ConstantsAreTheirNumbers}

pub constants-are-their-numbers : ConstantsAreTheirNumbers
unfolding ConstantsAreTheirNumbers of_bits of_int mul
constants-are-their-numbers = refl
