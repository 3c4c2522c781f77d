-- The constants' claim, by computation.
use mathlib.Core.Path.{refl}
use lib.Ieee.{of_bits, of_int, mul, div}
use Rattle.erl_bands.specs.Constants.{ConstantsAreTheirNumbers}

pub constants-are-their-numbers : ConstantsAreTheirNumbers
unfolding ConstantsAreTheirNumbers of_bits of_int mul div
constants-are-their-numbers = refl
