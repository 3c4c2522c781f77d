-- The constants' claim, by computation.
use mathlib.Core.Path.{refl}
use lib.Ieee.{of_bits, of_int, div}
use Rattle.fullband_channel.specs.Constants.{ConstantsAreTheirNumbers}

pub constants-are-their-numbers : ConstantsAreTheirNumbers
unfolding ConstantsAreTheirNumbers of_bits of_int div
constants-are-their-numbers = refl
