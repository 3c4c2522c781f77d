-- The constants' claim, by computation.
use mathlib.Core.Path.{refl}
use lib.Ieee.{of_bits, of_int}
use Rattle.fullband_erle_estimator.specs.Constants.{ConstantsAreTheirNumbers}

pub constants-are-their-numbers : ConstantsAreTheirNumbers
unfolding ConstantsAreTheirNumbers of_bits of_int
constants-are-their-numbers = refl
