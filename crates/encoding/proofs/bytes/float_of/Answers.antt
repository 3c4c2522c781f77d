-- Up to infinity's bits no pattern is a NaN's, and above them each is.
use Rattle.std.proofs.Common.{arith}
use lib.Ieee.{of_bits}
use Rattle.encoding.proofs.Floats.{number-bits, nan-bits}
use Rattle.encoding.proofs.bytes.float_of.Goals as goal

pub float_from_bits-result : goal.float_from_bits-result
float_from_bits-result c = number-bits _ (omega arith)

pub returns-else-bits-le-INFINITY_BITS : goal.returns-else-bits-le-INFINITY_BITS
unfolding of_bits
returns-else-bits-le-INFINITY_BITS c = nan-bits _ c.if-bits-le-INFINITY_BITS.false
