use lib.Ieee.{of_bits}
use Rattle.aec3_common.specs.Log2.{approx_log2}
use Rattle.aec3_common.proofs.log2.approx_log2.Goals as goal

pub returns : goal.returns
unfolding approx_log2 of_bits
returns c = simp (c.rounded.ensures, c.bits_of.ensures)
