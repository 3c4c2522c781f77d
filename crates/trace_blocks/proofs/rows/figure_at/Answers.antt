-- Past the end of a list there is no entry.
use Rattle.std.proofs.Common.{◌∙◌, arith}
use Rattle.std.specs.Float.{nan}
use lib.Ieee.{of_bits}
use Rattle.trace_blocks.proofs.rows.figure_at.Goals as goal

pub returns : goal.returns
unfolding of_bits
returns c = c.unwrap_or.ensures ∙ rw c.copied.ensures (c.get.ensures.lookup.4 (omega arith) nan)
