-- Render power, and capture and residual power of the channels before ch, stand in the table.
use Rattle.trace_records.proofs.Blocks.{Reading}
use Rattle.trace_records.proofs.records.BlockBytes.read.Given as goal

abbrev pub invariant-loop-ch : goal.invariant-loop-ch
invariant-loop-ch l = Reading l.num_capture_channels l.record l.values l.ch
