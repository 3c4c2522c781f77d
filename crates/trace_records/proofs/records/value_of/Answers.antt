use Rattle.std.proofs.Common.{ap, arith, ◌∙◌}
use Rattle.std.specs.Float.{binary32}
use Rattle.std.specs.Float.Ieee.{of_bits}
use Rattle.encoding.specs.Bytes.{half_at, word_at}
use Rattle.trace_records.specs.Records.{value_at}
use Rattle.trace_records.proofs.records.value_of.Goals as goal

pub returns : goal.returns
unfolding value_at word_at half_at
returns c = c.float_of.ensures ∙ ap (of_bits binary32) (omega (arith, c.from_le_bytes.ensures))
