-- The header's fields, with the spaces between them and the line feed, are the bytes that are written.
use Rattle.trace_text.specs.Text.{header, line_of, spaced}
use Rattle.trace_text.proofs.put_header.Goals as goal

pub returns-clause-out_after : goal.returns-clause-out_after
unfolding header line_of spaced
returns-clause-out_after c = c.put_bytes.ensures.out_after

pub returns-clause-value : goal.returns-clause-value
unfolding header line_of spaced
returns-clause-value c = c.put_bytes.ensures.value
