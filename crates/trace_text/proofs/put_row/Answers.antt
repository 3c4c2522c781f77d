-- The line is made at the front of a table that has room for all of it, and then written in one piece.
use Rattle.std.proofs.Common.{◌≡◌, append_assoc}
use Rattle.trace_text.specs.Line.{said}
use Rattle.trace_text.specs.Text.{row, spaced, line_of, line}
use Rattle.trace_text.proofs.put_row.Goals as goal

pub returns : goal.returns
unfolding line line_of spaced
returns c =
    let made : said c.put_text-2.new.self ≡ line (row c.args.block c.args.channel c.args.figures.plain c.args.figures.compensated c.args.figures.uncapped) =
    rw (
      c.put_text-2.ensures.text,
      c.put_figure-3.ensures.text,
      c.put_figure-2.ensures.text,
      c.put_figure.ensures.text,
      c.put_number-2.ensures.text,
      c.put_text.ensures.text,
      c.put_number.ensures.text,
      c.new-line.ensures.text,
    )
    (simp append_assoc)
    in
    record { out_after = rw made at c.put.ensures.out_after; value = rw made at c.put.ensures.value }
