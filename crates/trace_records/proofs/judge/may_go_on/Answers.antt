-- Where four bytes are there, an L that they can say is given.
use Rattle.std.proofs.Common.{sym}
use borrow.Author.Tests.{le-ltb}
use Rattle.trace_records.specs.Judge.{may_go_on}
use Rattle.trace_records.proofs.Framing.{some-length}
use Rattle.trace_records.proofs.judge.may_go_on.Goals as goal

pub returns-else-s-lt-LENGTH_SIZE : goal.returns-else-s-lt-LENGTH_SIZE
unfolding may_go_on
returns-else-s-lt-LENGTH_SIZE c =
    simp (
      sym c.if-is_empty.ensures,
      c.if-not-ended.true,
      le-ltb _ _ c.if-s-lt-LENGTH_SIZE.false,
      c.is_some.ensures,
      c.length_of.ensures.value,
      some-length c.args.s.now c.if-s-lt-LENGTH_SIZE.false,
    )
