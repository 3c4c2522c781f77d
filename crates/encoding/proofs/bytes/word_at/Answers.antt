-- The place after the greatest is past the end, as the greatest is.
use Rattle.std.proofs.Common.{arith}
use Rattle.encoding.specs.Bytes.{word_at}
use Rattle.encoding.proofs.Past.{half-beyond}
use Rattle.encoding.proofs.bytes.word_at.Goals as goal

pub returns : goal.returns
unfolding word_at
returns c =
    omega (arith, c.half_at-low.ensures, c.half_at-high.ensures, half-beyond c.args.s.now _ _ _ (omega arith) c.saturating_add.ensures)
