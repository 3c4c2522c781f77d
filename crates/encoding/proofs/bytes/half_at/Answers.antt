-- The place after the greatest is past the end, as the greatest is.
use Rattle.std.proofs.Common.{arith}
use Rattle.encoding.specs.Bytes.{half_at}
use Rattle.encoding.proofs.Past.{byte-beyond}
use Rattle.encoding.proofs.bytes.half_at.Goals as goal

pub returns-clause-value : goal.returns-clause-value
unfolding half_at
returns-clause-value c =
    omega (arith, c.byte_at.ensures, c.byte_at-2.ensures, byte-beyond c.args.s.now _ _ _ (omega arith) c.saturating_add.ensures)
