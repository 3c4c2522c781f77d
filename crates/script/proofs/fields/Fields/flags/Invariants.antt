-- Each byte that was looked at is a flag.
use Rattle.std.proofs.Common.{ℕ, ◌<◌, get_or}
use Rattle.script.proofs.fields.Fields.flags.Given as goal

abbrev pub invariant-loop-byte : goal.invariant-loop-byte
invariant-loop-byte g l = (k : ℕ) → k < l.byte-index → get_or l.bytes k 0 < 2
