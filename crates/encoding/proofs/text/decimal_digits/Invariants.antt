-- The loop's invariant: the digits before the last one of what is left, and the table from its place on, are the text.
use Rattle.encoding.specs.Text.{decimal, decimal_digits}
use Rattle.encoding.proofs.Digits.{Spelt}
use Rattle.encoding.proofs.text.decimal_digits.Given as goal

abbrev pub invariant-loop-from : goal.invariant-loop-from
invariant-loop-from l = Spelt 10 (decimal_digits l.from l.rest) (decimal l.n) l.table l.from
