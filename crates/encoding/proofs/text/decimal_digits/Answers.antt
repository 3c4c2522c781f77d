use Rattle.std.proofs.Common.{refl, ◌∙◌}
use Rattle.encoding.proofs.Digits.{spelt-more, spelt-all, spelt-front, decimal-last, decimal-short, decimal-none, part-is}
use Rattle.encoding.proofs.text.decimal_digits.Goals as goal

pub loop-from-preserved : goal.loop-from-preserved
loop-from-preserved c =
    spelt-more _ _ c.loop-from.invariant c.loop-from-test.true
    (decimal-last _ _ c.loop-from-test.true c.if-rest-lt-LEAST_OF_TWO_DIGITS.false ∙ rw c.digit_of.ensures)

pub returns-then-rest-lt-LEAST_OF_TWO_DIGITS : goal.returns-then-rest-lt-LEAST_OF_TWO_DIGITS
returns-then-rest-lt-LEAST_OF_TWO_DIGITS c =
    let w =
    spelt-more _ _ c.loop-from.invariant c.loop-from-test.true
    (decimal-short _ _ c.loop-from-test.true c.if-rest-lt-LEAST_OF_TWO_DIGITS.true ∙ rw c.digit_of.ensures)
    in
    part-is _ _ 10 w.long ∙ spelt-all w refl

pub returns : goal.returns
returns c = spelt-front c.loop-from.invariant (decimal-none _ _ c.loop-from-test.false) c.loop-from-test.false
