use Rattle.std.proofs.Common.{ap, length, arith}
use Rattle.encoding.proofs.Digits.{length-decimal}
use Rattle.trace_text.proofs.Line.put_number.Goals as goal

pub put_text-requires : goal.put_text-requires
put_text-requires c = omega (arith, ap length c.decimal_digits.ensures, length-decimal c.args.n)

pub returns-clause-end : goal.returns-clause-end
returns-clause-end c = omega (arith, c.put_text.ensures.end, ap length c.decimal_digits.ensures, length-decimal c.args.n)
