-- A digit of four bits is what division by 16, as many times as digits stand behind it, leaves behind.
use Rattle.std.proofs.Common.{rules, ◌-◌, ◌*◌, ◌/◌, ◌%◌, ◌^◌}
use Rattle.encoding.specs.Text.{digit}
use Rattle.encoding.proofs.Made.{made-at}
use Rattle.encoding.proofs.Digits.{hex8-is}
use Rattle.encoding.proofs.text.hex_digits.Goals as goal

pub returns : goal.returns
returns c =
    hex8-is c.args.n c.from_fn.result c.from_fn.ensures.items.long
    (made-at _ _ (λ i. digit (c.args.n / 2 ^ (28 - 4 * i) % 16)) (λ i y q called. (search rules, search rules)) 8 c.from_fn.result 0 c.from_fn.ensures.items)
