-- A NaN has the one NaN's bits.
use Rattle.std.proofs.Common.{sym, ◌∙◌}
use Rattle.encoding.proofs.Floats.{bits-nan}
use Rattle.encoding.proofs.bytes.bits_of.Goals as goal

pub returns-then-is_nan : goal.returns-then-is_nan
returns-then-is_nan c = bits-nan _ (sym c.is_nan.ensures.value ∙ c.if-is_nan.true)
