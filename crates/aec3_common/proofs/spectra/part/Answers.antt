use Rattle.std.proofs.Common.{arith}
use Rattle.aec3_common.proofs.Bands.{lent-between}
use Rattle.aec3_common.proofs.spectra.part.Goals as goal

pub returns : goal.returns
returns c = lent-between c.args.spectra.now c.args.ch _ _ (rw c.saturating_mul.ensures at c.min-from.ensures) (rw c.saturating_add.ensures at c.min-to.ensures) (omega arith)
