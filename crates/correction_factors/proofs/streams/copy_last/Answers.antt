use Rattle.correction_factors.proofs.Corrected.{last-copied}
use Rattle.correction_factors.proofs.streams.copy_last.Goals as goal

pub returns : goal.returns
returns c = last-copied _
