use Rattle.aec3_common.proofs.Bands.{ends-stored}
use Rattle.aec3_common.proofs.spectra.copy_ends.Goals as goal

pub returns : goal.returns
returns c = ends-stored _
