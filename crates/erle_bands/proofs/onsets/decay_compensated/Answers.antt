-- Where onset detection is off each band stays.
use Rattle.std.proofs.Common.{rules, ◌∙◌}
use lib.Ieee.{nan}
use Rattle.erle_bands.specs.Steps.{all_compensated_beside}
use Rattle.erle_bands.proofs.Bands.{bands-stay}
use Rattle.erle_bands.proofs.onsets.decay_compensated.Goals as goal

pub returns-else-on : goal.returns-else-on
unfolding all_compensated_beside
returns-else-on c = bands-stay nan c.args.erle.now (search rules) ∙ simp c.if-on.false
