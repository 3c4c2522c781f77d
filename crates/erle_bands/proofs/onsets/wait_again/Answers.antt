-- Where onset detection is off each band stays.
use Rattle.std.proofs.Common.{rules, false, ◌∙◌}
use Rattle.erle_bands.specs.Steps.{all_waits_beside}
use Rattle.erle_bands.proofs.Bands.{bands-stay}
use Rattle.erle_bands.proofs.onsets.wait_again.Goals as goal

pub returns-else-on : goal.returns-else-on
unfolding all_waits_beside
returns-else-on c = bands-stay false c.args.waits.now (search rules) ∙ simp c.if-on.false
