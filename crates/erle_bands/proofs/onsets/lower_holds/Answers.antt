-- Where onset detection is off each band stays.
use Rattle.std.proofs.Common.{rules, pos, ◌∙◌}
use Rattle.erle_bands.specs.Steps.{all_holds_less}
use Rattle.erle_bands.proofs.Bands.{bands-stay}
use Rattle.erle_bands.proofs.onsets.lower_holds.Goals as goal

pub returns-else-on : goal.returns-else-on
unfolding all_holds_less
returns-else-on c = bands-stay (pos 0) c.args.holds.now (search rules) ∙ simp c.if-on.false
