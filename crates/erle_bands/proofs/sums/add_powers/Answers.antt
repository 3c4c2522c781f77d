use Rattle.std.proofs.Common.{List, true, false, ap, ◌∙◌}
use lib.Ieee.{Float}
use Rattle.aec3_common.specs.Lists.{tab}
use Rattle.erle_bands.specs.Steps.{sums_with}
use Rattle.erle_bands.proofs.Begun.{sums-begun}
use Rattle.erle_bands.proofs.sums.add_powers.Goals as goal
use Rattle.erle_bands.proofs.sums.add_powers.Goals.{then-anew, else-anew}

pub returns : goal.returns
unfolding tab
returns c =
    let with = λ (sums : List Float). sums_with false sums c.args.powers.now in
    c.accumulate.ensures
    ∙ elim c.if-anew.branch [
      | then-anew w ↦ rw w.if-anew.true (ap with w.sums-is ∙ sums-begun true c.args.sums.now c.args.powers.now)
      | else-anew w ↦ rw w.if-anew.false (ap with w.sums-is)
    ]
