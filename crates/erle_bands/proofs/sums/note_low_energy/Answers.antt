use Rattle.std.proofs.Common.{Bool, List, true, false, ap, ◌∙◌}
use Rattle.aec3_common.specs.Lists.{tab}
use Rattle.erle_bands.specs.Steps.{lows_with}
use Rattle.erle_bands.proofs.Begun.{lows-begun}
use Rattle.erle_bands.proofs.sums.note_low_energy.Goals as goal
use Rattle.erle_bands.proofs.sums.note_low_energy.Goals.{then-anew, else-anew}

pub returns : goal.returns
unfolding tab
returns c =
    let with = λ (lows : List Bool). lows_with false lows c.args.x2.now in
    c.accumulate_low_energy.ensures
    ∙ elim c.if-anew.branch [
      | then-anew w ↦ rw w.if-anew.true (ap with w.low-is ∙ lows-begun true c.args.low.now c.args.x2.now)
      | else-anew w ↦ rw w.if-anew.false (ap with w.low-is)
    ]
