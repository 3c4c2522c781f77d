use Rattle.std.proofs.Common.{get_or, List, ap, sym, ◌∙◌, arith}
use lib.Ieee.{Float, nan}
use Rattle.aec3_common.specs.Binary32.{larger}
use Rattle.aec3_common.specs.Lists.{tab}
use Rattle.aec3_common.proofs.Bands.{part_length}
use Rattle.erl_estimator.proofs.Steps.{raised-more, raised-same, raised_all}
use Rattle.erl_estimator.proofs.reduce.reduced_from.Goals as goal
use Rattle.erl_estimator.proofs.reduce.reduced_from.Goals.{then-flags-ch, else-flags-ch}

-- The first channel's part lies within the spectra, and so does every other.
pub copy_from_slice-requires : goal.copy_from_slice-requires
copy_from_slice-requires c = sym (rw c.part.ensures (part_length c.args.spectra.now c.args.first (omega arith)))

pub raise-requires : goal.raise-requires
raise-requires c =
    rw c.part-then-flags-ch.ensures (part_length c.args.spectra.now c.loop-ch.ch (omega arith))

pub loop-ch-preserved : goal.loop-ch-preserved
loop-ch-preserved c =
    elim c.if-flags-ch.branch [
      | then-flags-ch w ↦
          raised-more c.loop-ch.invariant c.loop-ch-test.true w.if-flags-ch.true
          (w.r-is
          ∙ w.raise.ensures
          ∙ ap (λ (l : List Float). tab 65 (λ k. larger (get_or c.loop-ch.r k nan) (get_or l k nan))) w.part-then-flags-ch.ensures)
      | else-flags-ch w ↦ raised-same c.loop-ch.invariant c.loop-ch-test.true w.if-flags-ch.false w.r-is
    ]

pub returns : goal.returns
returns c = raised_all c.loop-ch.invariant c.loop-ch-test.false
