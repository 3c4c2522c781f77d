use Rattle.std.proofs.Common.{rules, refl}
use Rattle.speed.proofs.Steps.{steps-none, steps-more}
use Rattle.speed.proofs.blocks.Blocks.run.Goals as goal

pub loop-init : goal.loop-init
loop-init g c = (search rules, steps-none _ _)

pub loop-preserved : goal.loop-preserved
loop-preserved g c = (search rules, steps-more _ _ _ _ _ _ c.loop.invariant.1 c.round.ensures refl)
