use Rattle.correction_factors.specs.Factors.{lesson_of}
use Rattle.correction_factors.specs.Steps.{lesson_at}
use Rattle.correction_factors.proofs.Update.{learnt_is}
use Rattle.correction_factors.proofs.CorrectionFactors.update.Goals as goal

pub returns : goal.returns
returns c =
    let a = c.args in
    let block = a.block.now in
    learnt_is (λ s. lesson_at c.lessons-lessons.result.subbands s) (lesson_of block.num_sections block.active.now block.x2.now block.y2.now block.e2.now)
    c.lessons-lessons.ensures a.limits.min a.limits.max_l a.limits.max_h a.self
    c.count_updates.ensures c.move_estimates.ensures c.move_references.ensures c.move_factors.ensures
