use Rattle.std.proofs.Common.{rules}
use Rattle.std.specs.Float.{nan}
use Rattle.correction_factors.specs.Steps.{lesson_at, moved_in}
use Rattle.aec3_common.proofs.Changes.{changed-all}
use Rattle.correction_factors.proofs.learning.move_references.Goals as goal

pub returns : goal.returns
returns c =
    let a = c.args in
    changed-all nan (λ s erle. moved_in a.limits.min a.limits.max_l a.limits.max_h s (lesson_at a.lessons.now.subbands s) erle)
    c.change.ensures (search rules) (λ k x y h r. search rules)
