use Rattle.std.proofs.Common.{rules, cond}
use Rattle.aec3_common.specs.Counts.{one_more}
use Rattle.aec3_common.proofs.Changes.{changed-all}
use Rattle.correction_factors.specs.Steps.{lesson_at}
use Rattle.correction_factors.proofs.learning.count_updates.Goals as goal

pub returns : goal.returns
returns c =
    changed-all 0 (λ s n. cond (lesson_at c.args.lessons.now.subbands s).updated (one_more n) n) c.change.ensures (search rules) (λ k x y h r. search rules)
