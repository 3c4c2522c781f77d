use Rattle.std.proofs.Common.{rules}
use Rattle.correction_factors.specs.Factors.{subband_of}
use Rattle.correction_factors.specs.Steps.{lesson_at, moved_in}
use Rattle.correction_factors.proofs.Entries.{learning-all}
use Rattle.correction_factors.proofs.learning.move_estimates.Goals as goal

pub returns : goal.returns
returns c =
    let a = c.args in
    learning-all (λ j erle. moved_in a.limits.min a.limits.max_l a.limits.max_h (subband_of j) (lesson_at a.lessons.now.subbands (subband_of j)) erle)
    c.change_learning.ensures (search rules) (λ j x y h r. search rules)
