use Rattle.std.proofs.Common.{rules, get_or}
use Rattle.std.specs.Float.{nan}
use Rattle.correction_factors.specs.Factors.{subband_of, factor_moved}
use Rattle.correction_factors.specs.Steps.{lesson_at}
use Rattle.correction_factors.proofs.Entries.{learning-all}
use Rattle.correction_factors.proofs.learning.move_factors.Goals as goal

pub returns : goal.returns
returns c =
    let a = c.args in
    learning-all
    (λ j f. factor_moved (lesson_at a.lessons.now.subbands (subband_of j)).updated (get_or a.updates.now (subband_of j) 0) (get_or a.estimates.now j nan) (get_or a.references.now (subband_of j) nan) f)
    c.change_learning.ensures (search rules) (λ j x y h r. search rules)
