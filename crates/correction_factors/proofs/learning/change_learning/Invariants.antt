-- In each subband up to s the entry of the section that learns is made.
use Rattle.correction_factors.specs.Steps.{lesson_at}
use Rattle.correction_factors.proofs.Entries.{Learning}
use Rattle.correction_factors.proofs.learning.change_learning.Given as goal

abbrev pub invariant-loop-s : goal.invariant-loop-s
invariant-loop-s g l = Learning (goal.F-post g l.f) (λ s. (lesson_at l.lessons.subbands s).section) l.initial.table l.table l.s
