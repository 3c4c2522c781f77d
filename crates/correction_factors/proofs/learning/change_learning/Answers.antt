use Rattle.correction_factors.proofs.Entries.{learning-over}
use Rattle.correction_factors.proofs.learning.change_learning.Goals as goal

pub returns : goal.returns
returns g c = learning-over c.loop-s.invariant c.loop-s-test.false
