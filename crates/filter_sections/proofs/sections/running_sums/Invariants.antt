-- The sums so far stand in the table, and the last one is small.
use Rattle.filter_sections.proofs.Loops.{Summing}
use Rattle.filter_sections.proofs.sections.running_sums.Given as goal

abbrev pub invariant-loop-k : goal.invariant-loop-k
invariant-loop-k l = Summing l.from 9 l.sizes l.r l.k
