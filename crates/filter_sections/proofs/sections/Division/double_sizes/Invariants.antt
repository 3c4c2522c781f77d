-- The sizes so far stand in the table, and the rest of the sizes are those of what is left.
use Rattle.filter_sections.proofs.Loops.{Doubling}
use Rattle.filter_sections.proofs.sections.Division.double_sizes.Given as goal

abbrev pub invariant-loop-taken : goal.invariant-loop-taken
invariant-loop-taken l = Doubling l.self.sections l.self.blocks 8 l.sizes l.taken l.left l.size
