-- In each band the walk up has found the least section reached without a gap.
use Rattle.std.proofs.Common.{◌≡◌, length}
use Rattle.section_echoes.proofs.Least.{least_from}
use Rattle.section_echoes.proofs.active.active_sections.Given as goal

abbrev pub invariant-loop-s : goal.invariant-loop-s
invariant-loop-s l = l.active ≡ least_from l.fn.sums (length l.fn.sums) l.s
