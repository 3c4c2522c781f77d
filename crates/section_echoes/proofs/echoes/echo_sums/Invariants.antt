-- The sections before this one have their echo sums.
use Rattle.std.proofs.Common.{◌/◌, [], length}
use Rattle.aec3_common.proofs.Tables.{Stored}
use Rattle.section_echoes.specs.Steps.{bands}
use Rattle.section_echoes.proofs.Sections.{no_sums, echo_at}
use Rattle.section_echoes.proofs.echoes.echo_sums.Given as goal

abbrev pub invariant-loop-s : goal.invariant-loop-s
invariant-loop-s l = Stored 8 [] 0 l.plan.num_sections (λ t. bands (echo_at l.render l.responses l.plan.boundaries (length l.responses / 65) t)) no_sums l.r l.s-counter
