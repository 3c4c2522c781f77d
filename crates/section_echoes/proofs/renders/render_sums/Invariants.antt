-- The sections before this one have their render power.
use Rattle.std.proofs.Common.{[]}
use Rattle.aec3_common.proofs.Tables.{Stored}
use Rattle.section_echoes.specs.Echoes.{section_render}
use Rattle.section_echoes.specs.Steps.{bands}
use Rattle.section_echoes.proofs.Sections.{no_sums}
use Rattle.section_echoes.proofs.renders.render_sums.Given as goal

abbrev pub invariant-loop-s : goal.invariant-loop-s
invariant-loop-s l = Stored 8 [] 0 l.plan.num_sections (λ t. bands (section_render l.render.ring l.render.spectra.now l.plan.headroom l.plan.boundaries l.count t)) no_sums l.r l.s
