-- The channels before this one have their active sections.
use Rattle.section_echoes.proofs.EachChannel.{Going}
use Rattle.section_echoes.proofs.channels.all_active_sections.Given as goal

abbrev pub invariant-loop-ch : goal.invariant-loop-ch
invariant-loop-ch l =
    Going l.render.ring l.render.spectra.now l.plan.headroom l.plan.boundaries l.plan.num_sections l.responses.blocks.now l.responses.responses.now
    l.r l.sums l.made_for l.rest l.ch
