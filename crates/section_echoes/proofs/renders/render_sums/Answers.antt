use Rattle.aec3_common.specs.Lists.{tab}
use Rattle.aec3_common.proofs.Tables.{stored_more}
use Rattle.section_echoes.specs.Echoes.{section_render}
use Rattle.section_echoes.specs.Steps.{render_sums}
use Rattle.section_echoes.proofs.Sections.{sections-begun, sections-over, section-render-is}
use Rattle.section_echoes.proofs.renders.render_sums.Goals as goal

pub loop-s-init : goal.loop-s-init
unfolding tab
loop-s-init c =
    let plan = c.args.plan.now in
    sections-begun plan.num_sections (section_render c.args.render.now.ring c.args.render.now.spectra.now plan.headroom plan.boundaries c.args.count)

pub loop-s-preserved : goal.loop-s-preserved
loop-s-preserved c =
    let plan = c.args.plan.now in
    stored_more c.section_render.result c.loop-s.invariant c.loop-s-test.true plan.few_sections
    (section-render-is plan.boundaries c.args.count c.loop-s.s c.min.ensures c.args.render.now.ring c.args.render.now.spectra.now plan.headroom c.section_render.ensures)

pub returns : goal.returns
unfolding render_sums
returns c =
    let plan = c.args.plan.now in
    sections-over plan.num_sections (section_render c.args.render.now.ring c.args.render.now.spectra.now plan.headroom plan.boundaries c.args.count) c.loop-s.invariant c.loop-s-test.false
