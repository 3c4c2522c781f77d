use Rattle.std.proofs.Common.{sym, ◌∙◌}
use Rattle.aec3_common.specs.Lists.{tab}
use Rattle.filter_sections.proofs.Loops.{doubling-begun, doubling-more, doubling-over, doubling-last}
use Rattle.filter_sections.proofs.sections.Division.double_sizes.Goals as goal

pub loop-taken-init : goal.loop-taken-init
unfolding tab
loop-taken-init c = doubling-begun _ _ 8 c.args.self.some

pub returns-then-not-section_takes : goal.returns-then-not-section_takes
returns-then-not-section_takes c = doubling-over c.loop-taken.invariant (sym c.section_takes.ensures ∙ c.if-not-section_takes.true)

pub loop-taken-preserved : goal.loop-taken-preserved
loop-taken-preserved c =
    doubling-more c.loop-taken.invariant (sym c.section_takes.ensures ∙ c.if-not-section_takes.false) c.args.self.few

pub returns : goal.returns
returns c = doubling-last c.loop-taken.invariant c.loop-taken-test.false
