use Rattle.std.proofs.Common.{arith}
use Rattle.aec3_common.specs.Lists.{tab}
use Rattle.filter_sections.proofs.Loops.{summing-begun, summing-more, summing-over}
use Rattle.filter_sections.proofs.sections.running_sums.Goals as goal

pub loop-k-init : goal.loop-k-init
unfolding tab
loop-k-init c = summing-begun c.args.from 9 _ c.requires.small (omega arith)

pub loop-k-preserved : goal.loop-k-preserved
loop-k-preserved c = summing-more c.loop-k.invariant c.loop-k-test.true (omega arith) (c.requires.by_index c.loop-k.k)

pub returns : goal.returns
returns c = summing-over c.loop-k.invariant c.loop-k-test.false (omega arith)
