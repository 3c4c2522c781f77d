use Rattle.std.proofs.Common.{◌/◌, length, []}
use Rattle.aec3_common.specs.Binary32.{within}
use Rattle.aec3_common.proofs.Every.{tested-none, tested-more, tested-all, list_all-chunks}
use Rattle.aec3_common.proofs.binary32.all_within.Goals as goal

pub loop-four-init : goal.loop-four-init
loop-four-init c = tested-none _ _

pub loop-four-preserved : goal.loop-four-preserved
loop-four-preserved c = tested-more [] c.loop-four.invariant c.loop-four-test.true c.four_within-ok.ensures

pub returns : goal.returns
returns c =
    let fours = tested-all c.loop-four.invariant c.loop-four-test.false in
    rw (fours, c.each_within.ensures, c.as_chunks.ensures.front, c.as_chunks.ensures.back)
    (list_all-chunks (within c.args.hi) 4 (length c.args.xs.now / 4) c.args.xs.now)
