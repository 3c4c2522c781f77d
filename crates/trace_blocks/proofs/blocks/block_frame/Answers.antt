-- The tests are the definition's.
use Rattle.trace_records.specs.Steps.{record_from}
use Rattle.trace_blocks.proofs.Frames.{frame-none, frame-told, frame-unknown, frame-other}
use Rattle.trace_blocks.proofs.blocks.block_frame.Goals as goal

pub returns-in_err-record-clause-block : goal.returns-in_err-record-clause-block
returns-in_err-record-clause-block c = rw c.from_residual.ensures (frame-none _ _ c.in_err-record.ensures)

pub returns-in_default-clause-block : goal.returns-in_default-clause-block
unfolding record_from
returns-in_default-clause-block c =
    let (whole, is) = c.in_ok-record.ensures in
    frame-unknown _ _ whole is (c.in_default.ensures.value c.args.standing)

pub returns-in-Block-clause-block : goal.returns-in-Block-clause-block
returns-in-Block-clause-block c =
    let kind = rw c.in-Block.is at c.in-Ok.ensures.value in
    let (whole, is) = c.in_ok-record.ensures in
    rw c.ok.ensures.value
    (frame-told _ _ whole is (kind c.args.standing) c.judge_block_form.result c.judge_block_form.ensures.form c.judge_block_form.ensures.bytes)

pub returns-in-Settings-clause-block : goal.returns-in-Settings-clause-block
returns-in-Settings-clause-block c =
    let (whole, is) = c.in_ok-record.ensures in
    frame-other _ _ whole is _ (c.in-Ok.ensures.value c.args.standing) c.in-Settings.is
