-- By its kind; a block is ruled out, and an unknown one leaves the state.
use Rattle.std.proofs.Common.{ap, ◌∙◌, true≢false}
use Rattle.trace_records.specs.Steps.{record_from}
use Rattle.trace_state.specs.Apply.{standing_of, next_of, is_block}
use Rattle.trace_state.proofs.records.after_record.Goals as goal

pub returns-in-Settings : goal.returns-in-Settings
unfolding record_from
returns-in-Settings c =
    let is = rw c.in-Settings.is at c.in-Ok.ensures.value in
    c.after_settings.ensures ∙ ap (next_of c.args.t) (is (standing_of c.args.t))

pub returns-in-Reset : goal.returns-in-Reset
unfolding record_from
returns-in-Reset c =
    let is = rw c.in-Reset.is at c.in-Ok.ensures.value in
    c.after_reset.ensures ∙ ap (next_of c.args.t) (is (standing_of c.args.t))

pub returns-in-Block : goal.returns-in-Block
unfolding record_from is_block
returns-in-Block c =
    let is = rw c.in-Block.is at c.in-Ok.ensures.value in
    absurd (true≢false (ap is_block (is (standing_of c.args.t)) ∙ c.requires))

pub returns-in_default : goal.returns-in_default
unfolding record_from next_of
returns-in_default c = ap (next_of c.args.t) (c.in_default.ensures.value (standing_of c.args.t))
