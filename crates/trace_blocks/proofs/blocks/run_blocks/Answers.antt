use Rattle.std.proofs.Common.{length, refl, sym, ap, ◌∙◌, arith}
use borrow.Author.Tests.{eqb-true, eqb-false}
use Rattle.aec3_common.proofs.Refusals.{outcome-told}
use Rattle.trace_state.specs.Feed.{Walk}
use Rattle.trace_blocks.proofs.Due.{walk_with}
use Rattle.trace_blocks.proofs.Going.{going-block}
use Rattle.trace_blocks.proofs.AtBlock.{AtBlock, ends-full, ends-no-frame, at-block, taken-there, ends-bad}
use Rattle.trace_blocks.proofs.blocks.run_blocks.Goals.{In-Some}
use Rattle.trace_blocks.proofs.blocks.run_blocks.Goals as goal

pub loop-standing-init : goal.loop-standing-init
loop-standing-init c =
    record { same = λ ended. refl; ready = c.requires.0; due = c.requires.1; onward = omega arith; within = c.requires.2; long = refl; settings = refl }

pub returns-then-rows-gt0 : goal.returns-then-rows-gt0
returns-then-rows-gt0 c =
    ends-full c.loop-standing.invariant c.put_rows-rows.ensures.at_value c.put_rows-rows.ensures.due_le_due c.put_rows-rows.auto.out c.if-rows-gt0.true

pub returns-in_default : goal.returns-in_default
returns-in_default c =
    ends-no-frame c.loop-standing.invariant c.put_rows-rows.ensures.at_value c.put_rows-rows.ensures.due_le_due c.put_rows-rows.auto.out c.if-rows-gt0.false
    c.from-standing.ensures c.in_default.ensures.block

-- ---- a block in form

-- where feeding began, and where it stands once the rows that are due are written
abbrev begun : In-Some → Walk
begun c = record { state = c.args.state; used = c.args.used; out = c.args.out.now; at = c.args.at }

abbrev now : In-Some → Walk
now c =
    let l = c.loop-standing in
    let r = c.put_rows-rows in
    walk_with l.state l.used (record { out = r.new.out; at = r.result.at; due = r.result.due })

-- what is known there
here : (c : In-Some) → AtBlock c.args.input.now (begun c) (now c) c.in-Some.block.bytes.now c.in-Some.block.num_capture_channels
here c =
    at-block c.loop-standing.invariant c.put_rows-rows.ensures.at_value c.put_rows-rows.ensures.due_le_due c.put_rows-rows.auto.out c.if-rows-gt0.false
    c.from-standing.ensures c.in-Some.ensures.block c.in-Some.ensures.channels

pub take_block-requires-clause-some : goal.take_block-requires-clause-some
take_block-requires-clause-some c =
    (here (goal.at.take_block-requires-clause-some c).In-Some).form.some

pub take_block-requires-clause-as_many : goal.take_block-requires-clause-as_many
take_block-requires-clause-as_many c =
    (here (goal.at.take_block-requires-clause-as_many c).In-Some).as_many

pub returns-then-is_err : goal.returns-then-is_err
returns-then-is_err c =
    let b = here (goal.at.returns-then-is_err c).In-Some in
    ends-bad b c.take_block.ensures (eqb-false _ _ (outcome-told c.take_block.result ∙ c.if-is_err.ensures.negation))

pub loop-standing-preserved : goal.loop-standing-preserved
loop-standing-preserved c =
    let b = here (goal.at.loop-standing-preserved c).In-Some in
    going-block b.going b.none b.frame (sym c.in-Some.ensures.channels ∙ b.as_many) (taken-there b c.take_block.ensures)
    (eqb-true _ _ (outcome-told c.take_block.result ∙ c.if-is_err.ensures.negation)) (ap length b.lent) c.one_more.ensures c.one_more-in-loop-standing.ensures

pub loop-standing-smaller : goal.loop-standing-smaller
loop-standing-smaller c =
    let b = here (goal.at.loop-standing-smaller c).In-Some in
    omega (arith, b.ends)
