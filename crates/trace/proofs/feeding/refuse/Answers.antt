-- The line is written and the place is behind it, or there is no room and nothing is written.
use Rattle.std.proofs.Common.{refl, ◌+◌, length}
use borrow.Author.Tests.{le-leb}
use Rattle.aec3_common.specs.Answers.{number}
use Rattle.encoding.proofs.Writing.{wrote, full, unwritten}
use Rattle.trace_text.specs.Text.{line}
use Rattle.trace_state.specs.Listing.{refused_at}
use Rattle.trace_state.specs.Feed.{refused_end}
use Rattle.trace.proofs.feeding.refuse.Goals as goal

pub returns-in-Some-clause-value : goal.returns-in-Some-clause-value
unfolding refused_end
returns-in-Some-clause-value c =
    let item = refused_at c.args.run.now.state (number c.args.refusal) in
    let place = rw (c.one_more.ensures, c.into.ensures) at c.in-Some.ensures.value in
    let text = rw (c.one_more.ensures, c.into.ensures) at c.in-Some.ensures.out_after in
    let w = wrote _ _ (line item) _ _ place text in
    rw (w.place, le-leb (c.args.run.now.at + length (line item)) (length c.args.out.now) w.room) refl

pub returns-in-Some-clause-out_after : goal.returns-in-Some-clause-out_after
unfolding refused_end
returns-in-Some-clause-out_after c =
    let item = refused_at c.args.run.now.state (number c.args.refusal) in
    let place = rw (c.one_more.ensures, c.into.ensures) at c.in-Some.ensures.value in
    let text = rw (c.one_more.ensures, c.into.ensures) at c.in-Some.ensures.out_after in
    let w = wrote _ _ (line item) _ _ place text in
    rw (le-leb (c.args.run.now.at + length (line item)) (length c.args.out.now) w.room) w.text

pub returns-in-None-clause-value : goal.returns-in-None-clause-value
unfolding refused_end
returns-in-None-clause-value c =
    let place = rw (c.one_more.ensures, c.into.ensures) at c.in-None.ensures.value in
    rw (full _ _ _ place) refl

pub returns-in-None-clause-out_after : goal.returns-in-None-clause-out_after
unfolding refused_end
returns-in-None-clause-out_after c =
    let place = rw (c.one_more.ensures, c.into.ensures) at c.in-None.ensures.value in
    let text = rw (c.one_more.ensures, c.into.ensures) at c.in-None.ensures.out_after in
    rw (full _ _ _ place) (unwritten _ _ _ _ place text)
