-- The header, and behind it the trace fed to its end.
use Rattle.std.proofs.Common.{◌≡◌, refl, ap, ◌∙◌, true}
use mathlib.Core.Bool.{not}
use Rattle.encoding.proofs.Writing.{wrote}
use Rattle.trace_text.specs.Text.{header}
use Rattle.trace_state.specs.declared.Trace.{Trace}
use Rattle.trace_state.specs.Apply.{beginning}
use Rattle.trace_state.specs.declared.Stop.{Stop}
use Rattle.trace_state.specs.declared.Stop.TheVariants.{NoRecord, NoRoom, Refused, BadState}
use Rattle.trace_state.specs.Feed.{Stopped, fed, why}
use Rattle.trace.specs.declared.listing.Listed.{Listed}
use Rattle.trace.specs.Answers.{Told, told, answer_of, feed_answer, feed_over}
use Rattle.trace.proofs.Whole.{no_room, listed-none, listed-done}
use Rattle.trace.proofs.listing.list_trace.Goals as goal
use Rattle.trace.proofs.listing.list_trace.Goals.{After-ne}

pub returns-in_default-clause-value : goal.returns-in_default-clause-value
returns-in_default-clause-value c = (listed-none c.args.input.now c.args.out.now c.in_default.ensures.value).0

pub returns-in_default-clause-out_after : goal.returns-in_default-clause-out_after
returns-in_default-clause-out_after c =
    c.in_default.ensures.out_after ∙ (listed-none c.args.input.now c.args.out.now c.in_default.ensures.value).1

-- only want of room is told apart
told-fits : (c : After-ne) → c.ne.result ≡ not (no_room (why c.feed-fed.result.stop))
told-fits c = go c.feed-fed.result.stop refl
  where
    go : (x : Stop) → c.feed-fed.result.stop ≡ x → c.ne.result ≡ not (no_room (why x))
    go NoRecord e = rw e at c.ne.ensures
    go NoRoom e = rw e at c.ne.ensures
    go (Refused refusal) e = rw e at c.ne.ensures
    go BadState e = rw e at c.ne.ensures

pub returns-clause-value : goal.returns-clause-value
unfolding feed_answer
returns-clause-value c =
    let d = c.args.out.now in
    let e = c.put_header.new.out in
    let headed = wrote d 0 header _ _ c.in-Some.ensures.value c.in-Some.ensures.out_after in
    let begun = ap (λ (t : Trace). fed t c.args.input.now true e c.in-Some.at) c.beginning.ensures.value in
    let is : told c.feed-fed.result ≡ answer_of (fed beginning c.args.input.now true e c.in-Some.at) = c.feed-fed.ensures.value ∙ ap answer_of begun in
    let fits : c.ne.result ≡ not (no_room (why c.feed-fed.result.stop)) = told-fits c in
    let same = fits ∙ ap (λ (f : Told). not (no_room f.stop)) is in
    ◌∙◌ {A = Listed} (λ i. record { written = (is i).at; fits = same i }) (listed-done c.args.input.now d headed (fed beginning c.args.input.now true e c.in-Some.at) refl).0

pub returns-clause-out_after : goal.returns-clause-out_after
unfolding feed_over
returns-clause-out_after c =
    let d = c.args.out.now in
    let e = c.put_header.new.out in
    let headed = wrote d 0 header _ _ c.in-Some.ensures.value c.in-Some.ensures.out_after in
    let begun = ap (λ (t : Trace). fed t c.args.input.now true e c.in-Some.at) c.beginning.ensures.value in
    c.feed-fed.ensures.out_after ∙ ap (λ (x : Stopped). x.walk.out) begun ∙ (listed-done c.args.input.now d headed (fed beginning c.args.input.now true e c.in-Some.at) refl).1
