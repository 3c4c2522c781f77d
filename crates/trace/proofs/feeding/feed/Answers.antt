use Rattle.std.proofs.Common.{◌≡◌, ◌-◌, length, take, drop, true, refl, sym, ap, ◌∙◌, arith, rules}
use Rattle.aec3_common.proofs.Tables.{length-mapped}
use Rattle.aec3_common.specs.Answers.{number}
use Rattle.aec3_common.specs.Refusal.{accepted}
use Rattle.trace_records.specs.Judge.{refusal_ahead}
use Rattle.trace_state.specs.Apply.{standing_of, trace_ok}
use Rattle.trace_state.specs.Feed.{Stopped, Walk}
use Rattle.trace_records.proofs.Judged.{refused-some}
use Rattle.trace_state.proofs.Judged.{due-few}
use Rattle.trace_state.proofs.Turning.{fed-full}
use Rattle.trace_state.proofs.Listed.{gives-listing}
use Rattle.trace_blocks.proofs.Ready.{ready-passing}
use Rattle.trace.specs.Answers.{Told, answer_of, feed_answer, feed_over}
use Rattle.trace.proofs.Underway.{Underway, fed-bad, refused-used, underway-ran, ends_so, ends-refused, ends-cut, ends-within, no-block-lent, underway-next}
use Rattle.trace.proofs.feeding.feed.Goals.{After-run_blocks-run, In-Err, In_default}
use Rattle.trace.proofs.feeding.feed.Goals as goal

-- ---- a state that 20 turns away

pub returns-then-not-state_ok-clause-value : goal.returns-then-not-state_ok-clause-value
unfolding feed_answer
returns-then-not-state_ok-clause-value c =
    let a = c.args in
    ap answer_of (sym (fed-bad a.t a.input.now a.ended a.out.now a.at (sym c.state_ok.ensures ∙ c.if-not-state_ok.true)))

pub returns-then-not-state_ok-clause-out_after : goal.returns-then-not-state_ok-clause-out_after
unfolding feed_over
returns-then-not-state_ok-clause-out_after c =
    let a = c.args in
    ap (λ (e : Stopped). e.walk.out) (sym (fed-bad a.t a.input.now a.ended a.out.now a.at (sym c.state_ok.ensures ∙ c.if-not-state_ok.true)))

pub returns-then-not-state_ok-clause-gives_listing : goal.returns-then-not-state_ok-clause-gives_listing
returns-then-not-state_ok-clause-gives_listing c = gives-listing _ _ _ _ _

pub loop-run-init : goal.loop-run-init
loop-run-init c =
    let ok = sym c.state_ok.ensures ∙ c.if-not-state_ok.false in
    record {
      same = refl;
      ready = ready-passing c.args.t (search (rules, length-mapped)) (search (rules, length-mapped)) ok;
      due = due-few c.args.t ok;
      within = omega arith;
      long = refl;
    }

-- ---- behind rows and blocks

passes : (c : After-run_blocks-run) → trace_ok c.args.t ≡ true
passes c = sym c.state_ok.ensures ∙ c.if-not-state_ok.false

abbrev now : After-run_blocks-run → Walk
now c =
    let r = c.run_blocks-run in
    record { state = r.result.state; used = r.result.used; out = r.new.out; at = r.result.at }

underway : (c : After-run_blocks-run) → Underway c.args.input.now c.args.ended (record { state = c.args.t; used = 0; out = c.args.out.now; at = c.args.at }) (now c)
underway c = underway-ran c.loop-run.invariant c.run_blocks-run.ensures c.run_blocks-run.auto.out

-- the number under which they are refused
number-is : (c : In-Err) → number c.in-Err.refusal ≡ refusal_ahead (standing_of c.run_blocks-run.result.state) c.args.ended (take (length c.args.input.now - c.run_blocks-run.result.used) (drop c.run_blocks-run.result.used c.args.input.now))
number-is c = rw c.from.ensures at c.in-Err.ensures

-- and where they are not
fine : (c : In_default) → accepted ≡ refusal_ahead (standing_of c.run_blocks-run.result.state) c.args.ended (take (length c.args.input.now - c.run_blocks-run.result.used) (drop c.run_blocks-run.result.used c.args.input.now))
fine c = rw c.from.ensures at c.in_default.ensures

-- ---- no room for a row

pub returns-then-run-gt0-clause-value : goal.returns-then-run-gt0-clause-value
unfolding feed_answer
returns-then-run-gt0-clause-value c =
    let ran = (goal.at.returns-then-run-gt0-clause-value c).After-run_blocks-run in
    ap answer_of (sym (ends_so (passes ran) (underway ran) (fed-full _ _ _ c.if-run-gt0.true (c.run_blocks-run.ensures.full c.if-run-gt0.true))))

pub returns-then-run-gt0-clause-out_after : goal.returns-then-run-gt0-clause-out_after
unfolding feed_over
returns-then-run-gt0-clause-out_after c =
    let ran = (goal.at.returns-then-run-gt0-clause-out_after c).After-run_blocks-run in
    ap (λ (e : Stopped). e.walk.out) (sym (ends_so (passes ran) (underway ran) (fed-full _ _ _ c.if-run-gt0.true (c.run_blocks-run.ensures.full c.if-run-gt0.true))))

pub returns-then-run-gt0-clause-gives_listing : goal.returns-then-run-gt0-clause-gives_listing
returns-then-run-gt0-clause-gives_listing c = gives-listing _ _ _ _ _

-- ---- a refused record

pub returns-in-Err-clause-value : goal.returns-in-Err-clause-value
unfolding feed_answer
returns-in-Err-clause-value c =
    let ran = (goal.at.returns-in-Err-clause-value c).After-run_blocks-run in
    let told = (goal.at.returns-in-Err-clause-value c).In-Err in
    c.refuse.ensures.value ∙ ap answer_of (sym (ends-refused (passes ran) (underway ran) c.if-run-gt0.false (number-is told) (refused-some told.in-Err.refusal)))

pub returns-in-Err-clause-out_after : goal.returns-in-Err-clause-out_after
unfolding feed_over
returns-in-Err-clause-out_after c =
    let ran = (goal.at.returns-in-Err-clause-out_after c).After-run_blocks-run in
    let told = (goal.at.returns-in-Err-clause-out_after c).In-Err in
    c.refuse.ensures.out_after ∙ ap (λ (e : Stopped). e.walk.out) (sym (ends-refused (passes ran) (underway ran) c.if-run-gt0.false (number-is told) (refused-some told.in-Err.refusal)))

pub returns-in-Err-clause-used_bound : goal.returns-in-Err-clause-used_bound
returns-in-Err-clause-used_bound c =
    let used = ap (λ (f : Told). f.used) c.refuse.ensures.value ∙ refused-used _ (number c.in-Err.refusal) in
    omega (arith, used, c.run_blocks-run.ensures.within)

pub returns-in-Err-clause-gives_listing : goal.returns-in-Err-clause-gives_listing
returns-in-Err-clause-gives_listing c = gives-listing _ _ _ _ _

-- ---- no whole record

pub returns-in_default-frame-clause-value : goal.returns-in_default-frame-clause-value
unfolding feed_answer
returns-in_default-frame-clause-value c =
    let ran = (goal.at.returns-in_default-frame-clause-value c).After-run_blocks-run in
    let asked = (goal.at.returns-in_default-frame-clause-value c).In_default in
    ap answer_of (sym (ends-cut (passes ran) (underway ran) c.if-run-gt0.false (fine asked) c.in_default-frame.ensures))

pub returns-in_default-frame-clause-out_after : goal.returns-in_default-frame-clause-out_after
unfolding feed_over
returns-in_default-frame-clause-out_after c =
    let ran = (goal.at.returns-in_default-frame-clause-out_after c).After-run_blocks-run in
    let asked = (goal.at.returns-in_default-frame-clause-out_after c).In_default in
    ap (λ (e : Stopped). e.walk.out) (sym (ends-cut (passes ran) (underway ran) c.if-run-gt0.false (fine asked) c.in_default-frame.ensures))

pub returns-in_default-frame-clause-gives_listing : goal.returns-in_default-frame-clause-gives_listing
returns-in_default-frame-clause-gives_listing c = gives-listing _ _ _ _ _

-- ---- a record of another kind

pub after_record-t-requires : goal.after_record-t-requires
after_record-t-requires c =
    let ran = (goal.at.after_record-t-requires c).After-run_blocks-run in
    let asked = (goal.at.after_record-t-requires c).In_default in
    no-block-lent (passes ran) (underway ran) c.if-run-gt0.false (fine asked) c.in-Some.ensures (c.run_blocks-run.ensures.no_block (omega arith))

pub loop-run-preserved : goal.loop-run-preserved
loop-run-preserved c =
    let ran = (goal.at.loop-run-preserved c).After-run_blocks-run in
    let asked = (goal.at.loop-run-preserved c).In_default in
    underway-next (passes ran) (underway ran) c.if-run-gt0.false (fine asked) c.in-Some.ensures (c.run_blocks-run.ensures.no_block (omega arith)) c.after_record-t.ensures

pub loop-run-smaller : goal.loop-run-smaller
loop-run-smaller c =
    let ran = (goal.at.loop-run-smaller c).After-run_blocks-run in
    let asked = (goal.at.loop-run-smaller c).In_default in
    let ends = ends-within (passes ran) (underway ran) c.if-run-gt0.false (fine asked) c.in-Some.ensures (c.run_blocks-run.ensures.no_block (omega arith)) in
    omega (arith, ends, c.run_blocks-run.ensures.onward)
