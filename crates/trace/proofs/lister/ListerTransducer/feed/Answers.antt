use Rattle.std.proofs.Common.{[], ◌≡◌, ap, ◌∙◌}
use mathlib.Core.Bool.{false, cond}
use Rattle.encoding.proofs.Writing.{Wrote, wrote, wrote_none}
use Rattle.trace_text.specs.Text.{header}
use Rattle.trace.specs.declared.lister.Lister.{Lister}
use Rattle.trace.specs.Answers.{feed_answer, feed_over}
use Rattle.trace.proofs.Lines.{fed-so, no-room-fed}
use Rattle.trace.proofs.lister.ListerTransducer.feed.Goals as goal
use Rattle.trace.proofs.lister.ListerTransducer.feed.Goals.{then-self+in-Some, else-self}

pub returns-in_default : goal.returns-in_default
returns-in_default c = λ stays fits.
    no-room-fed c.args.self.now c.args.input.now c.args.ended c.args.out.now c.put_header.new.out c.args.at c.args.at
    c.in_default.ensures.value c.in_default.ensures.out_after c.if-self.true fits stays

pub returns : goal.returns
unfolding feed_answer feed_over
returns c = λ stays fits.
    let l = c.args.self.now in
    let d = c.args.out.now in
    let begun : (c.if-self.self.trace ≡ l.trace) × (c.if-self.self.header_due ≡ false) × Wrote d c.args.at (cond l.header_due header []) c.if-self.out c.if-self.begin =
    elim c.if-self.branch [
      | then-self+in-Some w ↦
          let written = wrote d c.args.at header _ _ w.in-Some.ensures.value w.in-Some.ensures.out_after in
          (ap (λ (x : Lister). x.trace) w.self-is, ap (λ (x : Lister). x.header_due) w.self-is, rw (w.out-is, w.begin-is, w.if-self.true) written)
      | else-self w ↦
          (ap (λ (x : Lister). x.trace) w.self-is, ap (λ (x : Lister). x.header_due) w.self-is ∙ w.if-self.false, rw (w.out-is, w.begin-is, w.if-self.false) (wrote_none d c.args.at fits))
    ] in
    fed-so l c.args.input.now c.args.ended d c.if-self.out c.args.at c.if-self.begin c.if-self.self c.feed-fed.result begun.0 begun.1 begun.2 stays
    c.feed-fed.ensures.value c.feed-fed.ensures.out_after c.feed-fed.ensures.used_bound c.wanted_next.ensures
