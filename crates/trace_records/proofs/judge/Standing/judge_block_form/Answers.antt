-- The flags that are looked at are the definition's.
use Rattle.std.proofs.Common.{sym, ◌∙◌, arith}
use borrow.Author.Tests.{eq-eqb}
use Rattle.trace_records.specs.Records.{block_in}
use Rattle.trace_records.specs.Judge.{place_refusal, length_asked, flags_ok, form_refusal}
use Rattle.trace_records.proofs.Blocks.{flags-part}
use Rattle.trace_records.proofs.judge.Standing.judge_block_form.Goals as goal

pub returns-then-not-converged_flags_ok-clause-form : goal.returns-then-not-converged_flags_ok-clause-form
unfolding form_refusal place_refusal length_asked flags_ok block_in
returns-then-not-converged_flags_ok-clause-form c =
    let long = c.if-record-block_length.false ∙ c.block_length.ensures in
    let flags = rw (flags-part c.args.self.num_capture_channels c.args.record.now (omega (arith, long))) at c.if-not-converged_flags_ok.ensures in
    simp (sym c.if-not-stands.ensures, eq-eqb _ _ long, sym flags)

pub returns-clause-form : goal.returns-clause-form
unfolding form_refusal place_refusal length_asked flags_ok block_in
returns-clause-form c =
    let long = c.if-record-block_length.false ∙ c.block_length.ensures in
    let flags = rw (flags-part c.args.self.num_capture_channels c.args.record.now (omega (arith, long))) at c.if-not-converged_flags_ok.ensures in
    simp (sym c.if-not-stands.ensures, eq-eqb _ _ long, sym flags)
