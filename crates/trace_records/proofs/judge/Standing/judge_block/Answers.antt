-- Its form first.
use Rattle.std.proofs.Common.{◌≡◌, sym, ◌∙◌, rules}
use Rattle.aec3_common.specs.Answers.{number, number_of}
use Rattle.trace_records.proofs.Judged.{refused-some, form-refused, form-passed}
use Rattle.trace_records.proofs.judge.Standing.judge_block.Goals as goal

pub returns-in_err-block : goal.returns-in_err-block
returns-in_err-block c =
    let form = c.in_err-block.ensures.form in
    let same : number_of c.from_residual.result ≡ number c.in_err-block.field-0.0 = search rules in
    same ∙ form ∙ sym (form-refused _ _ _ (λ e. refused-some c.in_err-block.field-0.0 (form ∙ e)))

pub returns : goal.returns
returns c =
    rw (c.in_ok-block.ensures.bytes, c.in_ok-block.ensures.channels) at c.judge_block_values.ensures
    ∙ sym (form-passed _ _ _ (sym c.in_ok-block.ensures.form))
