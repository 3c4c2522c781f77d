-- By its kind.
use Rattle.std.proofs.Common.{◌≡◌, ◌∙◌, rules}
use Rattle.aec3_common.specs.Answers.{number_of}
use Rattle.aec3_common.specs.Refusal.{unknown_kind}
use Rattle.trace_records.specs.Judge.{place_refusal, form_refusal, record_refusal}
use Rattle.trace_records.specs.Steps.{record_from}
use Rattle.trace_records.proofs.judge.Standing.judge_record.Goals as goal

pub returns-in-Settings : goal.returns-in-Settings
unfolding record_from
returns-in-Settings c =
    let is = rw c.in-Settings.is at c.in_ok-settings.ensures.value in
    c.judge_settings.ensures ∙ rw (← is c.args.self)

pub returns-in-Block : goal.returns-in-Block
unfolding record_from
returns-in-Block c =
    let is = rw c.in-Block.is at c.in_ok-settings.ensures.value in
    c.judge_block.ensures ∙ rw (← is c.args.self)

pub returns-in-Reset : goal.returns-in-Reset
unfolding record_from
returns-in-Reset c =
    let is = rw c.in-Reset.is at c.in_ok-settings.ensures.value in
    c.judge_reset.ensures ∙ rw (← is c.args.self)

pub returns-in_err-settings : goal.returns-in_err-settings
unfolding record_from place_refusal form_refusal record_refusal
returns-in_err-settings c =
    let refused : number_of c.from_residual.result ≡ unknown_kind = search rules in
    refused ∙ rw (← c.in_err-settings.ensures.value c.args.self)
