-- By its kind.
use Rattle.std.proofs.Common.{◌≡◌, sym, ◌∙◌, Err, rules}
use borrow.Author.Tests.{ne_eqb}
use Rattle.trace_records.specs.Records.{decoded}
use Rattle.trace_records.specs.Steps.{record_from}
use Rattle.trace_records.proofs.records.decode.Goals as goal

pub returns-in-Settings-clause-value : goal.returns-in-Settings-clause-value
unfolding decoded record_from
returns-in-Settings-clause-value c st =
    let kind = sym c.half_at.ensures.value ∙ rw c.in-Settings.is at c.in_ok-try_from.ensures in
    rw (kind, c.settings_in.ensures)

pub returns-in-Block-clause-value : goal.returns-in-Block-clause-value
unfolding decoded record_from
returns-in-Block-clause-value c st =
    let kind = sym c.half_at.ensures.value ∙ rw c.in-Block.is at c.in_ok-try_from.ensures in
    rw kind

pub returns-in-Reset-clause-value : goal.returns-in-Reset-clause-value
unfolding decoded record_from
returns-in-Reset-clause-value c st =
    let kind = sym c.half_at.ensures.value ∙ rw c.in-Reset.is at c.in_ok-try_from.ensures in
    rw (kind, c.byte_at.ensures.value)

pub returns-in_err-try_from-clause-value : goal.returns-in_err-try_from-clause-value
unfolding decoded record_from
returns-in_err-try_from-clause-value c st =
    let (_, a, b, d) = rw c.half_at.ensures.value at c.in_err-try_from.ensures in
    let is : c.from_residual.result ≡ Err c.in_err-try_from.field-0.0 = search rules in
    simp (is, ne_eqb _ _ a, ne_eqb _ _ b, ne_eqb _ _ d)
