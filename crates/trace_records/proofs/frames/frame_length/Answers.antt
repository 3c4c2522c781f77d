-- A record whose L can be one is whole where as many bytes follow. Where it cannot, none is.
use Rattle.std.proofs.Common.{◌≡◌, ◌∙◌, rules}
use Rattle.std.specs.Prelude.{None}
use Rattle.trace_records.proofs.Framing.{none_there, cut_short, all_there}
use Rattle.trace_records.proofs.frames.frame_length.Goals as goal

pub returns-in_err-length : goal.returns-in_err-length
returns-in_err-length c =
    let none : c.from_residual.result ≡ None = search rules in
    record { value = none ∙ none_there _ c.in_err-length.ensures.value }

pub returns-then-s-length : goal.returns-then-s-length
returns-then-s-length c = record { value = cut_short _ _ c.in_ok-length.ensures.value c.if-s-length.true }

pub returns-else-s-length : goal.returns-else-s-length
returns-else-s-length c = record { value = all_there _ _ c.in_ok-length.ensures.value c.if-s-length.false }
