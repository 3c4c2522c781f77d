-- The bytes begin with a whole record, or with none.
use Rattle.std.proofs.Common.{sym, ◌∙◌}
use Rattle.trace_records.specs.Judge.{refusal_ahead}
use Rattle.trace_records.proofs.judge.Standing.judge_ahead.Goals as goal

pub returns-in-Some : goal.returns-in-Some
unfolding refusal_ahead
returns-in-Some c = c.judge_record.ensures ∙ sym (rw (c.in-Some.ensures.0, ← c.in-Some.ensures.1))

pub returns-in-None : goal.returns-in-None
unfolding refusal_ahead
returns-in-None c = simp (c.in-None.ensures, sym c.if-may_go_on.ensures)

pub returns-in-None-2 : goal.returns-in-None-2
unfolding refusal_ahead
returns-in-None-2 c = simp (c.in-None-2.ensures, sym c.if-may_go_on.ensures)
