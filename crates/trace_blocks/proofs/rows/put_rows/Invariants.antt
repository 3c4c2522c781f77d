-- Each turn writes the first row that is due, and what is left is written as before.
use Rattle.std.proofs.Common.{◌≡◌, ◌-◌, length}
use Rattle.trace_state.specs.Apply.{channels_of, row_at}
use Rattle.trace_blocks.specs.Steps.{rows_written}
use Rattle.trace_blocks.proofs.rows.put_rows.Given as goal

abbrev pub invariant-loop-ch : goal.invariant-loop-ch
invariant-loop-ch l =
    let row = row_at l.t.estimator l.t.band l.t.blocks in
    let n = channels_of l.t.estimator in
    (rows_written row n l.t.rows_due l.initial.out l.initial.at ≡ rows_written row n (n - l.ch) l.out l.at)
    × (length l.out ≡ length l.initial.out)
