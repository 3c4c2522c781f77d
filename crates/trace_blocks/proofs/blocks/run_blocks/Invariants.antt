-- Each turn writes the rows that are due and takes one block.
use Rattle.std.proofs.Common.{◌-◌, length}
use Rattle.trace_blocks.proofs.Going.{Going}
use Rattle.trace_blocks.proofs.blocks.run_blocks.Given as goal

abbrev pub invariant-loop-standing : goal.invariant-loop-standing
invariant-loop-standing l =
    let i = l.initial in
    Going l.input (record { state = i.state; used = i.used; out = i.out; at = i.at }) (record { state = l.state; used = l.used; out = l.out; at = l.at })

abbrev pub decreases-loop-standing : goal.decreases-loop-standing
decreases-loop-standing l = length l.input - l.used
