-- Each turn takes rows and blocks first, and then one record of another kind.
use Rattle.std.proofs.Common.{◌-◌, length}
use Rattle.trace.proofs.Underway.{Underway}
use Rattle.trace.proofs.feeding.feed.Given as goal

abbrev pub invariant-loop-run : goal.invariant-loop-run
invariant-loop-run l =
    let i = l.initial in
    Underway l.input l.ended (record { state = i.t; used = 0; out = i.out; at = i.at }) (record { state = l.t; used = l.used; out = l.out; at = l.at })

abbrev pub decreases-loop-run : goal.decreases-loop-run
decreases-loop-run l = length l.input - l.used
