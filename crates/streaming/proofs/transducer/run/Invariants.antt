-- The bytes that are held lie within their table, and what went out and what is ahead are all of the text.
use Rattle.std.proofs.Common.{◌≡◌, ◌-◌, ◌≤◌, length, take, drop}
use Rattle.streaming.proofs.Piped.{Pipe}
use Rattle.streaming.proofs.transducer.run.Given as goal

abbrev pub invariant-loop : goal.invariant-loop
invariant-loop g l =
    (g.T.Transducer.sound l.job)
    × (l.held.from ≤ l.held.to)
    × (l.held.to ≤ length l.input)
    × (length l.input ≡ length l.initial.input)
    × Pipe (g.R.Read.remaining l.initial.reader) (g.R.Read.remaining l.reader) (g.W.Write.contents l.initial.writer) (g.W.Write.contents l.writer)
    g.T.Transducer.whole (g.T.Transducer.ahead l.job) (take (l.held.to - l.held.from) (drop l.held.from l.input)) l.held.ended
