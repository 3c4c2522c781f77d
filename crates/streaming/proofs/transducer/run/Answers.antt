use Rattle.std.proofs.Common.{◌≡◌, ◌-◌, arith, refl, ◌∙◌}
use Rattle.streaming.proofs.Piped.{if-failed, pipe-begun, part-of-part, begun-failed, whole-done, whole-ended, pipe-on, pipe-read}
use Rattle.streaming.proofs.transducer.run.Goals as goal
use Rattle.streaming.proofs.transducer.run.Goals.{in-WantsRoom+else-fed-eq0, in-WantsBytes+else-held+in_ok-held-in-WantsBytes}

pub returns-in-Done-clause-whole : goal.returns-in-Done-clause-whole
returns-in-Done-clause-whole g c =
    whole-done _ c.loop.invariant.4 (c.feed-fed.ensures c.loop.invariant.0 (omega arith)) c.in_ok-write_out.ensures.written c.in-Done.is

pub returns-then-held-clause-whole : goal.returns-then-held-clause-whole
returns-then-held-clause-whole g c =
    whole-ended _ c.loop.invariant.4 (c.feed-fed.ensures c.loop.invariant.0 (omega arith)) c.in_ok-write_out.ensures.written c.in-WantsBytes.is c.if-held.true

pub loop-preserved : goal.loop-preserved
loop-preserved g c =
    let l = c.loop in
    let feeds = c.feed-fed.ensures l.invariant.0 (omega arith) in
    let out = c.in_ok-write_out.ensures.written in
    let (fits, is) = part-of-part l.input l.held.from l.held.to c.feed-fed.result.used l.invariant.1 l.invariant.2 feeds.within in
    elim c.match-fed.branch [
      | in-WantsRoom+else-fed-eq0 w ↦
          rw (w.reader-is, w.input-is, w.held-is)
          (feeds.keeps, fits, l.invariant.2, l.invariant.3, pipe-on _ l.invariant.4 feeds out w.in-WantsRoom.is is)
      | in-WantsBytes+else-held+in_ok-held-in-WantsBytes w ↦
          let read = w.in_ok-held-in-WantsBytes.ensures.held in
          let whole : w.in_ok-held-in-WantsBytes.held.to - 0 ≡ w.in_ok-held-in-WantsBytes.held.to = omega arith in
          rw (w.reader-is, w.input-is, w.held-is, read.front)
          (feeds.keeps, omega arith, read.within, w.read_on.auto.input ∙ l.invariant.3, rw whole (pipe-read _ l.invariant.4 feeds out w.in-WantsBytes.is w.if-held.false is read))
    ]

pub loop-init : goal.loop-init
loop-init g c = (c.start-job.ensures.sound, omega arith, omega arith, refl, pipe-begun _ _ _ _ c.start-job.ensures.ahead)

pub returns-in_err-held-in-WantsBytes-clause-begun : goal.returns-in_err-held-in-WantsBytes-clause-begun
returns-in_err-held-in-WantsBytes-clause-begun g c =
    if-failed _ _ (begun-failed _ c.loop.invariant.4 (c.feed-fed.ensures c.loop.invariant.0 (omega arith)) c.in_ok-write_out.ensures.written c.in-WantsBytes.is c.if-held.false _ c.in_err-held-in-WantsBytes.ensures.failed)
