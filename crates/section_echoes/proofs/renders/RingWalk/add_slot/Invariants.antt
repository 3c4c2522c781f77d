-- The sums have the channels before this one.
use Rattle.std.proofs.Common.{◌≡◌}
use Rattle.section_echoes.specs.Steps.{with_slot}
use Rattle.section_echoes.proofs.renders.RingWalk.add_slot.Given as goal

abbrev pub invariant-loop-powers : goal.invariant-loop-powers
invariant-loop-powers l = l.sums ≡ with_slot l.self.spectra.now l.position l.powers-index l.self.share l.fn.sums
