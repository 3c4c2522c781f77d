-- The sums hold the render power of the blocks before this one.
use Rattle.std.proofs.Common.{◌≡◌}
use Rattle.section_echoes.specs.Echoes.{render_sum}
use Rattle.section_echoes.specs.Steps.{bands}
use Rattle.section_echoes.proofs.renders.RingWalk.section_render.Given as goal

abbrev pub invariant-loop-position : goal.invariant-loop-position
invariant-loop-position l = l.sums ≡ bands (render_sum l.self.ring l.self.spectra.now l.self.headroom l.from l.position-index)
