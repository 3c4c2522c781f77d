-- The sums hold the responses of the blocks before this one.
use Rattle.std.proofs.Common.{◌≡◌, ◌/◌, List, Float, length}
use Rattle.std.specs.Simd.{first_chunks}
use Rattle.section_echoes.specs.Echoes.{response_sum}
use Rattle.section_echoes.specs.Steps.{bands}
use Rattle.section_echoes.proofs.echoes.section_response.Given as goal

abbrev pub invariant-loop-powers : goal.invariant-loop-powers
invariant-loop-powers l =
    (responses : List Float) → l.blocks ≡ first_chunks 65 (length responses / 65) responses → l.sums ≡ bands (response_sum responses l.from l.powers-index)
