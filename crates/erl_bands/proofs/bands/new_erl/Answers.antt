use lib.Ieee.{of_bits, div}
use Rattle.erl_bands.specs.Steps.{new_erl}
use Rattle.erl_bands.proofs.bands.new_erl.Goals as goal

-- plus infinity's bits are those of 1 by 0
pub returns-else-render : goal.returns-else-render
unfolding new_erl of_bits div
returns-else-render c = simp c.if-render.false
