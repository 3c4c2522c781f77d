-- A block as a call lends it, handed to what is defined over its lists.
use Rattle.std.specs.Prelude.{ℕ, Bool, List, Float}
use Rattle.aec3_common.specs.declared.block.Block.{Block}

-- channel count, flags, render, captures and residuals
abbrev pub with_block : {A : Type 0} → (ℕ → List Bool → List Float → List Float → List Float → A) → Block → A
with_block f block =
    f block.num_capture_channels block.converged_filters.now block.x2.now block.y2.now block.e2.now
