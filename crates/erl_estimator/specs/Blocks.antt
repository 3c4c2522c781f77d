-- A block as a call lends it, handed to what is defined over its counts and lists.
use Rattle.std.specs.Prelude.{ℕ, Bool, List, Float}
use Rattle.erl_estimator.specs.declared.block.ErlBlock.{ErlBlock}

-- capture and render channel counts, flags, renders and captures
abbrev pub with_block : {A : Type 0} → (ℕ → ℕ → List Bool → List Float → List Float → A) → ErlBlock → A
with_block f block =
    f block.num_capture_channels block.num_render_channels block.converged_filters.now block.render_spectra.now block.capture_spectra.now
