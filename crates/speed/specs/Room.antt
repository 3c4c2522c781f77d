-- What has to lie in the slices that a measuring function is lent.
use Rattle.std.specs.Prelude.{ℕ, ◌*◌, ◌≤◌}

-- so many blocks of so many channels lie in slices of these lengths: flags, render, capture and residual
pub record Room (channels blocks flags render capture residual : ℕ) : Type 0 where
  pub few_channels : channels ≤ 4
  pub flags_fit : blocks * channels ≤ flags
  pub render_fits : blocks * 65 ≤ render
  pub capture_fits : blocks * (channels * 65) ≤ capture
  pub residual_fits : blocks * (channels * 65) ≤ residual

-- what all blocks share lies in slices of these lengths: a ring of 20 spectra, and 13 response spectra for each channel
pub record Shared (channels ring responses : ℕ) : Type 0 where
  pub ring_fits : 1300 ≤ ring
  pub responses_fit : channels * 845 ≤ responses
