-- The range that what a channel learns keeps.
use Rattle.std.specs.Prelude.{◌≡◌, Bool, true, ◌&&◌, ℕ, ◌<◌, Float, get_or}
use Rattle.std.specs.Float.{nan, binary32}
use Rattle.std.specs.Float.Ieee.{div, lt}
use Rattle.aec3_common.specs.Binary32.{zero32, is_finite, number_from}
use Rattle.correction_factors.specs.declared.CorrectionFactors.{CorrectionFactors}
use Rattle.correction_factors.specs.Factors.{subband_max, entry_of}

-- the least and the greatest factor: a minimum divided by a maximum, and the maximum by the minimum, each rounded
abbrev pub least_factor : Float → Float → Float
least_factor min max = div binary32 min max

abbrev pub greatest_factor : Float → Float → Float
greatest_factor min max = div binary32 max min

-- above 0, no infinity, between these two
abbrev pub factor_ok : Float → Float → Float → Bool
factor_ok min max x = is_finite x && lt zero32 x && number_from (least_factor min max) (greatest_factor min max) x

-- Each section's estimate in a subband and the subband's reference are numbers, not below the minimum nor above the subband's maximum; each
-- section's factor is a number above 0, between the quotients of these two.
--
-- Phrase by phrase:
-- "section estimates and references stay within the limits" -> estimates and references, by subband_max
-- "correction factors stay numbers not below 0" -> is_finite and lt zero32 in factor_ok
-- "the bounds that hold" -> least_factor and greatest_factor
pub record LearntInRange (min max_l max_h : Float) (c : CorrectionFactors) : Type 0 where
  pub estimates :
      (section subband : ℕ) → section < 8 → subband < 6
      → number_from min (subband_max max_l max_h subband) (entry_of c.erle_estimators section subband) ≡ true
  pub references : (subband : ℕ) → subband < 6 → number_from min (subband_max max_l max_h subband) (get_or c.erle_ref subband nan) ≡ true
  pub factors :
      (section subband : ℕ) → section < 8 → subband < 6
      → factor_ok min (subband_max max_l max_h subband) (entry_of c.correction_factors section subband) ≡ true
