-- A stream of a channel, corrected by the channel's factors, band by band.
use Rattle.std.specs.Prelude.{cond, List, ℕ, eqb, Float, length, get_or}
use Rattle.std.specs.Float.{nan, binary32}
use Rattle.std.specs.Float.Ieee.{mul}
use Rattle.aec3_common.specs.Binary32.{clamped}
use Rattle.aec3_common.specs.Lists.{tab}
use Rattle.filter_sections.specs.Subbands.{band_to_subband, max_erle}
use Rattle.correction_factors.specs.Factors.{entry_of}

-- the band whose figure a band shows: band 64 copies 63
abbrev pub own_or_63 : ℕ → ℕ
own_or_63 k = cond (eqb k 64) 63 k

-- the factor of a band: that of its own active section, in the subband that it maps to
unfoldable pub factor_of : List Float → List ℕ → ℕ → Float
factor_of factors active k = entry_of factors (get_or active k 0) (band_to_subband k)

-- a band's average times a factor, clamped to the band's limits
unfoldable pub corrected_band : Float → Float → Float → ℕ → Float → Float → Float
corrected_band min max_l max_h k average factor = clamped (mul binary32 average factor) min (max_erle max_l max_h k)

-- Bands 0 to 63 become the subband estimator's stream times the band's factor, clamped; 64 copies 63.
unfoldable pub corrected : Float → Float → Float → List Float → List ℕ → List Float → List Float
corrected min max_l max_h factors active average =
    tab 65
    (λ j.
    let k = own_or_63 j in
    corrected_band min max_l max_h k (get_or average k nan) (factor_of factors active k))

-- a stream that is not corrected keeps bands 0 to 63; 64 copies 63 all the same
unfoldable pub last_copied : List Float → List Float
last_copied stream = tab (length stream) (λ j. get_or stream (own_or_63 j) nan)
