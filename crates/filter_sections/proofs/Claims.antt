-- The subbands' claim, computed over all bands and subbands, and where the subbands are over.
use mathlib.Core.Path.{◌≡◌, refl}
use mathlib.Core.List.{◌∷◌}
use Prim.Native.Nat.{ℕ, ◌≤◌}
use lib.ListN.{get_or-eq_default}
use Rattle.aec3_common.specs.Lists.{tab}
use Rattle.filter_sections.specs.Subbands.{SummedWhereMapped, later_begins, subband_begin, band_to_subband}

pub summed-where-mapped : SummedWhereMapped
unfolding SummedWhereMapped tab subband_begin band_to_subband
summed-where-mapped = refl

pub subbands-over : (subband : ℕ) → 6 ≤ subband → subband_begin subband ≡ 65
unfolding subband_begin
subbands-over subband far = get_or-eq_default (1 ∷ later_begins) 65 far
