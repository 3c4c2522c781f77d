-- The six subbands and the bands' maxima.
use Rattle.std.specs.Prelude.{◌≡◌, Bool, cond, ◌&&◌, List, [], ◌∷◌, ℕ, ◌+◌, leb, ltb, eqb, Float, get_or, count_by}
use Rattle.aec3_common.specs.Lists.{tab}
use Rattle.std.specs.declared.ops.Range.{Range}

-- the bands at which the subbands begin, after the first
abbrev pub later_begins : List ℕ
later_begins = 8 ∷ 16 ∷ 24 ∷ 32 ∷ 48 ∷ []

-- a subband's first band; where the last subband has ended, 65
unfoldable pub subband_begin : ℕ → ℕ
subband_begin subband = get_or (1 ∷ later_begins) subband 65

-- the bands that are summed in a subband: from its first to below the next one's first, the last subband's to 64
unfoldable pub subband_bands : ℕ → Range ℕ
subband_bands subband = record { start = subband_begin subband; end = subband_begin (subband + 1) }

-- the subband that a band maps to: as many later ones as begin at or below it; so band 0 maps to subband 0
unfoldable pub band_to_subband : ℕ → ℕ
band_to_subband band = count_by (λ begin. leb begin band) later_begins

-- bands 0 to 31 have maximum max_l, the others max_h
unfoldable pub max_erle : Float → Float → ℕ → Float
max_erle max_l max_h band = cond (ltb band 32) max_l max_h

-- whether a band is summed in a subband
abbrev pub summed_in : ℕ → ℕ → Bool
summed_in subband band = leb (subband_begin subband) band && ltb band (subband_begin (subband + 1))

-- Claim: each band but band 0 is summed in the subband that it maps to, and in no other; band 0 is summed in none.
unfoldable pub SummedWhereMapped : Type 0
SummedWhereMapped =
    tab 65 (λ band. tab 6 (λ subband. summed_in subband band))
    ≡ tab 65 (λ band. tab 6 (λ subband. ltb 0 band && eqb (band_to_subband band) subband))
