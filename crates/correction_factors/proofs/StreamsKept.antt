-- The streams that a channel's factors correct are in range.
use mathlib.Core.Bool.{beq}
use Rattle.std.proofs.Common.{leb, ◌≡◌, ℕ, ◌*◌, ◌<◌, true, false, not, T, List, get_or, length, sym, subst, arith}
use Rattle.std.proofs.lemmas.List.Sums.{count_by-le-length}
use lib.Ieee.{Float, nan, inf, fin, binary32, mul, up, down}
use lib.Ieee.Fits.{mul-fits}
use lib.Ieee.Positive.{positive-finite}
use lib.Ieee.Scale.{finite}
use Rattle.aec3_common.specs.Binary32.{greatest_value, within, values_ok}
use Rattle.aec3_common.proofs.Every.{list_all-at}
use Rattle.aec3_common.proofs.Fitting.{Between}
use Rattle.aec3_common.proofs.Limits.{clamped-within}
use Rattle.aec3_common.proofs.Numbers.{number, Value, plain, minus_zero, up_to, value-within}
use Rattle.aec3_common.proofs.Rounding.{round_number}
use Rattle.aec3_common.proofs.Tables.{get_or-tab}
use Rattle.filter_sections.specs.Subbands.{later_begins, subband_bands, band_to_subband, max_erle}
use Rattle.filter_sections.proofs.Limits.{AllInOrder}
use Rattle.correction_factors.specs.declared.CorrectionFactors.{CorrectionFactors}
use Rattle.correction_factors.specs.Factors.{subband_of}
use Rattle.correction_factors.specs.Streams.{own_or_63, factor_of, corrected_band, corrected}
use Rattle.correction_factors.proofs.Corrected.{own-inside, own-max}
use Rattle.correction_factors.proofs.Range.{LearntKept, factor-positive}
use Rattle.correction_factors.proofs.Entries.{place_of}

-- the product of a value and a finite number is a number
product-number : {k : ℕ} {x : Float} → Value k x → (y : Float) → T (finite y) → T (number (mul binary32 x y))
unfolding mul
product-number v nan h = absurd h
product-number v (inf t) h = absurd h
product-number (plain (up_to m e l)) (fin t n d) h = round_number binary32 (not (beq false t)) (m * up e * (n * up d)) (down e * down d)
product-number (minus_zero e) (fin t n d) h = round_number binary32 (not (beq true t)) (0 * up e * (n * up d)) (down e * down d)

subband-few : (k : ℕ) → band_to_subband k < 6
unfolding band_to_subband
subband-few k = omega (arith, count_by-le-length (λ begin. leb begin k) later_begins)

module _ (min max_l max_h : Float) (limits : AllInOrder min max_l max_h) {c : CorrectionFactors} (kept : LearntKept min max_l max_h c) where
  factor-finite : (active : List ℕ) (k : ℕ) → get_or active k 0 < 8 → T (finite (factor_of c.correction_factors active k))
  unfolding factor_of
  factor-finite active k eight =
      let j = place_of (get_or active k 0) (band_to_subband k) in
      let x = get_or c.correction_factors j nan in
      positive-finite x
      (factor-positive (limits (subband_bands (subband_of j)).start) (kept.factors j (omega (arith, eight, subband-few k))))

  -- Each band of a corrected stream lies within the band's limits, whatever the average of values from 0 to 2^100 is.
  pub corrected-kept :
      (active : List ℕ) (average : List Float) → ((k : ℕ) → k < 65 → get_or active k 0 < 8)
      → length average ≡ 65 → values_ok average ≡ true
      → (k : ℕ) → k < 65
      → Between min (max_erle max_l max_h k) (get_or (corrected min max_l max_h c.correction_factors active average) k nan)
  unfolding corrected corrected_band
  corrected-kept active average eight long ok k h =
      let own = own_or_63 k in
      let inside = own-inside k h in
      let x = get_or average own nan in
      let f = factor_of c.correction_factors active own in
      let value = value-within x (list_all-at (within greatest_value) average nan own ok (omega (arith, inside, long))) in
      subst (Between min _) (sym (get_or-tab 65 _ k nan h))
      (rw (← own-max max_l max_h k)
      (clamped-within (limits own) (mul binary32 x f) (product-number value f (factor-finite active own (eight own inside))) (mul-fits binary32 x f)))
