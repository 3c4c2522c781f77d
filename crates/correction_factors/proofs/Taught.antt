-- The lesson of a subband has a ratio with a plus sign, or none.
use Rattle.std.proofs.Common.{◌≡◌, ℕ, ◌+◌, ◌-◌, ◌*◌, ◌^◌, ◌<◌, true, false, List, get_or, length, sym, refl, ap, ◌∙◌, subst, arith}
use lib.Ieee.{Float, nan, binary32, div, lt}
use Rattle.aec3_common.specs.Binary32.{zero32, energy_threshold, greatest_value, within, values_ok}
use Rattle.aec3_common.proofs.Choices.{and_right}
use Rattle.aec3_common.proofs.Every.{list_all-at, list_all-by}
use Rattle.aec3_common.proofs.Numbers.{UpTo, no-sum, sum-up-to, ratio-plus}
use Rattle.aec3_common.proofs.Rounding.{Signed}
use Rattle.aec3_common.proofs.Tables.{length-tab, get_or-tab}
use Rattle.filter_sections.specs.Subbands.{subband_bands}
use Rattle.correction_factors.specs.Factors.{Lesson, lesson_of, is_updated, new_erle, subband_sum, subband_sums, of_subband}
use Rattle.correction_factors.proofs.Bands.{ends-within}

-- what a subband is taught: a ratio with a plus sign where it is updated, infinity included, and zero where it is not
pub record Taught (l : Lesson) : Type 0 where
  pub ratio : l.updated ≡ true → Signed false l.new
  pub none : l.updated ≡ false → l.new ≡ zero32

-- the sum of a subband's values is at most so many times 2^100
summed :
    (spectrum : List Float) → length spectrum ≡ 65 → values_ok spectrum ≡ true → (subband : ℕ)
    → UpTo ((0 + length (of_subband nan spectrum subband)) * 2 ^ 100) (subband_sum spectrum subband)
unfolding subband_sum
summed spectrum long ok subband =
    sum-up-to 0 (of_subband nan spectrum subband) no-sum (list_all-by (within greatest_value) (of_subband nan spectrum subband) nan each)
    (omega (arith, size, ends-within subband))
  where
    begin : ℕ
    begin = (subband_bands subband).start

    bands : ℕ
    bands = (subband_bands subband).end - begin

    size : length (of_subband nan spectrum subband) ≡ bands
    size = length-tab bands (λ j. get_or spectrum (begin + j) nan)

    each : (k : ℕ) → k < length (of_subband nan spectrum subband) → within greatest_value (get_or (of_subband nan spectrum subband) k nan) ≡ true
    each k h =
        let inside : k < bands = omega (arith, size) in
        ap (within greatest_value) (get_or-tab bands (λ j. get_or spectrum (begin + j) nan) k nan inside)
        ∙ list_all-at (within greatest_value) spectrum nan (begin + k) ok (omega (arith, inside, long, ends-within subband))

-- The lesson of a converged channel, whose capture has values from 0 to 2^100, teaches each subband such a ratio.
pub lesson-plus :
    (sections : ℕ) (active : List ℕ) (render capture residual : List Float) → length capture ≡ 65 → values_ok capture ≡ true
    → (subband : ℕ) → subband < 6
    → Taught (lesson_of sections active (subband_sums render) (subband_sums capture) (subband_sums residual) subband)
unfolding lesson_of is_updated new_erle subband_sums
lesson-plus sections active render capture residual long ok s few =
    record { ratio = λ e. rw e (plus (and_right (lt energy_threshold x) (lt zero32 y) e)); none = λ e. rw e refl }
  where
    x : Float
    x = get_or (subband_sums render) s nan

    y : Float
    y = get_or (subband_sums residual) s nan

    plus : lt zero32 y ≡ true → Signed false (div binary32 (get_or (subband_sums capture) s nan) y)
    plus above =
        ratio-plus (subst (UpTo _) (sym (get_or-tab 6 (λ s. subband_sum capture s) s nan few)) (summed capture long ok s)) y above
