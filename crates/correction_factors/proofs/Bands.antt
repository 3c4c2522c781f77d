-- The bands of a subband, and what stands there.
use Rattle.std.proofs.Common.{◌≡◌, ℕ, zero, suc, ◌+◌, ◌-◌, ◌<◌, ◌≤◌, min, Bool, true, ◌&&◌, leb, List, [], ◌∷◌, length, get_or, take, drop, refl, ◌∙◌, le_refl, le_trans, add-one, arith, leb-true, length-drop}
use Rattle.std.proofs.Math.Nat.{min-le_left}
use Rattle.std.proofs.lemmas.List.{length-take-le, get_or-take, get_or-drop}
use Rattle.std.specs.List.{list_all}
use Rattle.aec3_common.specs.Lists.{tab}
use Rattle.aec3_common.proofs.Choices.{and_left, and_right}
use Rattle.aec3_common.proofs.Tables.{tab-is}
use Rattle.filter_sections.specs.Subbands.{later_begins, subband_begin, subband_bands}
use Rattle.correction_factors.specs.Factors.{least_from, least_active, of_subband}

-- the least is not above the first
pub least_under : (n : ℕ) (ms : List ℕ) → least_from n ms ≤ n
least_under n [] = le_refl n
least_under n (m ∷ ms) = le_trans (least_under (min n m) ms) (min-le_left n m)

-- an entry of numbers up to 65, or 65
entry-within : (ns : List ℕ) (k : ℕ) → list_all (λ n. leb n 65) ns ≡ true → get_or ns k 65 ≤ 65
entry-within [] k e = le_refl 65
entry-within (n ∷ ns) zero e = leb-true n 65 (and_left (leb n 65) (list_all (λ n. leb n 65) ns) e)
entry-within (n ∷ ns) (suc k) e = entry-within ns k (and_right (leb n 65) (list_all (λ n. leb n 65) ns) e)

-- whether a number and those after it rise, up to 65
abbrev rises : ℕ → List ℕ → Bool
rises n [] = leb n 65
rises n (m ∷ ns) = leb n m && rises m ns

-- then none is above the next
entry-rises : (n : ℕ) (ns : List ℕ) (k : ℕ) → rises n ns ≡ true → get_or (n ∷ ns) k 65 ≤ get_or ns k 65
entry-rises n [] zero e = leb-true n 65 e
entry-rises n [] (suc k) e = le_refl 65
entry-rises n (m ∷ ns) zero e = leb-true n m (and_left (leb n m) (rises m ns) e)
entry-rises n (m ∷ ns) (suc k) e = entry-rises m ns k (and_right (leb n m) (rises m ns) e)

-- no subband ends before it begins
pub bands-ordered : (subband : ℕ) → (subband_bands subband).start ≤ (subband_bands subband).end
unfolding subband_bands subband_begin
bands-ordered subband = rw (add-one subband) (entry-rises 1 later_begins subband refl)

-- no subband ends behind the last band
pub ends-within : (subband : ℕ) → (subband_bands subband).end ≤ 65
unfolding subband_bands subband_begin
ends-within subband = entry-within (1 ∷ later_begins) (subband + 1) refl

-- a part of a list, by its entries
pub part-is :
    {A : Type 0} (d : A) (xs : List A) (from to : ℕ) → from ≤ to → to ≤ length xs
    → take (to - from) (drop from xs) ≡ tab (to - from) (λ j. get_or xs (from + j) d)
part-is d xs from to ordered within =
    tab-is (to - from) d (λ j. get_or xs (from + j) d) (take (to - from) (drop from xs))
    (length-take-le (to - from) (drop from xs) (omega (arith, length-drop from xs)))
    (λ j h. get_or-take (to - from) (drop from xs) j d h ∙ get_or-drop from xs j d)

-- the least active section of a subband is one of eight
pub least-of-eight : (sections : ℕ) (active : List ℕ) (subband : ℕ) → sections ≤ 8 → least_active sections active subband < 8
unfolding least_active
least-of-eight sections active subband few = omega (arith, least_under (sections - 1) (of_subband 0 active subband))
