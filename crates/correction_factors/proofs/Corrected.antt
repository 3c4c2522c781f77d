-- Which bands map to a subband, and streams whose last band is a copy.
use mathlib.Core.Path.{◌≡◌, refl, sym, ap, ◌∙◌}
use mathlib.Core.Bool.{Bool, true, false, cond, ◌&&◌}
use mathlib.Core.List.{List, []}
use Prim.Native.Nat.{ℕ, ◌+◌, ◌≤◌, ◌<◌}
use native.Mathlib.Omega.{arith}
use borrow.Author.Tests.{eqb-true, eqb-false, leb-true, leb-false, le-leb, lt-ltb, le-ltb}
use lib.Dec.{leb, ltb, eqb}
use lib.Ieee.{Float, nan}
use lib.ListN.{length, get_or, set, length-set}
use lib.Seq.{get_or-set_same, get_or-set_other}
use Rattle.std.specs.List.{list_all}
use Rattle.aec3_common.specs.Lists.{tab}
use Rattle.aec3_common.specs.Steps.{Changed}
use Rattle.aec3_common.proofs.Choices.{and_left, and_right, cond_has}
use Rattle.aec3_common.proofs.Every.{list_all-at}
use Rattle.aec3_common.proofs.Tables.{length-tab, get_or-tab, tab-is, tab-same}
use Rattle.filter_sections.specs.Subbands.{subband_begin, band_to_subband, max_erle}
use Rattle.correction_factors.specs.Factors.{entry_of}
use Rattle.correction_factors.specs.Steps.{first_band, factors_of, corrected_by}
use Rattle.correction_factors.specs.Streams.{own_or_63, factor_of, corrected_band, corrected, last_copied}

-- ---- bands and subbands

-- whether a band stands from a subband's first band on, and below the next one's
abbrev stands_in : ℕ → ℕ → Bool
stands_in s k = leb (first_band s) k && ltb k (first_band (s + 1))

-- these are the bands that map to it, computed over all bands and subbands
mapped : tab 65 (λ k. tab 6 (λ s. stands_in s k)) ≡ tab 65 (λ k. tab 6 (λ s. eqb (band_to_subband k) s))
unfolding tab first_band subband_begin band_to_subband
mapped = refl

entry : (f : ℕ → ℕ → Bool) (s k : ℕ) → s < 6 → k < 65 → get_or (get_or (tab 65 (λ k. tab 6 (λ s. f s k))) k []) s false ≡ f s k
entry f s k few b = rw (get_or-tab 65 (λ k. tab 6 (λ s. f s k)) k [] b) (get_or-tab 6 (λ s. f s k) s false few)

pub maps-to : (s k : ℕ) → s < 6 → k < 65 → first_band s ≤ k → k < first_band (s + 1) → band_to_subband k ≡ s
maps-to s k few b from to =
    eqb-true (band_to_subband k) s
    (sym (entry (λ s k. eqb (band_to_subband k) s) s k few b)
    ∙ ap (λ (t : List (List Bool)). get_or (get_or t k []) s false) (sym mapped)
    ∙ entry stands_in s k few b
    ∙ rw (le-leb (first_band s) k from, lt-ltb k (first_band (s + 1)) to))

-- the subbands begin one behind the other, and none behind the last band
firsts : list_all (λ s. leb (first_band s) (first_band (s + 1)) && leb (first_band (s + 1)) 65) (tab 6 (λ s. s)) ≡ true
unfolding tab first_band subband_begin
firsts = refl

module _ (s : ℕ) (few : s < 6) where
  in_order : (leb (first_band s) (first_band (s + 1)) ≡ true) × (leb (first_band (s + 1)) 65 ≡ true)
  in_order =
      let test : ℕ → Bool = λ j. leb (first_band j) (first_band (j + 1)) && leb (first_band (j + 1)) 65 in
      let at = list_all-at test (tab 6 (λ j. j)) 0 s firsts (omega (arith, length-tab 6 (λ (j : ℕ). j))) in
      let here : test s ≡ true = rw (get_or-tab 6 (λ j. j) s 0 few) at at in
      (and_left (leb (first_band s) (first_band (s + 1))) _ here, and_right (leb (first_band s) (first_band (s + 1))) _ here)

  pub first-rises : first_band s ≤ first_band (s + 1)
  first-rises = leb-true _ _ in_order.0

  pub first-within : first_band (s + 1) ≤ 65
  first-within = leb-true _ _ in_order.1

-- ---- the factors of the bands

-- what the loop over the subbands knows at s: the bands of the subbands before it have their factors
pub record Chosen (factors : List Float) (active : List ℕ) (r : List Float) (s : ℕ) : Type 0 where
  pub to : s ≤ 6
  pub long : length r ≡ 65
  pub done : (k : ℕ) → k < first_band s → get_or r k nan ≡ factor_of factors active k

pub chosen_none : (factors : List Float) (active : List ℕ) (r : List Float) → length r ≡ 65 → Chosen factors active r 0
unfolding first_band
chosen_none factors active r long = record { to = omega arith; long = long; done = λ k h. absurd (omega arith) }

pub chosen_more :
    {factors : List Float} {active : List ℕ} {made : ℕ → Float → Float → Type 0} {r t : List Float} {s : ℕ}
    → Chosen factors active r s → s < 6 → length t ≡ 65 → Changed made (first_band s) (first_band (s + 1)) r t
    → ((k : ℕ) (x y : Float) → made k x y → y ≡ entry_of factors (get_or active k 0) s)
    → Chosen factors active t (s + 1)
unfolding factor_of
chosen_more {factors} {active} {made} {r} {t} {s} c few long changed told =
    record {
      to = omega arith;
      long = long;
      done = λ k h. at k h (leb (first_band s) k) refl;
    }
  where
    inside : (k : ℕ) → k < first_band (s + 1) → k < 65
    inside k h = omega (arith, first-within s few)

    at :
        (k : ℕ) → k < first_band (s + 1) → (q : Bool) → leb (first_band s) k ≡ q → get_or t k nan ≡ factor_of factors active k
    at k h true p =
        let from : first_band s ≤ k = leb-true (first_band s) k p in
        told k (get_or r k nan) (get_or t k nan) (changed.within k nan from h)
        ∙ rw (maps-to s k few (inside k h) from h) refl
    at k h false p =
        let before : k < first_band s = leb-false (first_band s) k p in
        changed.below k nan before ∙ c.done k before

pub chosen-all : {factors : List Float} {active : List ℕ} {r : List Float} {s : ℕ} → Chosen factors active r s → 6 ≤ s → r ≡ factors_of factors active
unfolding factors_of first_band subband_begin
chosen-all {factors} {active} {r} {s} c over =
    let six : s ≡ 6 = omega (arith, c.to) in
    tab-is 65 nan (λ k. factor_of factors active k) r c.long (λ k b. c.done k (rw six b))

-- ---- the last band

-- after the last band is copied
pub last-copied : (s : List Float) → set s 64 (get_or s 63 nan) ≡ last_copied s
unfolding last_copied
last-copied s =
    tab-is (length s) nan (λ j. get_or s (own_or_63 j) nan) (set s 64 (get_or s 63 nan)) (length-set s 64 (get_or s 63 nan))
    (λ k b. at k b (eqb k 64) refl)
  where
    at : (k : ℕ) → k < length s → (q : Bool) → eqb k 64 ≡ q → get_or (set s 64 (get_or s 63 nan)) k nan ≡ get_or s (cond q 63 k) nan
    at k b true p =
        let last : k ≡ 64 = eqb-true k 64 p in
        rw last (get_or-set_same s 64 (get_or s 63 nan) nan (omega arith))
    at k b false p = get_or-set_other s 64 k (get_or s 63 nan) nan (λ e. omega (arith, eqb-false k 64 p))

-- the band whose figure a band shows is one
pub own-inside : (j : ℕ) → j < 65 → own_or_63 j < 65
own-inside j b = cond_has (λ n. n < 65) (eqb j 64) (λ e. omega arith) (λ e. b)

-- and has the same maximum
pub own-max : (max_l max_h : Float) (j : ℕ) → max_erle max_l max_h (own_or_63 j) ≡ max_erle max_l max_h j
unfolding max_erle
own-max max_l max_h j = ap (λ (t : Bool). cond t max_l max_h) (go (eqb j 64) refl)
  where
    go : (last : Bool) → eqb j 64 ≡ last → ltb (cond last 63 j) 32 ≡ ltb j 32
    go true e = sym (le-ltb j 32 (omega (arith, eqb-true j 64 e)))
    go false e = refl

-- an average corrected band by band, and then the last band copied
pub corrected-is :
    (min max_l max_h : Float) (factors : List Float) (active : List ℕ) (average : List Float)
    → last_copied (corrected_by min max_l max_h (factors_of factors active) average) ≡ corrected min max_l max_h factors active average
unfolding last_copied corrected_by factors_of corrected
corrected-is min max_l max_h factors active average =
    rw (length-tab 65 (λ k. corrected_band min max_l max_h k (get_or average k nan) (get_or (tab 65 (λ k. factor_of factors active k)) k nan)))
    (tab-same 65 nan _ _
    (λ j b.
    let inside : own_or_63 j < 65 = own-inside j b in
    rw (get_or-tab 65 _ (own_or_63 j) nan inside, get_or-tab 65 _ (own_or_63 j) nan inside)))
