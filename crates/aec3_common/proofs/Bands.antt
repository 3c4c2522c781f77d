-- Parts of spectra, and bands that copy others.
use Rattle.std.proofs.Common.{◌≡◌, ℕ, ◌+◌, ◌-◌, ◌*◌, ◌/◌, ◌%◌, ◌^◌, min, ◌<◌, ◌≤◌, Bool, true, false, cond, ◌&&◌, eqb, ltb, leb, List, length, get_or, take, drop, set, sym, refl, ap, ◌∙◌, arith, length-drop, length-set, drop_of_length-le, length-take-le, take_all, get_or-set_other, get_or-set_same, ltb-false, ltb-true, lt-ltb, eq-eqb, eqb-true, leb-false, leb-true}
use borrow.Author.Tests.{eqb-false}
use lib.Ieee.{Float, nan}
use Rattle.std.specs.List.{list_all}
use Rattle.aec3_common.specs.Lists.{tab}
use Rattle.aec3_common.specs.Spectra.{part, inner_band, shown_band, ends_copied}
use Rattle.aec3_common.proofs.Choices.{and_left, and_right, cond_has, cond-by}
use Rattle.aec3_common.proofs.Every.{list_all_take, list_all_drop}
use Rattle.aec3_common.proofs.Tables.{tab-is, tab-same}

-- the part that code lends, from ch * 65 to 65 further on
pub lent-part : (spectra : List Float) (ch : ℕ) → take (ch * 65 + 65 - ch * 65) (drop (ch * 65) spectra) ≡ part spectra ch
unfolding part
lent-part spectra ch =
    let size : ch * 65 + 65 - ch * 65 ≡ 65 = omega arith in
    ap (λ (n : ℕ). take n (drop (ch * 65) spectra)) size

-- the same where both ends go no further than the list
module _ (spectra : List Float) (ch from to : ℕ)
    (begins : from ≡ cond (leb (ch * 65) (length spectra)) (ch * 65) (length spectra))
    (ends : to ≡ cond (ltb (length spectra - from) 65) (length spectra) (from + 65)) where
  pub begin-within : from ≤ length spectra
  begin-within = rw begins (cond_has (λ (k : ℕ). k ≤ length spectra) (leb (ch * 65) (length spectra)) (leb-true _ _) (λ e. omega arith))

  pub end-behind : from ≤ to
  end-behind =
      rw ends
      (cond_has (λ (k : ℕ). from ≤ k) (ltb (length spectra - from) 65) (λ e. begin-within) (λ e. omega arith))

  pub end-within : to ≤ length spectra
  end-within =
      rw ends
      (cond_has (λ (k : ℕ). k ≤ length spectra) (ltb (length spectra - from) 65) (λ e. omega arith)
      (λ e. omega (arith, begin-within, ltb-false (length spectra - from) 65 e)))

  as_long : take (to - from) (drop from spectra) ≡ take 65 (drop from spectra)
  as_long = go (ltb (length spectra - from) 65) refl
    where
      go : (t : Bool) → ltb (length spectra - from) 65 ≡ t → take (to - from) (drop from spectra) ≡ take 65 (drop from spectra)
      go true e =
          let last : to ≡ length spectra = rw e at ends in
          let rest : length (drop from spectra) ≡ length spectra - from = length-drop from spectra in
          take_all (to - from) (drop from spectra) (omega arith)
          ∙ sym (take_all 65 (drop from spectra) (omega (arith, ltb-true (length spectra - from) 65 e)))
      go false e =
          let last : to ≡ from + 65 = rw e at ends in
          let size : to - from ≡ 65 = omega arith in
          ap (λ (k : ℕ). take k (drop from spectra)) size

  pub clamped-part : take (to - from) (drop from spectra) ≡ part spectra ch
  unfolding part
  clamped-part = as_long ∙ go (leb (ch * 65) (length spectra)) refl
    where
      go : (t : Bool) → leb (ch * 65) (length spectra) ≡ t → take 65 (drop from spectra) ≡ take 65 (drop (ch * 65) spectra)
      go true e =
          let first : from ≡ ch * 65 = rw e at begins in
          ap (λ (k : ℕ). take 65 (drop k spectra)) first
      go false e =
          let none : from ≡ length spectra = rw e at begins in
          ap (take 65)
          (drop_of_length-le spectra {i = from} (omega arith)
          ∙ sym (drop_of_length-le spectra {i = ch * 65} (omega (arith, leb-false (ch * 65) (length spectra) e))))

-- and where both are made by sums that stop at the greatest usize, which no list is longer than
pub lent-between :
    (spectra : List Float) (ch from to : ℕ)
    → from ≡ min (min (ch * 65) (2 ^ 64 - 1)) (length spectra) → to ≡ min (min (from + 65) (2 ^ 64 - 1)) (length spectra)
    → length spectra ≤ 2 ^ 64 - 1 → take (to - from) (drop from spectra) ≡ part spectra ch
lent-between spectra ch from to begins ends few =
    clamped-part spectra ch from to
    (cond-by (leb (ch * 65) (length spectra)) from (ch * 65) (length spectra)
    (λ e. omega (arith, leb-true (ch * 65) (length spectra) e)) (λ e. omega (arith, leb-false (ch * 65) (length spectra) e)))
    (cond-by (ltb (length spectra - from) 65) to (length spectra) (from + 65)
    (λ e. omega (arith, ltb-true (length spectra - from) 65 e)) (λ e. omega (arith, ltb-false (length spectra - from) 65 e)))

-- so many numbers are n spectra
pub spectra-counted : (numbers n : ℕ) → (eqb (numbers % 65) 0 && eqb (numbers / 65) n) ≡ eqb numbers (n * 65)
spectra-counted numbers n = go (eqb numbers (n * 65)) refl
  where
    go : (t : Bool) → eqb numbers (n * 65) ≡ t → (eqb (numbers % 65) 0 && eqb (numbers / 65) n) ≡ t
    go true e =
        let all : numbers ≡ n * 65 = eqb-true numbers (n * 65) e in
        simp (eq-eqb (numbers % 65) 0 (omega arith), eq-eqb (numbers / 65) n (omega arith))
    go false e = by-rest (eqb (numbers % 65) 0) refl (eqb (numbers / 65) n) refl
      where
        by-rest : (a : Bool) → eqb (numbers % 65) 0 ≡ a → (b : Bool) → eqb (numbers / 65) n ≡ b → (a && b) ≡ false
        by-rest true p true q =
            absurd (eqb-false numbers (n * 65) e (omega (arith, eqb-true (numbers % 65) 0 p, eqb-true (numbers / 65) n q)))
        by-rest true p false q = refl
        by-rest false p b q = refl

pub part_length : (spectra : List Float) (ch : ℕ) → ch * 65 + 65 ≤ length spectra → length (part spectra ch) ≡ 65
unfolding part
part_length spectra ch h = length-take-le 65 (drop (ch * 65) spectra) (omega (arith, length-drop (ch * 65) spectra))

-- what every value passes, a channel's values do
pub part-list_all : (p : Float → Bool) (spectra : List Float) (ch : ℕ) → list_all p spectra ≡ true → list_all p (part spectra ch) ≡ true
unfolding part
part-list_all p spectra ch ok = list_all_take p 65 (drop (ch * 65) spectra) (list_all_drop p (ch * 65) spectra ok)

-- a band that is shown is an inner band
pub shown-inner : (k : ℕ) → k < 65 → inner_band (shown_band k) ≡ true
shown-inner k h = go (eqb k 0) refl (eqb k 64) refl
  where
    go : (s : Bool) → eqb k 0 ≡ s → (t : Bool) → eqb k 64 ≡ t → inner_band (cond s 1 (cond t 63 k)) ≡ true
    go true e t f = refl
    go false e true f = refl
    go false e false f =
        let some : 0 < k = omega (arith, eqb-false k 0 e) in
        let few : k < 64 = omega (arith, eqb-false k 64 f) in
        simp (lt-ltb 0 k some, lt-ltb k 64 few)

-- an inner band shows its own figures
pub inner-shown : (k : ℕ) → inner_band k ≡ true → shown_band k ≡ k
inner-shown k e = go (eqb k 0) refl (eqb k 64) refl
  where
    go : (a : Bool) → eqb k 0 ≡ a → (z : Bool) → eqb k 64 ≡ z → cond a 1 (cond z 63 k) ≡ k
    go true f z g = absurd (omega (arith, eqb-true k 0 f, ltb-true 0 k (and_left (ltb 0 k) (ltb k 64) e)))
    go false f true g = absurd (omega (arith, eqb-true k 64 g, ltb-true k 64 (and_right (ltb 0 k) (ltb k 64) e)))
    go false f false g = refl

pub shown-below : (k : ℕ) → k < 65 → shown_band k < 65
shown-below k h =
    let few : ltb (shown_band k) 64 ≡ true = and_right (ltb 0 (shown_band k)) (ltb (shown_band k) 64) (shown-inner k h) in
    omega (arith, ltb-true (shown_band k) 64 few)

-- bands 0 and 64 overwritten by 1 and 63
pub ends-stored : (s : List Float) → set (set s 0 (get_or s 1 nan)) 64 (get_or s 63 nan) ≡ ends_copied s
unfolding ends_copied
ends-stored s =
    tab-is (length s) nan (λ k. get_or s (shown_band k) nan) (set first 64 (get_or s 63 nan)) (simp length-set)
    (λ k h. go k h (eqb k 0) refl (eqb k 64) refl)
  where
    first : List Float
    first = set s 0 (get_or s 1 nan)

    go :
        (k : ℕ) → k < length s → (a : Bool) → eqb k 0 ≡ a → (b : Bool) → eqb k 64 ≡ b
        → get_or (set first 64 (get_or s 63 nan)) k nan ≡ get_or s (cond a 1 (cond b 63 k)) nan
    go k h true e b f =
        let zero : k ≡ 0 = eqb-true k 0 e in
        rw zero
        (get_or-set_other first 64 0 (get_or s 63 nan) nan (λ q. omega arith)
        ∙ get_or-set_same s 0 (get_or s 1 nan) nan (omega arith))
    go k h false e true f =
        let last : k ≡ 64 = eqb-true k 64 f in
        rw last (get_or-set_same first 64 (get_or s 63 nan) nan (omega (arith, length-set s 0 (get_or s 1 nan))))
    go k h false e false f =
        get_or-set_other first 64 k (get_or s 63 nan) nan (eqb-false k 64 f)
        ∙ get_or-set_other s 0 k (get_or s 1 nan) nan (eqb-false k 0 e)

-- bands 0 and 64 copy 1 and 63, whatever they were: what bands 1 to 63 hold says what all show
pub ends-are :
    (s : List Float) (f : ℕ → Float) → length s ≡ 65
    → ((k : ℕ) → k < 65 → inner_band k ≡ true → get_or s k nan ≡ f k) → ends_copied s ≡ tab 65 (λ k. f (shown_band k))
unfolding ends_copied
ends-are s f long at = rw long (tab-same 65 nan _ _ (λ k b. at (shown_band k) (shown-below k b) (shown-inner k b)))
