-- Laws of section sizes and boundaries.
use mathlib.Core.Path.{◌≡◌, refl, sym, ap, ◌∙◌}
use mathlib.Core.Bool.{Bool, true, false, cond}
use mathlib.Core.List.{List, [], ◌∷◌}
use Prim.Native.Nat.{ℕ, zero, suc, ◌+◌, ◌-◌, ◌*◌, ◌/◌, ◌%◌, ◌≤◌, ◌<◌}
use native.Mathlib.Nat.{le_of_suc-le-suc, not-suc-le-zero, div-add-mod', le-mul_of_pos_right, lt_of_le_of_lt}
use native.Mathlib.Omega.{arith}
use borrow.Author.Tests.{ltb-true, ltb-false}
use lib.Dec.{ltb, eqb}
use lib.ListN.{length, get_or, take, get_or-eq_default}
use lib.Seq.{ext_get_or, get_or-take, length-take-le}
use Rattle.aec3_common.proofs.Choices.{and_left, and_right}
use Rattle.aec3_common.proofs.Tables.{length-tab, get_or-tab, tab-is}
use Rattle.filter_sections.specs.Sections.{evenly, takes, doubling, running_sums, padded}

-- ---- tables with zeros behind a list

-- a table that has a list's entries, and zeros behind them
pub padded-is :
    (places : ℕ) (xs r : List ℕ)
    → length r ≡ places
    → ((j : ℕ) → j < length xs → get_or r j 0 ≡ get_or xs j 0)
    → ((j : ℕ) → length xs ≤ j → get_or r j 0 ≡ 0)
    → r ≡ padded places xs
padded-is places xs r long within behind = tab-is places 0 (λ k. get_or xs k 0) r long (λ j h. go j (ltb j (length xs)) refl)
  where
    go : (j : ℕ) (t : Bool) → ltb j (length xs) ≡ t → get_or r j 0 ≡ get_or xs j 0
    go j true e = within j (ltb-true j (length xs) e)
    go j false e = behind j (ltb-false j (length xs) e) ∙ sym (get_or-eq_default xs 0 (ltb-false j (length xs) e))

-- and the other way: its entries are the list's
pub padded-at : (places : ℕ) (xs : List ℕ) (j : ℕ) → length xs ≤ places → get_or (padded places xs) j 0 ≡ get_or xs j 0
padded-at places xs j fits = go (ltb j places) refl
  where
    go : (t : Bool) → ltb j places ≡ t → get_or (padded places xs) j 0 ≡ get_or xs j 0
    go true e = get_or-tab places (λ k. get_or xs k 0) j 0 (ltb-true j places e)
    go false e =
        let far : places ≤ j = ltb-false j places e in
        get_or-eq_default (padded places xs) 0 {n = j} (rw length-tab far)
        ∙ sym (get_or-eq_default xs 0 (omega arith))

pub take-padded : (places n : ℕ) (xs : List ℕ) → length xs ≡ n → n ≤ places → take n (padded places xs) ≡ xs
take-padded places n xs long fits =
    let taken : length (take n (padded places xs)) ≡ n = length-take-le n (padded places xs) (rw length-tab fits) in
    ext_get_or 0 (take n (padded places xs)) xs (taken ∙ sym long)
    (λ j h. get_or-take n (padded places xs) j 0 (rw taken at h) ∙ padded-at places xs j (rw long fits))

-- ---- what a section that takes its size knows

module _ (size n blocks : ℕ) (ok : takes size n blocks ≡ true) where
  pub takes-many : 1 < n
  takes-many = ltb-true 1 n (and_left (ltb 1 n) (ltb (size * n) blocks) ok)

  takes-room : size * n < blocks
  takes-room = ltb-true (size * n) blocks (and_right (ltb 1 n) (ltb (size * n) blocks) ok)

  pub takes-below : size < blocks
  takes-below = lt_of_le_of_lt (le-mul_of_pos_right size (omega (arith, takes-many))) takes-room

-- a section takes its size, and doubling goes on
pub doubling-goes-on :
    (size n blocks : ℕ) → takes size n blocks ≡ true → doubling size n blocks ≡ size ∷ doubling (size * 2) (n - 1) (blocks - size)
unfolding doubling
doubling-goes-on size zero blocks ok = absurd (omega (arith, takes-many size zero blocks ok))
doubling-goes-on size (suc n) blocks ok =
    let fewer : n ≡ suc n - 1 = omega arith in
    simp ok (ap (λ (m : ℕ). size ∷ doubling (size * 2) m (blocks - size)) fewer)

-- or it does not, and the sections left share evenly
pub doubling-ends : (size n blocks : ℕ) → 0 < n → takes size n blocks ≡ false → doubling size n blocks ≡ evenly n blocks
unfolding doubling
doubling-ends size zero blocks some left = absurd (omega arith)
doubling-ends size (suc n) blocks some left = simp left

-- ---- as many sizes as sections

length-evenly : (n blocks : ℕ) → length (evenly n blocks) ≡ n
unfolding evenly
length-evenly n blocks = length-tab n _

either : (t : Bool) (n : ℕ) (a b : List ℕ) → length a ≡ n → length b ≡ n → length (cond t a b) ≡ n
either true n a b h k = h
either false n a b h k = k

pub length-doubling : (size n blocks : ℕ) → length (doubling size n blocks) ≡ n
unfolding doubling
length-doubling size zero blocks = refl
length-doubling size (suc n) blocks =
    either (takes size (suc n) blocks) (suc n)
    (size ∷ doubling (size * 2) n (blocks - size))
    (evenly (suc n) blocks)
    (ap suc (length-doubling (size * 2) n (blocks - size)))
    (length-evenly (suc n) blocks)

-- the k-th even share
pub evenly-at :
    (n blocks k : ℕ) → k < n → get_or (evenly n blocks) k 0 ≡ blocks / n + cond (eqb (suc k) n) (blocks % n) 0
unfolding evenly
evenly-at n blocks k h = get_or-tab n _ k 0 h

-- ---- no size above the blocks

even-share-below : (n blocks : ℕ) (t : Bool) → 0 < n → blocks / n + cond t (blocks % n) 0 ≤ blocks
even-share-below n blocks true some =
    omega (arith, div-add-mod' blocks n, le-mul_of_pos_right (blocks / n) some)
even-share-below n blocks false some =
    omega (arith, div-add-mod' blocks n, le-mul_of_pos_right (blocks / n) some)

evenly-below : (n blocks k : ℕ) → get_or (evenly n blocks) k 0 ≤ blocks
evenly-below n blocks k = go (ltb k n) refl
  where
    go : (t : Bool) → ltb k n ≡ t → get_or (evenly n blocks) k 0 ≤ blocks
    go true e =
        let h : k < n = ltb-true k n e in
        rw (evenly-at n blocks k h) (even-share-below n blocks (eqb (suc k) n) (omega arith))
    go false e =
        rw (get_or-eq_default (evenly n blocks) 0 {n = k} (rw length-evenly (ltb-false k n e))) (omega arith)

below-either :
    (size n blocks : ℕ) (t : Bool) (xs : List ℕ) → takes size (suc n) blocks ≡ t
    → ((k : ℕ) → get_or xs k 0 ≤ blocks - size)
    → (k : ℕ) → get_or (cond t (size ∷ xs) (evenly (suc n) blocks)) k 0 ≤ blocks
below-either size n blocks true xs e tail zero = omega (arith, takes-below size (suc n) blocks e)
below-either size n blocks true xs e tail (suc k) = omega (arith, tail k)
below-either size n blocks false xs e tail k = evenly-below (suc n) blocks k

pub doubling-below : (size n blocks k : ℕ) → get_or (doubling size n blocks) k 0 ≤ blocks
unfolding doubling
doubling-below size zero blocks k = omega arith
doubling-below size (suc n) blocks k =
    below-either size n blocks (takes size (suc n) blocks) (doubling (size * 2) n (blocks - size)) refl
    (doubling-below (size * 2) n (blocks - size)) k

-- ---- running sums

pub length-sums : (from : ℕ) (xs : List ℕ) → length (running_sums from xs) ≡ suc (length xs)
unfolding running_sums
length-sums from [] = refl
length-sums from (x ∷ xs) = ap suc (length-sums (from + x) xs)

pub sums_first : (from : ℕ) (xs : List ℕ) → get_or (running_sums from xs) 0 0 ≡ from
unfolding running_sums
sums_first from [] = refl
sums_first from (x ∷ xs) = refl

pub sums_next :
    (from : ℕ) (xs : List ℕ) (k : ℕ)
    → k < length xs → get_or (running_sums from xs) (suc k) 0 ≡ get_or (running_sums from xs) k 0 + get_or xs k 0
unfolding running_sums
sums_next from [] k h = absurd (not-suc-le-zero h)
sums_next from (x ∷ xs) zero h = sums_first (from + x) xs
sums_next from (x ∷ xs) (suc k) h = sums_next (from + x) xs k (le_of_suc-le-suc h)
