-- A test of every entry of a list, and the loop that makes it.
use Rattle.std.proofs.Common.{◌≡◌, ℕ, zero, suc, ◌+◌, ◌*◌, ◌<◌, ◌≤◌, Bool, true, ◌&&◌, List, [], ◌∷◌, ◌++◌, length, get_or, take, drop, sym, refl, ap, ◌∙◌, le_of_suc-le-suc, not-suc-le-zero, add-one, arith, length-take, take_all, get_or-take, le_refl, suc-mul, zero-mul}
use Rattle.std.proofs.lemmas.List.{take-take, take-append-drop, drop-drop}
use Rattle.std.specs.Simd.{first_chunks}
use Rattle.std.specs.List.{list_all}
use Rattle.aec3_common.proofs.Choices.{and_left, and_right, and-true, and_assoc}

-- where every entry passes, each does
pub list_all-at :
    {A : Type 0} (p : A → Bool) (xs : List A) (d : A) (k : ℕ)
    → list_all p xs ≡ true → k < length xs → p (get_or xs k d) ≡ true
list_all-at p [] d k e h = absurd (not-suc-le-zero h)
list_all-at p (x ∷ xs) d zero e h = and_left (p x) (list_all p xs) e
list_all-at p (x ∷ xs) d (suc k) e h = list_all-at p xs d k (and_right (p x) (list_all p xs) e) (le_of_suc-le-suc h)

-- where each entry passes, every one does
pub list_all-by : {A : Type 0} (p : A → Bool) (xs : List A) (d : A) → ((k : ℕ) → k < length xs → p (get_or xs k d) ≡ true) → list_all p xs ≡ true
list_all-by p [] d each = refl
list_all-by p (x ∷ xs) d each = rw (each 0 (omega arith)) (list_all-by p xs d (λ k h. each (suc k) (omega arith)))

-- and then every one of a part does
pub list_all_take : {A : Type 0} (p : A → Bool) (n : ℕ) (xs : List A) → list_all p xs ≡ true → list_all p (take n xs) ≡ true
list_all_take p zero xs e = refl
list_all_take p (suc n) [] e = refl
list_all_take p (suc n) (x ∷ xs) e = rw (and_left (p x) (list_all p xs) e) (list_all_take p n xs (and_right (p x) (list_all p xs) e))

pub list_all_drop : {A : Type 0} (p : A → Bool) (n : ℕ) (xs : List A) → list_all p xs ≡ true → list_all p (drop n xs) ≡ true
list_all_drop p zero xs e = e
list_all_drop p (suc n) [] e = e
list_all_drop p (suc n) (x ∷ xs) e = list_all_drop p n xs (and_right (p x) (list_all p xs) e)

-- where each of the first n entries passes, every one of them does
pub list_all_first :
    {A : Type 0} (p : A → Bool) (n : ℕ) (xs : List A) (d : A)
    → ((k : ℕ) → k < n → p (get_or xs k d) ≡ true) → list_all p (take n xs) ≡ true
list_all_first p n xs d each =
    list_all-by p (take n xs) d
    (λ k h. let below : k < n = omega (arith, length-take n xs) in rw (get_or-take n xs k d below) (each k below))

-- one entry more
list_all_more :
    {A : Type 0} (p : A → Bool) (xs : List A) (k : ℕ) (d : A)
    → k < length xs → list_all p (take k xs) && p (get_or xs k d) ≡ list_all p (take (suc k) xs)
list_all_more p [] k d h = absurd (not-suc-le-zero h)
list_all_more p (x ∷ xs) zero d h = sym (and-true (p x))
list_all_more p (x ∷ xs) (suc k) d h =
    and_assoc (p x) (list_all p (take k xs)) (p (get_or xs k d))
    ∙ ap (λ (b : Bool). p x && b) (list_all_more p xs k d (le_of_suc-le-suc h))

pub list_all-append : {A : Type 0} (p : A → Bool) (xs ys : List A) → list_all p (xs ++ ys) ≡ list_all p xs && list_all p ys
list_all-append p [] ys = refl
list_all-append p (x ∷ xs) ys = ap (λ (b : Bool). p x && b) (list_all-append p xs ys) ∙ sym (and_assoc (p x) (list_all p xs) (list_all p ys))

-- what a loop with no early end knows at k: ok says whether every entry below k passes
pub record Tested {A : Type 0} (p : A → Bool) (xs : List A) (k : ℕ) (ok : Bool) : Type 0 where
  pub to : k ≤ length xs
  pub told : ok ≡ list_all p (take k xs)

pub tested-none : {A : Type 0} (p : A → Bool) (xs : List A) → Tested p xs 0 true
tested-none p xs = record { to = omega arith; told = refl }

pub tested-more :
    {A : Type 0} {p : A → Bool} {xs : List A} {k : ℕ} {ok b : Bool} (d : A)
    → Tested p xs k ok → k < length xs → b ≡ p (get_or xs k d) → Tested p xs (k + 1) (ok && b)
tested-more {p = p} {xs = xs} {k = k} d s h e =
    record { to = omega arith; told = rw (s.told, e, add-one) (list_all_more p xs k d h) }

pub tested-all :
    {A : Type 0} {p : A → Bool} {xs : List A} {k : ℕ} {ok : Bool}
    → Tested p xs k ok → length xs ≤ k → ok ≡ list_all p xs
tested-all {p = p} {xs = xs} {k = k} s h = s.told ∙ ap (list_all p) (take_all k xs h)

-- a list in chunks of n, each tested by its first n, and what is left behind k of them
pub list_all-chunks :
    {A : Type 0} (p : A → Bool) (n k : ℕ) (xs : List A)
    → list_all (λ chunk. list_all p (take n chunk)) (first_chunks n k xs) && list_all p (drop (k * n) xs) ≡ list_all p xs
list_all-chunks p n zero xs = rw zero-mul refl
list_all-chunks p n (suc k) xs =
    let rest : n + k * n ≡ suc k * n = rw suc-mul (omega arith) in
    rw (take-take n n xs (le_refl n), ← rest, ← drop-drop (k * n) n xs)
    (and_assoc (list_all p (take n xs)) _ _
    ∙ ap (λ (b : Bool). list_all p (take n xs) && b) (list_all-chunks p n k (drop n xs))
    ∙ sym (list_all-append p (take n xs) (drop n xs))
    ∙ ap (list_all p) (take-append-drop n xs))
