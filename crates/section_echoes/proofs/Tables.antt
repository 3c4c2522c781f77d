-- Parts of lists, and lists whose end was written anew.
use mathlib.Core.Path.{◌≡◌, refl, ap, ◌∙◌}
use mathlib.Core.List.{List, [], ◌++◌}
use Prim.Native.Nat.{ℕ, zero, suc, ◌+◌, ◌-◌, ◌*◌, ◌≤◌, ◌<◌, min}
use native.Mathlib.Nat.{le_of_suc-le-suc, not-suc-le-zero, suc-mul, zero-mul}
use native.Mathlib.Omega.{arith}
use lib.ListN.{length, length-drop, get_or, take, drop}
use borrow.Rule.Slice.PartMut.{mid_of, put_mid}
use Rattle.std.proofs.Common.{rules, length-append}
use Rattle.std.proofs.lemmas.List.{places, length-take-le, get_or-take, get_or-drop, drop-drop}
use Rattle.std.specs.Simd.{first_chunks}

-- the entries from one to below another, or none
module _ {A : Type 0} (from to : ℕ) (xs : List A) {least : ℕ} (is : least ≡ min from to) (within : to ≤ length xs) where
  pub part-long : length (mid_of least (to - least) xs) ≡ to - from
  part-long = omega (arith, length-take-le (to - least) (drop least xs) (omega (arith, length-drop least xs)))

  -- where the part has an entry, it is the list's at as many from the first
  pub part-below : (n : ℕ) → n < length (mid_of least (to - least) xs) → from + n < to
  part-below n h = omega (arith, part-long)

  pub part_at : (n : ℕ) (d : A) → n < length (mid_of least (to - least) xs) → get_or (mid_of least (to - least) xs) n d ≡ get_or xs (from + n) d
  part_at n d h =
      let below : from + n < to = part-below n h in
      let here : least + n ≡ from + n = omega arith in
      get_or-take (to - least) (drop least xs) n d (omega arith) ∙ get_or-drop least xs n d ∙ ap (λ (k : ℕ). get_or xs k d) here

-- a list in chunks of n: the j-th of k
pub chunk_at : {A : Type 0} (n k : ℕ) (xs : List A) (j : ℕ) → j < k → get_or (first_chunks n k xs) j [] ≡ take n (drop (j * n) xs)
chunk_at n zero xs j h = absurd (not-suc-le-zero h)
chunk_at n (suc k) xs zero h = rw zero-mul refl
chunk_at n (suc k) xs (suc j) h =
    let rest : n + j * n ≡ suc j * n = rw suc-mul (omega arith) in
    chunk_at n k (drop n xs) j (le_of_suc-le-suc h) ∙ ap (take n) (drop-drop (j * n) n xs ∙ ap (λ (m : ℕ). drop m xs) rest)

pub chunks-long : {A : Type 0} (n k : ℕ) (xs : List A) → length (first_chunks n k xs) ≡ k
chunks-long n zero xs = refl
chunks-long n (suc k) xs = ap suc (chunks-long n k (drop n xs))

-- ---- a list whose end was written anew

module _ {A : Type 0} (a n : ℕ) (xs ys : List A) (some : a ≤ n) (all : length xs ≡ n) (long : length ys ≡ n - a) where
  pub ended-long : length (put_mid a (n - a) xs ys) ≡ n
  ended-long = omega (arith, length-append (take a xs) (ys ++ drop (n - a) (drop a xs)), length-append ys (drop (n - a) (drop a xs)), length-take-le a xs (omega arith), length-drop (n - a) (drop a xs), length-drop a xs)

  pub ended-below : (j : ℕ) (d : A) → j < a → get_or (put_mid a (n - a) xs ys) j d ≡ get_or xs j d
  ended-below j d h = search (rules, places)

  pub ended_at : (j : ℕ) (d : A) → a ≤ j → j < n → get_or (put_mid a (n - a) xs ys) j d ≡ get_or ys (j - a) d
  ended_at j d h b = search (rules, places)
