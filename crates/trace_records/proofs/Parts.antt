-- The front of a list as two lists, one behind the other.
use mathlib.Core.Path.{◌≡◌, sym, ap, ◌∙◌}
use mathlib.Core.List.{List, ◌++◌}
use Prim.Native.Nat.{ℕ, ◌+◌}
use native.Mathlib.Omega.{arith}
use lib.ListN.{length, take, drop}
use lib.Seq.{take-add, take-take, take-append_seam, drop-append_seam}
use Rattle.std.proofs.lemmas.List.{drop-take}

module _ {A : Type 0} (m k : ℕ) (l xs ys : List A) where
  -- they are the front together
  pub two-together : take m l ≡ xs → take k (drop m l) ≡ ys → take (m + k) l ≡ xs ++ ys
  two-together first second = take-add m k l ∙ (λ i. first i ++ second i)

  -- and each is a part of it
  module _ (front : take (m + k) l ≡ xs ++ ys) (long : length xs ≡ m) where
    pub first-of-two : take m l ≡ xs
    first-of-two = sym (take-take m (m + k) l (omega arith)) ∙ ap (take m) front ∙ rw (← long) (take-append_seam xs ys)

    pub second-of-two : take k (drop m l) ≡ ys
    second-of-two = sym (drop-take m k l) ∙ ap (drop m) front ∙ rw (← long) (drop-append_seam xs ys)
