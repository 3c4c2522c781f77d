-- Past the end of a list of bytes every number is 0.
use mathlib.Core.Path.{◌≡◌, refl, sym, ap, ◌∙◌}
use mathlib.Core.Bool.{Bool, true, false}
use mathlib.Core.List.{List}
use Prim.Native.Nat.{ℕ, ◌+◌, ◌≤◌, min}
use native.Mathlib.Omega.{arith}
use lib.Dec.{leb}
use lib.ListN.{length, get_or-eq_default}
use borrow.Author.Tests.{leb-true, leb-false}
use Rattle.encoding.specs.Bytes.{byte_at, half_at}

pub byte_past : (s : List ℕ) (i : ℕ) → length s ≤ i → byte_at s i ≡ 0
byte_past s i h = get_or-eq_default s 0 h

pub half-past : (s : List ℕ) (i : ℕ) → length s ≤ i → half_at s i ≡ 0
unfolding half_at
half-past s i h = omega (arith, byte_past s i h, byte_past s (i + 1) (omega arith))

-- At the greatest place that there is, in place of a place beyond it, stands what stands there: nothing.
beyond : (f : ℕ → ℕ) (n i m j : ℕ) → ((k : ℕ) → n ≤ k → f k ≡ 0) → n ≤ m → j ≡ min i m → f j ≡ f i
beyond f n i m j past h e = go (leb i m) refl
  where
    go : (t : Bool) → leb i m ≡ t → f j ≡ f i
    go true l = ap f (omega (arith, leb-true i m l))
    go false l = past j (omega (arith, leb-false i m l)) ∙ sym (past i (omega (arith, leb-false i m l)))

pub byte-beyond : (s : List ℕ) (i m j : ℕ) → length s ≤ m → j ≡ min i m → byte_at s j ≡ byte_at s i
byte-beyond s i m j h e = beyond (byte_at s) (length s) i m j (byte_past s) h e

pub half-beyond : (s : List ℕ) (i m j : ℕ) → length s ≤ m → j ≡ min i m → half_at s j ≡ half_at s i
half-beyond s i m j h e = beyond (half_at s) (length s) i m j (half-past s) h e
