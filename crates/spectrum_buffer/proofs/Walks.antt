-- Laws of ring places for those who walk the ring.
use mathlib.Core.Path.{◌≡◌, refl, sym, ap, ◌∙◌}
use mathlib.Core.Bool.{Bool, true, false, cond}
use Prim.Native.Nat.{ℕ, ◌+◌, ◌%◌, ◌<◌}
use native.Mathlib.Nat.{mod-eq_of_lt, mod_self}
use native.Mathlib.Omega.{arith}
use borrow.Author.Tests.{le-ltb, ltb-true, ltb-false}
use lib.Dec.{ltb}
use lib.IntN.{pos}
use Rattle.spectrum_buffer.specs.Ring.{next_place, offset_place}

-- a number of places on: the sum's remainder
pub places-on : (size index k : ℕ) → offset_place size index (pos k) ≡ (index + k) % size
unfolding offset_place
places-on size index k = simp (le-ltb ((index + k) % size) 0 (omega arith))

-- one place on, too
pub place-on : (size index : ℕ) → index < size → next_place size index ≡ (index + 1) % size
unfolding next_place
place-on size index h = go (ltb (index + 1) size) refl
  where
    go : (t : Bool) → ltb (index + 1) size ≡ t → cond t (index + 1) 0 ≡ (index + 1) % size
    go true e = sym (mod-eq_of_lt (ltb-true (index + 1) size e))
    go false e =
        let last : index + 1 ≡ size = omega (arith, ltb-false (index + 1) size e) in
        sym (ap (λ (n : ℕ). n % size) last ∙ mod_self size)
