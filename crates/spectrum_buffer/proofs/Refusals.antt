-- What the ring's refusals tell.
use mathlib.Core.Path.{◌≡◌, refl}
use mathlib.Core.Bool.{Bool, true, false}
use Prim.Native.Nat.{ℕ, ◌≤◌, ◌<◌}
use native.Mathlib.Omega.{arith}
use lib.IntN.{ℤ, nat_abs}
use borrow.Author.Tests.{ltb-true, leb-true}
use Rattle.aec3_common.specs.Refusal.{unless, accepted, bad_ring, bad_place, bad_offset}
use Rattle.aec3_common.proofs.Choices.{passed}
use Rattle.aec3_common.proofs.Ranges.{to-hi}
use Rattle.spectrum_buffer.specs.Ring.{max_slots, slots_ok, place_ok, offset_ok, next_refusal, offset_refusal}

module _ (size index : ℕ) (ok : next_refusal size index ≡ accepted) where
  slots-passed : slots_ok size ≡ true
  unfolding next_refusal
  slots-passed = passed (slots_ok size) 3 (unless (place_ok size index) bad_place accepted) ok

  pub few-slots : size ≤ max_slots
  few-slots = to-hi 1 max_slots size slots-passed

  pub place-below : index < size
  unfolding next_refusal
  place-below = ltb-true index size (passed (place_ok size index) 8 accepted (rw slots-passed at ok))

three-passed : (a b c : Bool) → unless a bad_ring (unless b bad_place (unless c bad_offset accepted)) ≡ accepted → (unless a bad_ring (unless b bad_place accepted) ≡ accepted) × (c ≡ true)
three-passed true true true e = (refl, refl)
three-passed true true false e = absurd (omega arith)
three-passed true false c e = absurd (omega arith)
three-passed false b c e = absurd (omega arith)

module _ (size index : ℕ) (offset : ℤ) (ok : offset_refusal size index offset ≡ accepted) where
  both-passed : (next_refusal size index ≡ accepted) × (offset_ok size offset ≡ true)
  unfolding offset_refusal next_refusal
  both-passed = three-passed (slots_ok size) (place_ok size index) (offset_ok size offset) ok

  pub next-passed : next_refusal size index ≡ accepted
  next-passed = both-passed.0

  pub short-offset : nat_abs offset ≤ size
  short-offset = leb-true (nat_abs offset) size both-passed.1
