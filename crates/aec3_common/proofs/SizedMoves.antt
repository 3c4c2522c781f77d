-- A number of bounded size, with either sign, keeps its bound when it moves towards another by a share of at most a quarter of the
-- difference.
use Rattle.std.proofs.Common.{◌≡◌, ℕ, suc, ◌+◌, ◌-◌, ◌*◌, ◌^◌, ◌≤◌, Bool, true, false, not, ◌&&◌, ltb, ℤ, sym, refl, le_trans, le_of_eq, le_refl, lt_of_le_of_lt, suc-le-suc, add-le-add, mul-le-mul_right, mul-le-mul_left, mul_assoc, mul_comm, mul_left_comm, one-mul, mul-one, le_of_mul-le-mul_right, arith, pow_pos, pow_mono, ltb-false}
use mathlib.Core.Bool.{beq, false≢true}
use native.Mathlib.Nat.{two-pow-succ}
use lib.Ieee.{Float, fin, binary32, up, down, round, sum, add, mul}
use lib.Ieee.Fits.{down_pos}
use lib.Ieee.Scale.{grid}
use Rattle.aec3_common.specs.Binary32.{moved}
use Rattle.aec3_common.proofs.Choices.{cond_has}
use Rattle.aec3_common.proofs.Grid.{Held, held-power, grid-at-most, Multiple, multiple, Sized, sized, round-multiple, add-multiples, sub-multiples}
use Rattle.aec3_common.proofs.Moving.{SizeAtMost, at_most, share-small-signed}
use Rattle.aec3_common.proofs.Sizes.{SignedUpTo, sum-sized, product-of}

-- a number of so many units, in size at most w / 2^149, has at most w
units-at-most : {s t : Bool} {q w : ℕ} {x : Float} → Multiple 149 s q x → SizeAtMost t w (2 ^ 149) x → q ≤ w
units-at-most {q = q} {w = w} (multiple m e h) (at_most n d l) = le_of_mul-le-mul_right (le_trans (le_of_eq (sym h)) l) (down_pos e)

clash : (s t : Bool) → beq s t ≡ true → beq t (not s) ≡ true → ⊥
clash true true p q = false≢true q
clash true false p q = false≢true p
clash false true p q = false≢true p
clash false false p q = false≢true q

unlike-itself : (s : Bool) → beq s (not s) ≡ true → ⊥
unlike-itself true p = false≢true p
unlike-itself false p = false≢true p

module _ (k : ℕ) (g : ℤ) (quarter : 4 * (k * up g) ≤ down g) (j : ℕ) (small : j ≤ 248) where
  abbrev b : ℕ
  b = 2 ^ j

  abbrev share : Float
  share = fin false k g

  room : Held b
  room = held-power j (omega arith)

  double : b + b ≡ 2 ^ suc j
  double = sym (two-pow-succ j)

  -- the share of w units, rounded to change
  module _ (t : Bool) (w : ℕ) (few : w ≤ b + b) where
    abbrev change : Float
    change = round binary32 t w (2 ^ 149)

    more-room : Held (2 ^ suc j)
    more-room = held-power (suc j) (omega arith)

    units : grid binary32 w (2 ^ 149) ≤ 2 ^ suc j
    units = grid-at-most w (2 ^ 149) (2 ^ suc j) (pow_pos 149) (mul-le-mul_right (2 ^ 149) (le_trans few (le_of_eq double))) more-room

    part : SignedUpTo b t (mul binary32 share change)
    part =
        let bound : grid binary32 w (2 ^ 149) ≤ 4 * b = omega (arith, units, double) in
        product-of k g b room (round-multiple t w (2 ^ 149) (lt_of_le_of_lt units more-room.under))
        (le_trans (mul-le-mul_left (k * up g) bound)
        (le_trans (le_of_eq (simp (mul_assoc, mul_comm, mul_left_comm))) (mul-le-mul_left b quarter)))

    part-few : part.size ≤ w
    part-few =
        units-at-most part.is
        (share-small-signed t k g w (2 ^ 149) quarter (pow_pos 149)
        (λ some. le_trans (le_of_eq (sym (one-mul (2 ^ 149)))) (mul-le-mul_right (2 ^ 149) some))
        (le_trans few (le_trans (le_of_eq double) (pow_mono (suc-le-suc small)))))

    -- is added to an old number of q units: where they have one sign, q and w are to be at most b together
    added :
        (s : Bool) (q : ℕ) {old : Float} → q ≤ b → Multiple 149 s q old → (beq s t ≡ true → q + w ≤ b)
        → Sized 149 b (add binary32 old (mul binary32 share change))
    added s q least x together =
        rw (add-multiples 149 x part.is)
        (sum-sized 149 0 b refl (rw mul-one room) s t q part.size least part.most
        (λ e. le_trans (add-le-add (le_refl q) part-few) (together e)))

  -- Numbers of at most 2^j units: one that moves towards another stays so.
  pub moved-sized : {old new : Float} → Sized 149 b old → Sized 149 b new → Sized 149 b (moved old new share)
  unfolding moved sum
  moved-sized {old} {new} (sized s q few x) (sized t r less y) =
      let P : Float → Type 0 = λ z. Sized 149 b (add binary32 old (mul binary32 share z)) in
      rw (sub-multiples 149 y x)
      (cond_has P (beq t (not s))
      (λ e. added t (r + q) (add-le-add less few) s q few x (λ f. absurd (clash s t f e)))
      (λ e.
      cond_has P (ltb r q)
      (λ h. added (not s) (q - r) (omega arith) s q few x (λ f. absurd (unlike-itself s f)))
      (λ h. let more = ltb-false r q h in added (t && ltb q r) (r - q) (omega arith) s q few x (λ f. omega arith))))
