-- The quotient of two numbers that lie between two others.
use Rattle.std.proofs.Common.{negsuc, ap, ◌∙◌, ◌≡◌, ℕ, zero, suc, ◌*◌, ◌^◌, ◌≤◌, ◌<◌, true, false, T, sym, refl, le_trans, le_of_eq, mul_assoc, mul_comm, mul_left_comm, mul-pos, mul-one, one-mul, ltb→lt}
use native.Mathlib.Nat.{mul-le-mul}
use lib.Dec.{eqb-suc-zero}
use lib.Ieee.{of_bits, Float, nan, inf, fin, binary32, round, div, le, fits}
use lib.Ieee.Fits.{up_pos, down_pos, div-fits}
use lib.Ieee.Order.{round_mono}
use lib.Ieee.Positive.{num, den, positive, between, le→cross}
use Rattle.aec3_common.specs.Binary32.{one32, greatest_value}
use Rattle.aec3_common.proofs.Fitting.{Between, rounded-at-least, rounded-at-most}
use Rattle.aec3_common.proofs.Limits.{InOrder, min-positive, max-positive, max-value, between-positive}
use Rattle.aec3_common.proofs.Staying.{size-at-most}

quotient_is :
    (x y : Float) → T (positive x) → T (positive y)
    → (div binary32 x y ≡ round binary32 false (num x * den y) (num y * den x)) × (0 < num y * den x)
unfolding div
quotient_is nan y p q = absurd p
quotient_is (inf s) y p q = absurd p
quotient_is (fin true m e) y p q = absurd p
quotient_is (fin false m e) nan p q = absurd q
quotient_is (fin false m e) (inf t) p q = absurd q
quotient_is (fin false m e) (fin true n d) p q = absurd q
quotient_is (fin false m e) (fin false zero d) p q = absurd q
quotient_is (fin false m e) (fin false (suc n) d) p q =
    (rw (eqb-suc-zero n) refl, mul-pos (mul-pos (ltb→lt 0 (suc n) q) (up_pos d)) (down_pos e))

module _ (x y : Float) (p : T (positive x)) (q : T (positive y)) where
  quotient-at-most :
      (z : Float) → T (positive z) → T (fits binary32 z)
      → num x * den y * den z ≤ num z * (num y * den x) → T (le (div binary32 x y) z)
  quotient-at-most z r t h =
      let (same, some) = quotient_is x y p q in
      rw same (rounded-at-most (num x * den y) (num y * den x) z some r t h)

  quotient-at-least :
      (z : Float) → T (positive z) → T (fits binary32 z)
      → num z * (num y * den x) ≤ num x * den y * den z → T (le z (div binary32 x y))
  quotient-at-least z r t h =
      let (same, some) = quotient_is x y p q in
      rw same (rounded-at-least z (num x * den y) (num y * den x) some r t h)

-- a quotient grows with what is divided, and falls with what divides
quotient_mono :
    (x x' y y' : Float) → T (positive x) → T (positive x') → T (positive y) → T (positive y') → T (le x x') → T (le y' y)
    → T (le (div binary32 x y) (div binary32 x' y'))
quotient_mono x x' y y' p p' q q' h k =
    let (same, some) = quotient_is x y p q in
    let (same', some') = quotient_is x' y' p' q' in
    rw (same, same')
    (round_mono binary32 (num x * den y) (num y * den x) (num x' * den y') (num y' * den x') some some'
    (le_trans (le_of_eq (simp (mul_assoc, mul_comm, mul_left_comm)))
    (le_trans (mul-le-mul (le→cross x x' p p' h) (le→cross y' y q' q k)) (le_of_eq (simp (mul_assoc, mul_comm, mul_left_comm))))))

-- of a minimum and a maximum
module _ (min max : Float) (limits : InOrder min max) where
  wide : num max * den min ≤ 2 ^ 100 * (num min * den max)
  unfolding of_bits
  wide =
      let above : 1 * den min ≤ num min * 1 = le→cross one32 min tt (min-positive limits) limits.from in
      le_trans
      (mul-le-mul (le_trans (le_of_eq (sym (mul-one (num max)))) (size-at-most max (max-positive limits) (max-value limits)))
      (le_trans (le_of_eq (sym (one-mul (den min)))) (le_trans above (le_of_eq (mul-one (num min))))))
      (le_of_eq (mul_assoc (2 ^ 100) (den max) (num min) ∙ ap (λ (z : ℕ). 2 ^ 100 * z) (mul_comm (den max) (num min))))

  cross : num min * den max ≤ num max * den min
  cross = le→cross min max (min-positive limits) (max-positive limits) limits.order

  -- the greatest quotient is at most 2^100
  pub greatest-quotient-value : T (le (div binary32 max min) greatest_value)
  unfolding of_bits fits
  greatest-quotient-value =
      quotient-at-most max min (max-positive limits) (min-positive limits) greatest_value tt tt
      (le_trans (le_of_eq (mul-one (num max * den min))) wide)

  one-at-most : T (le one32 (div binary32 max min))
  unfolding of_bits fits
  one-at-most =
      quotient-at-least max min (max-positive limits) (min-positive limits) one32 tt tt
      (le_trans (le_of_eq (one-mul (num min * den max))) (le_trans cross (le_of_eq (sym (mul-one (num max * den min))))))

  one-at-least : T (le (div binary32 min max) one32)
  unfolding of_bits fits
  one-at-least =
      quotient-at-most min max (min-positive limits) (max-positive limits) one32 tt tt
      (le_trans (le_of_eq (mul-one (num min * den max))) (le_trans cross (le_of_eq (sym (one-mul (num max * den min))))))

  -- the quotients of the two are finite and above zero
  pub least-quotient-positive : T (positive (div binary32 min max))
  unfolding of_bits fits
  least-quotient-positive =
      let small = fin false 1 (negsuc 99) in
      between small (div binary32 min max) one32 tt tt
      (quotient-at-least min max (min-positive limits) (max-positive limits) small tt tt
      (le_trans (le_of_eq (one-mul (num max * den min))) (le_trans wide (le_of_eq (mul_comm (2 ^ 100) (num min * den max))))))
      one-at-least

  pub greatest-quotient-positive : T (positive (div binary32 max min))
  unfolding of_bits
  greatest-quotient-positive = between one32 (div binary32 max min) greatest_value tt tt one-at-most greatest-quotient-value

  -- 1 lies between the quotients of the two
  pub one-between : Between (div binary32 min max) (div binary32 max min) one32
  unfolding of_bits fits
  one-between = record { least = one-at-least; most = one-at-most; held = tt }

  -- and so does the quotient of two numbers that lie between the two
  pub quotient-between :
      {x y : Float} → Between min max x → Between min max y
      → Between (div binary32 min max) (div binary32 max min) (div binary32 x y)
  quotient-between {x} {y} b d =
      let p = min-positive limits in
      let q = max-positive limits in
      let px = between-positive limits b in
      let py = between-positive limits d in
      record {
        least = quotient_mono min x max y p px q py b.least d.most;
        most = quotient_mono x max y min px q py p b.most d.least;
        held = div-fits binary32 x y;
      }
