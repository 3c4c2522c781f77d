-- A share of at most a quarter of a difference, each rounded, is not above the difference.
use Rattle.std.proofs.Common.{◌≡◌, ℕ, zero, suc, ◌-◌, ◌*◌, ◌/◌, ◌^◌, ◌<◌, ◌≤◌, Bool, true, false, ℤ, sym, refl, ap, ◌∙◌, subst, le_trans, zero-lt-suc, mul-lt-mul_of_pos_right, mul-le-mul_left, le_of_eq, le_refl, lt_of_le_of_lt, lt_irrefl, mul-le-mul_right, mul_assoc, mul_comm, mul-pos, zero-mul, mul-zero, zero-le, one-mul, mul-one, mul_right_comm, arith, lit<, pow_pos, ◌⊎◌, inl, inr}
use native.Mathlib.Nat.{le-div_iff_mul-le, div-mul-le_self, lt_of_mul-lt-mul_right, eq-zero-or-pos, mul-mul-mul_comm}
use lib.Ieee.{Float, nan, inf, fin, binary32, up, down, size, round, mul}
use lib.Ieee.Digits.{size-lt, size_reaches}
use lib.Ieee.Exact.{HasValue, round_exact, units_val}
use lib.Ieee.Fits.{down_pos, nearest-le, round_is}
use lib.Ieee.Nearest.{closest}
use lib.Ieee.Order.{kept}
use lib.Ieee.Order.{drop as dropped}
use lib.Ieee.Positive.{through}
use lib.Ieee.Scale.{grid}

-- a number with the sign s, in size at most a / c
pub data SizeAtMost (s : Bool) (a c : ℕ) : Float → Type 0 where
  at_most : (m : ℕ) (e : ℤ) → m * up e * c ≤ a * down e → SizeAtMost s a c (fin s m e)

-- a number with a plus sign, at most a / c
abbrev pub AtMost : ℕ → ℕ → Float → Type 0
AtMost = SizeAtMost false

-- by any fraction that it equals
at-most-by-value : (s : Bool) (x : Float) (n d a c : ℕ) → 0 < d → HasValue x s n d → n * c ≤ a * d → SizeAtMost s a c x
at-most-by-value s nan n d a c some v h = absurd v
at-most-by-value s (inf t) n d a c some v h = absurd v
at-most-by-value s (fin t m e) n d a c some v h =
    subst (λ (z : Bool). SizeAtMost s a c (fin z m e)) (sym v.0)
    (at_most m e (through (m * up e) n a (down e) d c some (le_of_eq v.1) h))

-- ---- rounding at most doubles what is one unit of 2^-149 at least

closest-le : (n u : ℕ) → closest n u ≤ suc (n / u)
closest-le n u = nearest-le (n / u) _

-- the whole number closest to what is one at least
closest-twice : (n u : ℕ) → 0 < u → u ≤ n → closest n u * u ≤ 2 * n
closest-twice n u some h =
    let one : 1 ≤ n / u = (le-div_iff_mul-le some).1 (le_trans (le_of_eq (one-mul u)) h) in
    let twice : closest n u ≤ 2 * (n / u) = omega (arith, closest-le n u) in
    le_trans (mul-le-mul_right u twice) (le_trans (le_of_eq (mul_assoc 2 (n / u) u)) (omega (arith, div-mul-le_self n u)))

-- in units: the rounded number is one unit at most, or at most twice the fraction
abbrev UnitOrTwice : ℕ → ℕ → Type 0
UnitOrTwice n c = (kept 24 n c * 2 ^ dropped 24 n c ≤ 1) ⊎ (kept 24 n c * 2 ^ dropped 24 n c * c ≤ 2 * n)

unit-or-twice : (n c : ℕ) → 0 < c → UnitOrTwice n c
unit-or-twice n c some = go (size (n / c)) refl
  where
    go : (z : ℕ) → size (n / c) ≡ z → UnitOrTwice n c
    go zero e =
        let less : n / c < 1 = subst (λ (z : ℕ). n / c < 2 ^ z) e (size-lt (n / c)) in
        let none : n / (c * 1) ≡ 0 = rw (mul-one c) (omega arith) in
        inl (rw (e, mul-one (closest n (c * 1))) (omega (arith, closest-le n (c * 1), none)))
    go (suc z) e =
        let k = size (n / c) - 24 in
        let reached : 2 ^ k ≤ n / c = size_reaches (n / c) k (omega arith) in
        let whole : c * 2 ^ k ≤ n = le_trans (le_of_eq (mul_comm c (2 ^ k))) ((le-div_iff_mul-le some).0 reached) in
        inr (le_trans (le_of_eq (mul_assoc (closest n (c * 2 ^ k)) (2 ^ k) c ∙ ap (λ (v : ℕ). closest n (c * 2 ^ k) * v) (mul_comm (2 ^ k) c)))
        (closest-twice n (c * 2 ^ k) (mul-pos some (pow_pos k)) whole))

scaled : (u a b c d : ℕ) → 2 * a * d ≤ c * b → 2 * (a * u) * d ≤ c * u * b
scaled u a b c d h =
    le_trans (le_of_eq (ap (λ (z : ℕ). z * d) (sym (mul_assoc 2 a u)) ∙ mul_right_comm (2 * a) u d))
    (le_trans (mul-le-mul_right u h) (le_of_eq (mul_right_comm c b u)))

-- zero rounds to zero
round-zero : (s : Bool) (b c d : ℕ) → 0 < b → SizeAtMost s c d (round binary32 s 0 b)
round-zero s b c d some =
    at-most-by-value s (round binary32 s 0 b) 0 b c d some
    (round_exact binary32 s 0 b 0 0 some (lit< tt) (lit< tt) (zero-mul (2 ^ 149) ∙ sym (zero-mul b)))
    (le_trans (le_of_eq (zero-mul d)) zero-le)

-- Rounding at most doubles a number, or gives one unit of 2^-149 at most.
pub round-twice :
    (s : Bool) (a b c d : ℕ) → 0 < b → 0 < d → (0 < a → d ≤ c * 2 ^ 149) → 2 * a * d ≤ c * b → c ≤ 2 ^ 127 * d
    → SizeAtMost s c d (round binary32 s a b)
round-twice s zero b c d some more unit twice few = round-zero s b c d some
round-twice s (suc n) b c d some more unit twice few =
    at-most-by-value s (round binary32 s a b) (grid binary32 a b) (2 ^ 149) c d (pow_pos 149)
    (subst (λ (z : Float). HasValue z s (grid binary32 a b) (2 ^ 149)) (sym (round_is binary32 s a b))
    (units_val binary32 s (kept 24 (a * 2 ^ 149) b) (dropped 24 (a * 2 ^ 149) b) small))
    bound
  where
    a : ℕ
    a = suc n

    bound : grid binary32 a b * d ≤ c * 2 ^ 149
    bound = elim (unit-or-twice (a * 2 ^ 149) b some) [
      | inl h ↦ le_trans (mul-le-mul_right d h) (le_trans (le_of_eq (one-mul d)) (unit (zero-lt-suc n)))
      | inr h ↦
          le_trans
          (through (grid binary32 a b) (2 * (a * 2 ^ 149)) (c * 2 ^ 149) 1 b d some
          (le_trans h (le_of_eq (sym (mul-one (2 * (a * 2 ^ 149)))))) (scaled (2 ^ 149) a b c d twice))
          (le_of_eq (mul-one (c * 2 ^ 149)))
    ]

    small : grid binary32 a b < 2 ^ 277
    small =
        lt_of_mul-lt-mul_right d
        (lt_of_le_of_lt (le_trans bound (le_trans (mul-le-mul_right (2 ^ 149) few) (le_of_eq (mul_right_comm (2 ^ 127) d (2 ^ 149)))))
        (mul-lt-mul_of_pos_right (lit< tt) more))

-- a share of a quarter of a number
quarter : (k g m e w c : ℕ) → 4 * k ≤ g → m * c ≤ 2 * w * e → 2 * (k * m) * c ≤ w * (g * e)
quarter k g m e w c h l =
    le_trans (le_of_eq (ap (λ (z : ℕ). z * c) (sym (mul_assoc 2 k m)) ∙ mul_assoc (2 * k) m c))
    (le_trans (mul-le-mul_left (2 * k) l)
    (le_trans (le_of_eq (sym (mul_assoc (2 * k) (2 * w) e) ∙ ap (λ (z : ℕ). z * e) (mul-mul-mul_comm 2 k 2 w ∙ sym (mul_assoc 4 k w))))
    (le_trans (mul-le-mul_right e (mul-le-mul_right w h)) (le_of_eq (ap (λ (z : ℕ). z * e) (mul_comm g w) ∙ mul_assoc w g e)))))

-- what is multiplied by a number of size zero is zero
no-size : (p m c e : ℕ) → 0 < c → m * c ≤ 2 * 0 * e → 0 < p * m → ⊥
no-size p m c e some h more =
    let none : m * c ≡ 0 = omega (arith, le_trans h (le_of_eq (zero-mul e))) in
    elim (eq-zero-or-pos m) [
      | inl z ↦ lt_irrefl 0 (subst (λ (v : ℕ). 0 < v) (ap (λ (v : ℕ). p * v) z ∙ mul-zero p) more)
      | inr l ↦ lt_irrefl 0 (subst (λ (v : ℕ). 0 < v) none (mul-pos l some))
    ]

-- the same of a number with either sign
pub share-small-signed :
    (s : Bool) (k : ℕ) (g : ℤ) (w c : ℕ) → 4 * (k * up g) ≤ down g → 0 < c → (0 < w → c ≤ w * 2 ^ 149) → w ≤ 2 ^ 100 * c
    → SizeAtMost s w c (mul binary32 (fin false k g) (round binary32 s w c))
unfolding mul
share-small-signed s k g w c few some unit bound =
    go s (round-twice s w c (2 * w) c some some doubled (le_refl (2 * w * c)) (omega (arith, bound)))
  where
    doubled : 0 < w → c ≤ 2 * w * 2 ^ 149
    doubled h = le_trans (unit h) (mul-le-mul_right (2 ^ 149) (omega arith))

    reached : (m : ℕ) (e : ℤ) → m * up e * c ≤ 2 * w * down e → 0 < k * up g * (m * up e) → c ≤ w * 2 ^ 149
    reached m e h more = elim (eq-zero-or-pos w) [
      | inl z ↦ absurd (no-size (k * up g) (m * up e) c (down e) some (subst (λ (v : ℕ). m * up e * c ≤ 2 * v * down e) z h) more)
      | inr l ↦ unit l
    ]

    part : (t : Bool) (m : ℕ) (e : ℤ) → m * up e * c ≤ 2 * w * down e → SizeAtMost t w c (round binary32 t (k * up g * (m * up e)) (down g * down e))
    part t m e h =
        round-twice t (k * up g * (m * up e)) (down g * down e) w c (mul-pos (down_pos g) (down_pos e)) some
        (reached m e h) (quarter (k * up g) (down g) (m * up e) (down e) w c few h) (omega (arith, bound))

    go : (t : Bool) {x : Float} → SizeAtMost t (2 * w) c x → SizeAtMost t w c (mul binary32 (fin false k g) x)
    go true (at_most m e h) = part true m e h
    go false (at_most m e h) = part false m e h

-- A share of at most a quarter of a rounded difference, rounded, is not above the difference.
pub share-small :
    (k : ℕ) (g : ℤ) (w c : ℕ) → 4 * (k * up g) ≤ down g → 0 < c → (0 < w → c ≤ w * 2 ^ 149) → w ≤ 2 ^ 100 * c
    → AtMost w c (mul binary32 (fin false k g) (round binary32 false w c))
share-small = share-small-signed false
