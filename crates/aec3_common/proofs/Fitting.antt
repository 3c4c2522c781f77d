-- Numbers that binary32 holds: between two of them, a clamp's result and a smaller multiple stay; and two that are level are one.
use Rattle.std.proofs.Common.{◌≡◌, ℕ, zero, suc, ◌+◌, ◌-◌, ◌*◌, ◌/◌, ◌%◌, ◌^◌, ◌<◌, ◌≤◌, Bool, true, false, cond, not, ◌&&◌, T, eqb, ltb, leb, ℤ, pos, negsuc, sym, refl, ap, ◌∙◌, subst, le_trans, le_of_eq, le_refl, lt_of_lt_of_le, lt_irrefl, mul-le-mul_right, mul_assoc, add-mul, le_antisymm, mul-lt-mul_of_pos_right, mul-pos, zero-mul, mul-one, mul_right_comm, mul_left_comm, arith, lit<, ltb→lt, leb→le, pow_pos, pow_mono, pow-add, shl_lt, lt-ltb}
use lib.Dec.{nleb→lt}
use lib.Pow.{pow-lt}
use lib.Ieee.{Float, nan, inf, fin, Format, binary32, prec, low, hid, top, up, down, size, round, sum, add, mul, lt, le, fits, to_bits, of_bits}
use lib.Ieee.Bits.{of_bits-to_bits}
use lib.Ieee.Digits.{back}
use lib.Ieee.Exact.{HasValue, round_exact}
use lib.Ieee.Fits.{up_pos, down_pos, and_l, and_r, round-fits}
use lib.Ieee.Nearest.{div_same}
use lib.Ieee.Order.{le_of_values, round_mono}
use lib.Ieee.Positive.{num, den, positive, den_pos, own_value, above, above_of_le, positive_of_value, value_pos, le→cross, cross→le, mul_at}
use Rattle.aec3_common.specs.Binary32.{zero32, clamped, is_finite}
use Rattle.aec3_common.proofs.Numbers.{number}
use Rattle.aec3_common.proofs.Rounding.{Signed, infinite, finite, failed, at-least-if-not-below, at-most-if-not-above}

-- ---- numbers between two

-- a number that binary32 holds, not below lo nor above hi
pub record Between (lo hi x : Float) : Type 0 where
  pub least : T (le lo x)
  pub most : T (le x hi)
  pub held : T (fits binary32 x)

pub level : (x : Float) → T (positive x) → T (le x x)
level x p = cross→le x x p p (le_refl _)

-- above zero and not above a finite number
finite-if-not-above : (hi x : Float) → T (positive hi) → T (above x) → T (not (lt hi x)) → T (positive x)
unfolding lt
finite-if-not-above nan x p q h = absurd p
finite-if-not-above (inf s) x p q h = absurd p
finite-if-not-above (fin true m e) x p q h = absurd p
finite-if-not-above (fin false m e) nan p q h = absurd q
finite-if-not-above (fin false m e) (inf true) p q h = absurd q
finite-if-not-above (fin false m e) (inf false) p q h = absurd h
finite-if-not-above (fin false m e) (fin true n d) p q h = absurd q
finite-if-not-above (fin false m e) (fin false n d) p q h = q

-- a number clamped to two others lies between them
pub clamped-between :
    (lo hi x : Float) → T (positive lo) → T (positive hi) → T (le lo hi) → T (fits binary32 lo) → T (fits binary32 hi)
    → T (number x) → T (fits binary32 x) → Between lo hi (clamped x lo hi)
unfolding clamped
clamped-between lo hi x p q order lo_fits hi_fits some x_fits = go (lt x lo) refl (lt hi x) refl
  where
    go : (less : Bool) → lt x lo ≡ less → (more : Bool) → lt hi x ≡ more → Between lo hi (cond less lo (cond more hi x))
    go true e more f = record { least = level lo p; most = order; held = lo_fits }
    go false e true f = record { least = order; most = level hi q; held = hi_fits }
    go false e false f =
        let least = at-least-if-not-below lo x p some (failed e) in
        let finite = finite-if-not-above hi x q (above_of_le lo x p least) (failed f) in
        record { least = least; most = at-most-if-not-above hi x q finite (failed f); held = x_fits }

-- ---- two that are level are one

bits_of : Format → ℕ → ℕ
bits_of f n = cond false (top f) 0 + (size n - prec f) * hid f + n / 2 ^ (size n - prec f)

-- a number's bits are told by its size
bits-by-size : (f : Format) (x : Float) → T (positive x) → to_bits f x ≡ bits_of f (num x * 2 ^ low f / den x)
unfolding to_bits bits_of
bits-by-size f nan p = absurd p
bits-by-size f (inf s) p = absurd p
bits-by-size f (fin true m e) p = absurd p
bits-by-size f (fin false m e) p = refl

pub level-is-same :
    (x y : Float) → T (positive x) → T (positive y) → T (fits binary32 x) → T (fits binary32 y)
    → T (le x y) → T (le y x) → x ≡ y
level-is-same x y p q u v h k =
    let size : num x * 2 ^ 149 / den x ≡ num y * 2 ^ 149 / den y =
    div_same (num x * 2 ^ 149) (den x) (num y * 2 ^ 149) (den y) (den_pos x) (den_pos y)
    (mul_right_comm (num x) (2 ^ 149) (den y)
    ∙ ap (λ (z : ℕ). z * 2 ^ 149) (le_antisymm (le→cross x y p q h) (le→cross y x q p k))
    ∙ mul_right_comm (num y) (den x) (2 ^ 149)) in
    sym (of_bits-to_bits binary32 x u)
    ∙ ap (of_bits binary32) (bits-by-size binary32 x p ∙ ap (bits_of binary32) size ∙ sym (bits-by-size binary32 y q))
    ∙ of_bits-to_bits binary32 y v

-- ---- a factor of at most 1 makes no number larger

exponent-at-most : (a b : ℕ) → 2 ^ a ≤ 2 ^ b → a ≤ b
exponent-at-most a b h = go (leb a b) (leb→le a b) (nleb→lt a b)
  where
    go : (t : Bool) → (T t → a ≤ b) → (T (not t) → b < a) → a ≤ b
    go true u v = u tt
    go false u v = absurd (lt_irrefl (2 ^ b) (lt_of_lt_of_le (pow-lt (v tt)) h))

-- what binary32 holds is written with 24 digits, to 149 places behind the point
parts :
    (m : ℕ) (e : ℤ) → T (fits binary32 (fin false (suc m) e))
    → (suc m < 2 ^ 24) × (down e ≤ 2 ^ 149) × (suc m * up e < 2 ^ 128 * down e)
unfolding fits
parts m e t =
    let odd = eqb (suc m % 2) 1 in
    let few = ltb (suc m) (2 ^ 24) in
    let deep = leb (down e) (2 ^ 149) in
    let under = ltb (suc m * up e) (2 ^ 128 * down e) in
    let first = and_l (odd && few && deep) under t in (
      ltb→lt (suc m) (2 ^ 24) (and_r odd few (and_l (odd && few) deep first)),
      leb→le (down e) (2 ^ 149) (and_r (odd && few) deep first),
      ltb→lt (suc m * up e) (2 ^ 128 * down e) (and_r (odd && few && deep) under t),
    )

-- rounding such a number keeps its value
value-kept :
    (x : Float) → T (positive x) → T (fits binary32 x)
    → HasValue (round binary32 false (num x) (den x)) false (num x) (den x)
value-kept nan p t = absurd p
value-kept (inf s) p t = absurd p
value-kept (fin true m e) p t = absurd p
value-kept (fin false zero e) p t = absurd p
value-kept (fin false (suc m) (pos k)) p t =
    let (few, deep, under) = parts m (pos k) t in
    round_exact binary32 false (suc m * 2 ^ k) 1 (suc m) (k + 149) (lit< tt) few
    (rw (pow-add 2 k 149, ← mul_assoc) (mul-lt-mul_of_pos_right under (pow_pos 149)))
    (simp (mul-one, pow-add, mul_assoc))
value-kept (fin false (suc m) (negsuc k)) p t =
    let (few, deep, under) = parts m (negsuc k) t in
    let j = 149 - suc k in
    let some : suc k ≤ 149 = exponent-at-most (suc k) 149 deep in
    let room : 2 ^ j * 2 ^ suc k ≡ 2 ^ 149 = sym (pow-add 2 j (suc k)) ∙ ap (λ (z : ℕ). 2 ^ z) (back 149 (suc k) some) in
    let small : 24 + j ≤ 277 = omega arith in
    round_exact binary32 false (suc m * 1) (2 ^ suc k) (suc m) j (pow_pos (suc k)) few
    (lt_of_lt_of_le (shl_lt 24 j few) (pow_mono small))
    (simp (mul-one, mul_assoc, room))

-- a number that binary32 holds rounds to itself
pub rounds-to-itself : (x : Float) → T (positive x) → T (fits binary32 x) → round binary32 false (num x) (den x) ≡ x
rounds-to-itself x p t =
    let r = round binary32 false (num x) (den x) in
    let kept = value-kept x p t in
    let own = own_value x p in
    level-is-same r x (positive_of_value r (num x) (den x) kept (value_pos x (num x) (den x) p (den_pos x) own)) p
    (round-fits binary32 false (num x) (den x)) t
    (le_of_values r x (num x) (den x) (num x) (den x) (den_pos x) (den_pos x) kept own (le_refl _))
    (le_of_values x r (num x) (den x) (num x) (den x) (den_pos x) (den_pos x) own kept (le_refl _))

-- what is at most such a number, or at least, stays so when it is rounded
pub rounded-at-most :
    (a c : ℕ) (x : Float) → 0 < c → T (positive x) → T (fits binary32 x) → a * den x ≤ num x * c → T (le (round binary32 false a c) x)
rounded-at-most a c x some p t h =
    subst (λ (z : Float). T (le (round binary32 false a c) z)) (rounds-to-itself x p t)
    (round_mono binary32 a c (num x) (den x) some (den_pos x) h)

pub rounded-at-least :
    (x : Float) (a c : ℕ) → 0 < c → T (positive x) → T (fits binary32 x) → num x * c ≤ a * den x → T (le x (round binary32 false a c))
rounded-at-least x a c some p t h =
    subst (λ (z : Float). T (le z (round binary32 false a c))) (rounds-to-itself x p t)
    (round_mono binary32 (num x) (den x) a c (den_pos x) some h)

pub times-at-most : (q x : Float) → T (positive q) → num q ≤ den q → T (positive x) → T (fits binary32 x) → T (le (mul binary32 q x) x)
times-at-most q x p h r t =
    rw (mul_at binary32 q x (num q) (den q) (num x) (den x) p r (den_pos q) (den_pos x) (own_value q p) (own_value x r))
    (rounded-at-most (num q * num x) (den q * den x) x (mul-pos (den_pos q) (den_pos x)) r t
    (le_trans (le_of_eq (mul_assoc (num q) (num x) (den x)))
    (le_trans (mul-le-mul_right (num x * den x) h) (le_of_eq (mul_left_comm (den q) (num x) (den x))))))

-- ---- what is above zero

pub above_zero : (x : Float) → T (above x) → lt zero32 x ≡ true
unfolding lt of_bits
above_zero nan p = absurd p
above_zero (inf true) p = absurd p
above_zero (inf false) p = refl
above_zero (fin true m e) p = absurd p
above_zero (fin false m e) p = rw (zero-mul (down e), mul-one (m * up e)) (lt-ltb 0 (m * up e) (mul-pos (ltb→lt 0 m p) (up_pos e)))

-- what is finite and above zero
pub positive-above-zero : (x : Float) → T (positive x) → lt zero32 x ≡ true
positive-above-zero x p = above_zero x (above_of_le x x p (level x p))

pub positive-is-finite : (x : Float) → T (positive x) → is_finite x ≡ true
positive-is-finite nan p = absurd p
positive-is-finite (inf s) p = absurd p
positive-is-finite (fin s m e) p = refl

-- a quotient, or what else has a plus sign, is above zero once a positive number is added
pub plus-above : {x : Float} → Signed false x → (y : Float) → T (positive y) → T (fits binary32 y) → lt zero32 (add binary32 x y) ≡ true
unfolding add sum lt of_bits
plus-above x nan p t = absurd p
plus-above x (inf s) p t = absurd p
plus-above x (fin true n d) p t = absurd p
plus-above infinite (fin false n d) p t = refl
plus-above (finite m e) (fin false n d) p t =
    let y = fin false n d in
    let w = m * up e * down d + n * up d * down e in
    let c = down e * down d in
    above_zero (round binary32 false w c)
    (above_of_le y (round binary32 false w c) p
    (rounded-at-least y w c (mul-pos (down_pos e) (down_pos d)) p t
    (rw add-mul (omega (arith, mul_assoc (n * up d) (down e) (down d))))))
