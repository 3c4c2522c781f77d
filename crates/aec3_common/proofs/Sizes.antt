-- Numbers of bounded size, with either sign: sums, differences, products and quotients of them.
use Rattle.std.proofs.Common.{◌≡◌, ℕ, zero, suc, ◌+◌, ◌-◌, ◌*◌, ◌^◌, ◌<◌, ◌≤◌, Bool, true, false, not, ◌&&◌, ltb, ℤ, sym, refl, ap, ◌∙◌, le_trans, le_of_eq, lt_of_le_of_lt, mul-le-mul_right, mul-le-mul, le-mul_of_pos_right, zero-lt-suc, mul-pos, mul_assoc, mul_comm, mul_left_comm, le_of_mul-le-mul_right, zero-mul, sub-le, arith, ltb-true, pow_pos}
use mathlib.Core.Bool.{beq, false≢true}
use lib.Dec.{eqb-suc-zero}
use lib.Ieee.{Float, fin, binary32, up, down, round, sum, mul, div, below}
use lib.Ieee.Fits.{up_pos, down_pos}
use lib.Ieee.Scale.{grid}
use Rattle.aec3_common.specs.Binary32.{is_finite}
use Rattle.aec3_common.proofs.Choices.{cond_has}
use Rattle.aec3_common.proofs.Grid.{Held, grid-at-most, Multiple, multiple, Sized, sized, finer, round-multiple, rounded}

-- ---- sums and differences

-- a multiple of 2^-l that is not zero
pub data NotZero (l : ℕ) : Float → Type 0 where
  not_zero : {x : Float} (s : Bool) (q : ℕ) → 0 < q → Multiple l s q x → NotZero l x

module _ (l i b : ℕ) (all : l + i ≡ 149) (room : Held (b * 2 ^ i)) where
  round-sized : (s : Bool) (q : ℕ) → q ≤ b → Sized l b (round binary32 s q (2 ^ l))
  round-sized s q few = let r = rounded l i b all room s q few in sized s r.size r.most r.is

  -- a sum: where the signs are alike the sizes are to be at most b together, and else each
  pub sum-sized :
      (s t : Bool) (q r : ℕ) → q ≤ b → r ≤ b → (beq s t ≡ true → q + r ≤ b) → Sized l b (sum binary32 s q t r (2 ^ l))
  unfolding sum
  sum-sized s t q r few less together =
      cond_has (Sized l b) (beq s t)
      (λ e. round-sized s (q + r) (together e))
      (λ e.
      cond_has (Sized l b) (ltb q r)
      (λ h. round-sized t (r - q) (le_trans (sub-le r q) less))
      (λ h. round-sized (s && ltb r q) (q - r) (le_trans (sub-le q r) few)))

  round-not-zero : (s : Bool) (q : ℕ) → q ≤ b → 0 < q → NotZero l (round binary32 s q (2 ^ l))
  round-not-zero s q few any = let r = rounded l i b all room s q few in not_zero s r.size (r.some any) r.is

  -- a number less a smaller one is not zero
  pub difference-not-zero : (s t : Bool) (q r : ℕ) → q + r ≤ b → below t r s q ≡ true → NotZero l (sum binary32 s q (not t) r (2 ^ l))
  unfolding sum
  difference-not-zero false false q r few less =
      let more = ltb-true r q less in
      cond_has (NotZero l) (ltb q r)
      (λ h. absurd (omega (arith, ltb-true q r h)))
      (λ h. round-not-zero (false && ltb r q) (q - r) (omega arith) (omega arith))
  difference-not-zero false true q r few less = round-not-zero false (q + r) few (omega (arith, ltb-true 0 (r + q) less))
  difference-not-zero true false q r few less = absurd (false≢true less)
  difference-not-zero true true q r few less =
      let more = ltb-true q r less in
      cond_has (NotZero l) (ltb q r)
      (λ h. round-not-zero false (r - q) (omega arith) (omega arith))
      (λ h. absurd (false≢true (sym h ∙ less)))

-- ---- products with a positive number

-- a number of at most b units, with the sign s
pub record SignedUpTo (b : ℕ) (s : Bool) (x : Float) : Type 0 where
  pub size : ℕ
  pub is : Multiple 149 s size x
  pub most : size ≤ b

same-sign : (t : Bool) → not (beq false t) ≡ t
same-sign true = refl
same-sign false = refl

-- what k 2^g times u units is not above, the rounded product is not, where binary32 holds it
pub product-of :
    (k : ℕ) (g : ℤ) (b : ℕ) → Held b → {t : Bool} {u : ℕ} {x : Float} → Multiple 149 t u x → k * up g * u ≤ b * down g
    → SignedUpTo b t (mul binary32 (fin false k g) x)
unfolding mul
product-of k g b room {t = t} {u = u} (multiple n d h) few =
    let w = k * up g * (n * up d) in
    let c = down g * down d in
    let units : w * 2 ^ 149 ≡ k * up g * u * down d =
    mul_assoc (k * up g) (n * up d) (2 ^ 149) ∙ ap (λ (z : ℕ). k * up g * z) h ∙ sym (mul_assoc (k * up g) u (down d)) in
    let bound : w * 2 ^ 149 ≤ b * c = le_trans (le_of_eq units) (le_trans (mul-le-mul_right (down d) few) (le_of_eq (mul_assoc b (down g) (down d)))) in
    let most = grid-at-most w c b (mul-pos (down_pos g) (down_pos d)) bound room in
    rw same-sign
    (record { size = grid binary32 w c; is = round-multiple t w c (lt_of_le_of_lt most room.under); most = most })

-- ---- quotients

-- q / r is at most j, in units of 1 / L, where q and r are the sizes of a / c and b / d in units of 1 / f
quotient-bound :
    (a b c d q r f j L : ℕ) → 0 < f → a * f ≡ q * c → b * f ≡ r * d → 0 < r → q ≤ j → a * d * L ≤ j * L * (b * c)
quotient-bound a b c d q r f j L any x y some few =
    le_of_mul-le-mul_right
    (le_trans (le_of_eq (simp (mul_assoc, mul_comm, mul_left_comm) (simp (mul_assoc, mul_comm, mul_left_comm) at (ap (λ (z : ℕ). z * (d * L)) x))))
    (le_trans (mul-le-mul few (le-mul_of_pos_right (c * (d * L)) some))
    (le_of_eq (sym (simp (mul_assoc, mul_comm, mul_left_comm) (simp (mul_assoc, mul_comm, mul_left_comm) at (ap (λ (z : ℕ). z * (j * L * c)) y)))))))
    any

-- a number of at most b steps, by one that is not zero: at most as large as b
pub quotient-sized : (l b : ℕ) {x y : Float} → Held (b * 2 ^ 149) → Sized l b x → NotZero l y → Sized 149 (b * 2 ^ 149) (div binary32 x y)
unfolding div
quotient-sized l b room (sized s q few (multiple m e h)) (not_zero t r some (multiple zero d k)) =
    absurd (omega (arith, mul-pos some (down_pos d), zero-mul (up d), zero-mul (2 ^ l), ap (λ (z : ℕ). z * 2 ^ l) (zero-mul (up d)), k))
quotient-sized l b room (sized s q few (multiple m e h)) (not_zero t r some (multiple (suc n) d k)) =
    let w = m * up e * down d in
    let c = suc n * up d * down e in
    let any : 0 < c = mul-pos (mul-pos (zero-lt-suc n) (up_pos d)) (down_pos e) in
    let bound = quotient-bound (m * up e) (suc n * up d) (down e) (down d) q r (2 ^ l) b (2 ^ 149) (pow_pos l) h k some few in
    let most = grid-at-most w c (b * 2 ^ 149) any bound room in
    rw eqb-suc-zero
    (sized (not (beq s t)) (grid binary32 w c) most (round-multiple (not (beq s t)) w c (lt_of_le_of_lt most room.under)))

-- ---- other steps, other bounds

-- in steps that are 2^i times smaller
pub sized-finer : (l i b : ℕ) {x : Float} → Sized l b x → Sized (l + i) (b * 2 ^ i) x
sized-finer l i b (sized s q few x) = sized s (q * 2 ^ i) (mul-le-mul_right (2 ^ i) few) (finer l i x)

-- by a larger bound
pub sized-more : (l b c : ℕ) {x : Float} → b ≤ c → Sized l b x → Sized l c x
sized-more l b c more (sized s q few x) = sized s q (le_trans few more) x

pub sized-finite : {l b : ℕ} {x : Float} → Sized l b x → is_finite x ≡ true
sized-finite (sized s q few (multiple m e h)) = refl
