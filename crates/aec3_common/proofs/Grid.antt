-- Multiples of 2^-l: rounding keeps them, and bounds of their sizes; their sums, differences and order are those of their counts.
use Rattle.std.proofs.Common.{◌≡◌, ℕ, zero, suc, ◌+◌, ◌-◌, ◌*◌, ◌%◌, ◌^◌, ◌<◌, ◌≤◌, Bool, true, false, not, ◌&&◌, T, ltb, leb, ℤ, sym, refl, ap, ap₂, ◌∙◌, subst, true≢false, zero-le, le_trans, le_of_lt, le_of_eq, lt_of_lt_of_le, lt_of_le_of_lt, mul-le-mul_right, mul_assoc, mul_comm, one-mul, zero-mul, mul_right_comm, mul_left_comm, mul-pos, add-mul, le_of_mul-le-mul_right, mul-div_cancel, arith, lit<, leb→le, ltb→lt, lt→ltb, pow_pos, pow_mono, pow-add}
use Prim.Native.Nat.compare
use Prim.Native.Nat.{compare, Ordering}
use native.Mathlib.Nat.{lt_irrefl, mul-mod_left, mul-sub, lt_of_mul-lt-mul_right, mul-lt-mul_of_pos_right, eq_of_mul-eq-mul_right}
use lib.Dec.{nleb→lt}
use lib.Pow.{pow-lt}
use lib.Ieee.{Float, nan, inf, fin, binary32, up, down, nearest, round, sum, neg, add, sub, below, lt, le}
use lib.Ieee.Exact.{HasValue, round_exact, units_val}
use lib.Ieee.Digits.{back}
use lib.Ieee.Fits.{down_pos, round_is}
use lib.Ieee.Nearest.{closest}
use lib.Ieee.Order.{kept, transfer, round_mono}
use lib.Ieee.Order.{drop as dropped}
use lib.Ieee.Positive.{first_pos}
use lib.Ieee.Scale.{grid, overflow, round_same, round_val, round_under}
use lib.Ieee.Scale.{finite as is_finite}
use Rattle.aec3_common.proofs.Numbers.{at_most}
use Rattle.aec3_common.proofs.Rounding.{Signed, infinite, finite, round-signed}

-- ---- rounding in units of 2^-149

-- of two fractions the larger rounds to no fewer units; where it does not overflow, the smaller does not
pub grid-order :
    (w c a b : ℕ) → 0 < c → 0 < b → w * b ≤ a * c → grid binary32 a b < overflow binary32 → grid binary32 w c ≤ grid binary32 a b
unfolding le
grid-order w c a b some any order under =
    go (round-signed binary32 false w c) (round binary32 false a b) (round_val binary32 a b under) (round_mono binary32 w c a b some any order) refl
  where
    go :
        {x : Float} → Signed false x → (y : Float) → HasValue y false (grid binary32 a b) (2 ^ 149) → T (le x y)
        → round binary32 false w c ≡ x → grid binary32 w c ≤ grid binary32 a b
    go infinite nan v t same = absurd v
    go infinite (inf s) v t same = absurd v
    go infinite (fin s n d) v t same = absurd t
    go (finite m e) nan v t same = absurd v
    go (finite m e) (inf s) v t same = absurd v
    go (finite m e) (fin true n d) v t same = absurd (true≢false v.0)
    go (finite m e) (fin false n d) v t same =
        let fine : grid binary32 w c < overflow binary32 = round_under binary32 w c (subst (λ (z : Float). T (is_finite z)) (sym same) tt) in
        let own : HasValue (fin false m e) false (grid binary32 w c) (2 ^ 149) =
        subst (λ (z : Float). HasValue z false (grid binary32 w c) (2 ^ 149)) same (round_val binary32 w c fine) in
        le_of_mul-le-mul_right
        (transfer (grid binary32 w c) (grid binary32 a b) (2 ^ 149) (2 ^ 149) (m * up e) (n * up d) (down e) (down d) (down_pos e) (down_pos d)
        (sym own.1) (sym v.1) (at_most (m * up e * down d) (n * up d * down e) t))
        (pow_pos 149)

-- a whole number of units that binary32 holds
pub record Held (b : ℕ) : Type 0 where
  pub same : grid binary32 b (2 ^ 149) ≡ b
  pub under : b < overflow binary32

held : (b : ℕ) → b < overflow binary32 → HasValue (round binary32 false b (2 ^ 149)) false b (2 ^ 149) → Held b
held b under v = go (round binary32 false b (2 ^ 149)) v refl
  where
    go : (x : Float) → HasValue x false b (2 ^ 149) → round binary32 false b (2 ^ 149) ≡ x → Held b
    go nan v same = absurd v
    go (inf s) v same = absurd v
    go (fin s m e) v same =
        let fine : grid binary32 b (2 ^ 149) < overflow binary32 = round_under binary32 b (2 ^ 149) (subst (λ (z : Float). T (is_finite z)) (sym same) tt) in
        let own : HasValue (fin s m e) false (grid binary32 b (2 ^ 149)) (2 ^ 149) =
        subst (λ (z : Float). HasValue z false (grid binary32 b (2 ^ 149)) (2 ^ 149)) same (round_val binary32 b (2 ^ 149) fine) in
        record { same = eq_of_mul-eq-mul_right (down e) (down_pos e) _ _ (sym own.1 ∙ v.1); under = under }

-- as a power of two is
pub held-power : (j : ℕ) → j ≤ 276 → Held (2 ^ j)
held-power j few =
    let small : j < 277 = omega arith in
    let under : 2 ^ j < 2 ^ 277 = pow-lt small in
    held (2 ^ j) under
    (round_exact binary32 false (2 ^ j) (2 ^ 149) 1 j (pow_pos 149) (lit< tt) (rw one-mul under) (rw one-mul refl))

-- what is not above b units rounds to at most b
pub grid-at-most : (w c b : ℕ) → 0 < c → w * 2 ^ 149 ≤ b * c → Held b → grid binary32 w c ≤ b
grid-at-most w c b some few h =
    le_trans (grid-order w c b (2 ^ 149) some (pow_pos 149) few (rw h.same h.under)) (le_of_eq h.same)

-- and what is not below b units, to at least b, where it does not overflow
pub grid-at-least : (w c b : ℕ) → 0 < c → b * c ≤ w * 2 ^ 149 → Held b → grid binary32 w c < overflow binary32 → b ≤ grid binary32 w c
grid-at-least w c b some few h under =
    le_trans (le_of_eq (sym h.same)) (grid-order b (2 ^ 149) w c (pow_pos 149) some few under)

-- ---- multiples of 2^-l

-- x is q times 2^-l in size, and has the sign s
pub data Multiple (l : ℕ) (s : Bool) (q : ℕ) : Float → Type 0 where
  multiple : (m : ℕ) (e : ℤ) → m * up e * 2 ^ l ≡ q * down e → Multiple l s q (fin s m e)

-- a multiple of 2^-l whose size is at most b times that
pub data Sized (l b : ℕ) : Float → Type 0 where
  sized : {x : Float} (s : Bool) (q : ℕ) → q ≤ b → Multiple l s q x → Sized l b x

multiple-of-value : (l : ℕ) (s : Bool) (q : ℕ) (x : Float) → HasValue x s q (2 ^ l) → Multiple l s q x
multiple-of-value l s q nan v = absurd v
multiple-of-value l s q (inf t) v = absurd v
multiple-of-value l s q (fin t m e) v = subst (λ (u : Bool). Multiple l s q (fin u m e)) (sym v.0) (multiple m e v.1)

-- the same number in smaller steps, and in larger ones
pub finer : (l i : ℕ) {s : Bool} {q : ℕ} {x : Float} → Multiple l s q x → Multiple (l + i) s (q * 2 ^ i) x
finer l i {q = q} (multiple m e h) =
    multiple m e
    (rw pow-add (sym (mul_assoc (m * up e) (2 ^ l) (2 ^ i)) ∙ ap (λ (z : ℕ). z * 2 ^ i) h ∙ mul_right_comm q (down e) (2 ^ i)))

coarser : (l i : ℕ) {s : Bool} {q : ℕ} {x : Float} → Multiple (l + i) s (q * 2 ^ i) x → Multiple l s q x
coarser l i {q = q} (multiple m e h) =
    multiple m e
    (eq_of_mul-eq-mul_right (2 ^ i) (pow_pos i) _ _
    (mul_assoc (m * up e) (2 ^ l) (2 ^ i) ∙ ap (λ (z : ℕ). m * up e * z) (sym (pow-add 2 l i)) ∙ h ∙ mul_right_comm q (2 ^ i) (down e)))

-- rounding gives a multiple of 2^-149
pub round-multiple : (s : Bool) (w c : ℕ) → grid binary32 w c < overflow binary32 → Multiple 149 s (grid binary32 w c) (round binary32 s w c)
round-multiple s w c under =
    multiple-of-value 149 s (grid binary32 w c) (round binary32 s w c)
    (subst (λ (z : Float). HasValue z s (grid binary32 w c) (2 ^ 149)) (sym (round_is binary32 s w c))
    (units_val binary32 s (kept 24 (w * 2 ^ 149) c) (dropped 24 (w * 2 ^ 149) c) under))

-- a whole number is nearest to itself
closest-whole : (q u : ℕ) → 0 < u → closest (q * u) u ≡ q
closest-whole q u some =
    ap (λ (x : ℕ). nearest x (compare (q * u % u * 2) u)) (mul-div_cancel q some)
    ∙ ap (λ (x : ℕ). nearest q (compare (x * 2) u)) (mul-mod_left q u)
    ∙ ap (nearest q) (none-below u some)
  where
    none-below : (u : ℕ) → 0 < u → compare 0 u ≡ Ordering.lt
    none-below zero h = absurd (lt_irrefl 0 h)
    none-below (suc u) h = compare.zero-suc u

-- rounding a multiple of 2^-l drops nothing, or leaves a whole number of larger steps
grid-multiple : (l i q : ℕ) → l + i ≡ 149 → (r : ℕ) × (grid binary32 q (2 ^ l) ≡ r * 2 ^ i)
grid-multiple l i q all =
    let c = 2 ^ l in
    let k = dropped 24 (q * 2 ^ 149) c in
    go k (leb k i) (leb→le k i) (nleb→lt k i)
  where
    go :
        (k : ℕ) (t : Bool) → (T t → k ≤ i) → (T (not t) → i < k)
        → (r : ℕ) × (closest (q * 2 ^ 149) (2 ^ l * 2 ^ k) * 2 ^ k ≡ r * 2 ^ i)
    go k true a b =
        let h = a tt in
        let rest : 2 ^ (i - k) * 2 ^ k ≡ 2 ^ i = sym (pow-add 2 (i - k) k) ∙ ap (λ (z : ℕ). 2 ^ z) (back i k h) in
        let whole : q * 2 ^ 149 ≡ q * 2 ^ (i - k) * (2 ^ l * 2 ^ k) =
        ap (λ (z : ℕ). q * 2 ^ z) (sym all) ∙ ap (λ (z : ℕ). q * z) (pow-add 2 l i)
        ∙ ap (λ (z : ℕ). q * (2 ^ l * z)) (sym rest)
        ∙ simp (mul_assoc, mul_comm, mul_left_comm) in (
          q,
          ap (λ (z : ℕ). closest z (2 ^ l * 2 ^ k) * 2 ^ k) whole
              ∙ ap (λ (z : ℕ). z * 2 ^ k) (closest-whole (q * 2 ^ (i - k)) (2 ^ l * 2 ^ k) (mul-pos (pow_pos l) (pow_pos k)))
              ∙ mul_assoc q (2 ^ (i - k)) (2 ^ k)
              ∙ ap (λ (z : ℕ). q * z) rest,
        )
    go k false a b =
        let h = le_of_lt (b tt) in
        let n = closest (q * 2 ^ 149) (2 ^ l * 2 ^ k) in (
          n * 2 ^ (k - i),
          ap (λ (z : ℕ). n * z) (ap (λ (z : ℕ). 2 ^ z) (sym (back k i h)) ∙ pow-add 2 (k - i) i) ∙ sym (mul_assoc n (2 ^ (k - i)) (2 ^ i)),
        )

-- what rounding makes of q times 2^-l: size times 2^-l, at most b if q is, and above 0 if q is
pub record Rounded (l b : ℕ) (s : Bool) (q : ℕ) : Type 0 where
  pub size : ℕ
  pub is : Multiple l s size (round binary32 s q (2 ^ l))
  pub most : size ≤ b
  pub some : 0 < q → 0 < size

pub rounded : (l i b : ℕ) → l + i ≡ 149 → Held (b * 2 ^ i) → (s : Bool) (q : ℕ) → q ≤ b → Rounded l b s q
rounded l i b all room s q few =
    let c = 2 ^ l in
    let step = grid-multiple l i q all in
    let smallest : 2 ^ 149 ≡ 2 ^ l * 2 ^ i = ap (λ (z : ℕ). 2 ^ z) (sym all) ∙ pow-add 2 l i in
    let bound : q * 2 ^ 149 ≤ b * 2 ^ i * c =
    le_trans (mul-le-mul_right (2 ^ 149) few) (le_of_eq (ap (λ (z : ℕ). b * z) smallest ∙ simp (mul_assoc, mul_comm))) in
    let most : grid binary32 q c ≤ b * 2 ^ i = grid-at-most q c (b * 2 ^ i) (pow_pos l) bound room in
    let under : grid binary32 q c < overflow binary32 = lt_of_le_of_lt most room.under in
    record {
      size = step.0;
      is =
          coarser l i
          (subst (λ (n : ℕ). Multiple n s (step.0 * 2 ^ i) (round binary32 s q c)) (sym all)
          (subst (λ (n : ℕ). Multiple 149 s n (round binary32 s q c)) step.1 (round-multiple s q c under)));
      most = le_of_mul-le-mul_right (le_trans (le_of_eq (sym step.1)) most) (pow_pos i);
      some = λ any.
          first_pos step.0 (2 ^ i)
          (lt_of_lt_of_le
          (grid-at-least q c 1 (pow_pos l)
          (le_trans (le_of_eq (one-mul c))
          (le_trans (pow_mono (below-all l i all)) (le_trans (le_of_eq (sym (one-mul (2 ^ 149)))) (mul-le-mul_right (2 ^ 149) any))))
          (held-power 0 zero-le) under)
          (le_of_eq step.1));
    }
  where
    below-all : (l i : ℕ) → l + i ≡ 149 → l ≤ 149
    below-all l i e = omega arith

-- ---- sums and comparisons of two multiples of 2^-l

-- tests that agree both ways are one
same-test : (a b c d : ℕ) → (a < b → c < d) → (c < d → a < b) → ltb a b ≡ ltb c d
same-test a b c d f g = go (ltb a b) (ltb→lt a b) (lt→ltb a b) (ltb c d) (ltb→lt c d) (lt→ltb c d)
  where
    go : (t : Bool) → (T t → a < b) → (a < b → T t) → (u : Bool) → (T u → c < d) → (c < d → T u) → t ≡ u
    go true p q true r v = refl
    go true p q false r v = absurd (v (f (p tt)))
    go false p q true r v = absurd (q (g (r tt)))
    go false p q false r v = refl

-- fractions with one denominator that are whole numbers of 1 / u compare and subtract as these
less-same : (a b q r c u : ℕ) → 0 < c → 0 < u → a * u ≡ q * c → b * u ≡ r * c → ltb a b ≡ ltb q r
less-same a b q r c u some any x y =
    same-test a b q r
    (λ h. lt_of_mul-lt-mul_right c (lt_of_le_of_lt (le_of_eq (sym x)) (lt_of_lt_of_le (mul-lt-mul_of_pos_right h any) (le_of_eq y))))
    (λ h. lt_of_mul-lt-mul_right u (lt_of_le_of_lt (le_of_eq x) (lt_of_lt_of_le (mul-lt-mul_of_pos_right h some) (le_of_eq (sym y)))))

sum-level : (a b q r c u : ℕ) → a * u ≡ q * c → b * u ≡ r * c → (a + b) * u ≡ (q + r) * c
sum-level a b q r c u x y = add-mul a b u ∙ ap₂ (λ (v w : ℕ). v + w) x y ∙ sym (add-mul q r c)

less-level : (a b q r c u : ℕ) → a * u ≡ q * c → b * u ≡ r * c → (a - b) * u ≡ (q - r) * c
less-level a b q r c u x y =
    mul_comm (a - b) u ∙ mul-sub u a b ∙ ap₂ (λ (v w : ℕ). v - w) (mul_comm u a ∙ x ∙ mul_comm q c) (mul_comm u b ∙ y ∙ mul_comm r c)
    ∙ sym (mul-sub c q r) ∙ mul_comm c (q - r)

sum-same :
    (s t : Bool) (a b q r c u : ℕ) → 0 < c → 0 < u → a * u ≡ q * c → b * u ≡ r * c → sum binary32 s a t b c ≡ sum binary32 s q t r u
unfolding sum
sum-same s t a b q r c u some any x y =
    let sign = s && ltb r q in
    simp (
      less-same a b q r c u some any x y,
      less-same b a r q c u some any y x,
      round_same binary32 s (a + b) c (q + r) u some any (sum-level a b q r c u x y),
      round_same binary32 t (b - a) c (r - q) u some any (less-level b a r q c u y x),
      round_same binary32 sign (a - b) c (q - r) u some any (less-level a b q r c u x y),
    )

-- a sum and a difference of multiples of 2^-l, by their counts
pub add-multiples :
    (l : ℕ) {s t : Bool} {q r : ℕ} {x y : Float} → Multiple l s q x → Multiple l t r y → add binary32 x y ≡ sum binary32 s q t r (2 ^ l)
unfolding add
add-multiples l {s = s} {t = t} {q = q} {r = r} (multiple m e h) (multiple n d k) =
    sum-same s t (m * up e * down d) (n * up d * down e) q r (down e * down d) (2 ^ l) (mul-pos (down_pos e) (down_pos d)) (pow_pos l)
    (mul_right_comm (m * up e) (down d) (2 ^ l) ∙ ap (λ (z : ℕ). z * down d) h ∙ mul_assoc q (down e) (down d))
    (mul_right_comm (n * up d) (down e) (2 ^ l) ∙ ap (λ (z : ℕ). z * down e) k ∙ mul_right_comm r (down d) (down e) ∙ mul_assoc r (down e) (down d))

pub sub-multiples :
    (l : ℕ) {s t : Bool} {q r : ℕ} {x y : Float} → Multiple l s q x → Multiple l t r y → sub binary32 x y ≡ sum binary32 s q (not t) r (2 ^ l)
unfolding sub neg
sub-multiples l u (multiple n d k) = add-multiples l u (multiple n d k)

-- and how they compare
pub lt-multiples : (l : ℕ) {s t : Bool} {q r : ℕ} {x y : Float} → Multiple l s q x → Multiple l t r y → lt x y ≡ below s q t r
unfolding lt
lt-multiples l {s = s} {t = t} {q = q} {r = r} (multiple m e h) (multiple n d k) =
    let a = m * up e * down d in
    let b = n * up d * down e in
    let c = down e * down d in
    let u = 2 ^ l in
    by-signs s t a b q r c u (mul-pos (down_pos e) (down_pos d)) (pow_pos l)
    (mul_right_comm (m * up e) (down d) (2 ^ l) ∙ ap (λ (z : ℕ). z * down d) h ∙ mul_assoc q (down e) (down d))
    (mul_right_comm (n * up d) (down e) (2 ^ l) ∙ ap (λ (z : ℕ). z * down e) k ∙ mul_right_comm r (down d) (down e) ∙ mul_assoc r (down e) (down d))
  where
    by-signs :
        (s t : Bool) (a b q r c u : ℕ) → 0 < c → 0 < u → a * u ≡ q * c → b * u ≡ r * c → below s a t b ≡ below s q t r
    by-signs false false a b q r c u some any x y = less-same a b q r c u some any x y
    by-signs false true a b q r c u some any x y = refl
    by-signs true false a b q r c u some any x y =
        less-same 0 (a + b) 0 (q + r) c u some any (zero-mul u ∙ sym (zero-mul c)) (sum-level a b q r c u x y)
    by-signs true true a b q r c u some any x y = less-same b a r q c u some any y x
