-- A number that moves towards another by a share of at most a quarter of the difference does not leave what both lie between.
use Rattle.std.proofs.Common.{◌≡◌, ℕ, suc, ◌+◌, ◌-◌, ◌*◌, ◌^◌, ◌<◌, ◌≤◌, Bool, true, false, T, ltb, ℤ, sym, refl, ap, ◌∙◌, subst, le_trans, le_of_lt, suc-mul, sub-le, lt-ltb, mul-lt-mul_of_pos_right, le_of_eq, mul-le-mul_right, mul_assoc, mul_comm, mul-pos, mul-one, mul_right_comm, add-mul, arith, pow_pos, le-ltb, ltb-true, ltb-false}
use native.Mathlib.Nat.{lt_of_mul-lt-mul_right, le_of_mul-le-mul_right, mul-sub}
use lib.Ieee.{of_bits, Float, nan, inf, fin, binary32, up, down, round, add, sub, mul, le, fits}
use lib.Ieee.Exact.{HasValue}
use lib.Ieee.Fits.{down_pos, round-fits}
use lib.Ieee.Positive.{num, den, positive, between, le_trans_positive, positive-finite, value→cross, le→cross}
use lib.Ieee.Scale.{grid, round_val, round_under}
use lib.Ieee.Scale.{finite as is_finite}
use Rattle.aec3_common.specs.Binary32.{greatest_value, moved}
use Rattle.aec3_common.proofs.Fitting.{Between, rounds-to-itself, rounded-at-least, rounded-at-most}
use Rattle.aec3_common.proofs.Moving.{SizeAtMost, at_most, share-small-signed}

sub-mul : (a b c : ℕ) → (a - b) * c ≡ a * c - b * c
sub-mul a b c = mul_comm (a - b) c ∙ mul-sub c a b ∙ ap (λ (z : ℕ). z - c * b) (mul_comm c a) ∙ ap (λ (z : ℕ). a * c - z) (mul_comm c b)

-- what binary32 holds is a whole number of units of 2^-149
whole-units : (x : Float) → T (positive x) → T (fits binary32 x) → num x * 2 ^ 149 ≡ grid binary32 (num x) (den x) * den x
whole-units x p t =
    let same = rounds-to-itself x p t in
    let n = grid binary32 (num x) (den x) in
    value→cross x n (2 ^ 149)
    (subst (λ (z : Float). HasValue z false n (2 ^ 149)) same
    (round_val binary32 (num x) (den x)
    (round_under binary32 (num x) (den x) (subst (λ (z : Float). T (is_finite z)) (sym same) (positive-finite x p)))))

-- so two of them are apart by one unit at least, if they are apart
unit-apart :
    (a p b q i j u : ℕ) → a * u ≡ i * p → b * u ≡ j * q → 0 < u → 0 < b * p - a * q → q * p ≤ (b * p - a * q) * u
unit-apart a p b q i j u h k some apart =
    let x : a * q * u ≡ i * (q * p) = mul_right_comm a q u ∙ ap (λ (z : ℕ). z * q) h ∙ mul_assoc i p q ∙ ap (λ (z : ℕ). i * z) (mul_comm p q) in
    let y : b * p * u ≡ j * (q * p) = mul_right_comm b p u ∙ ap (λ (z : ℕ). z * p) k ∙ mul_assoc j q p in
    let less : a * q * u < b * p * u = mul-lt-mul_of_pos_right (omega arith) some in
    let more : i < j = lt_of_mul-lt-mul_right (q * p) (omega (arith, less, x, y)) in
    let next : suc i * (q * p) ≤ j * (q * p) = mul-le-mul_right (q * p) more in
    rw (sub-mul (b * p) (a * q) u) (omega (arith, x, y, next, suc-mul i (q * p)))

-- a fraction between two numbers rounds to a number between them
between-rounded :
    {lo hi : Float} → T (positive lo) → T (positive hi) → (x y : Float) → T (positive x) → T (positive y)
    → Between lo hi x → Between lo hi y → (a c : ℕ) → 0 < c → num x * c ≤ a * den x → a * den y ≤ num y * c
    → Between lo hi (round binary32 false a c)
between-rounded {lo} {hi} p q x y s t b d a c some least most =
    let r = round binary32 false a c in
    let from : T (le x r) = rounded-at-least x a c some s b.held least in
    let to : T (le r y) = rounded-at-most a c y some t d.held most in
    let finite = between x r y s t from to in
    record {
      least = le_trans_positive lo x r p s finite b.least from;
      most = le_trans_positive r y hi finite t q to d.most;
      held = round-fits binary32 false a c;
    }

-- ---- the number M / E moves towards N / D by at most K / F

up-least : (M E K F : ℕ) → M * (E * F) ≤ (M * F + K * E) * E
up-least M E K F = rw (add-mul) (omega (arith, mul_comm E F, mul_assoc M F E))

up-most : (M E N D K F : ℕ) → M * D ≤ N * E → K * (D * E) ≤ (N * E - M * D) * F → (M * F + K * E) * D ≤ N * (E * F)
up-most M E N D K F h k =
    let less : M * D * F ≤ N * E * F = mul-le-mul_right F h in
    let step : K * E * D ≤ N * E * F - M * D * F = rw (mul_assoc K E D, mul_comm E D, ← sub-mul (N * E) (M * D) F) k in
    rw (add-mul, mul_right_comm M F D, ← mul_assoc N E F) (omega (arith, less, step))

down-within : (M E N D K F : ℕ) → 0 < D → K * (D * E) ≤ (M * D - N * E) * F → K * E ≤ M * F
down-within M E N D K F some k =
    le_of_mul-le-mul_right
    (rw (mul_assoc K E D, mul_comm E D, mul_right_comm M F D) (le_trans k (mul-le-mul_right F (sub-le (M * D) (N * E))))) some

down-most : (M E K F : ℕ) → (M * F - K * E) * E ≤ M * (E * F)
down-most M E K F = le_trans (mul-le-mul_right E (sub-le (M * F) (K * E))) (le_of_eq (mul_assoc M F E ∙ ap (λ (z : ℕ). M * z) (mul_comm F E)))

down-least : (M E N D K F : ℕ) → N * E ≤ M * D → K * (D * E) ≤ (M * D - N * E) * F → N * (E * F) ≤ (M * F - K * E) * D
down-least M E N D K F h k =
    let less : N * E * F ≤ M * D * F = mul-le-mul_right F h in
    let step : K * E * D ≤ M * D * F - N * E * F = rw (mul_assoc K E D, mul_comm E D, ← sub-mul (M * D) (N * E) F) k in
    rw (sub-mul (M * F) (K * E) D, mul_right_comm M F D, ← mul_assoc N E F) (omega (arith, less, step))

-- ---- sums and differences of two numbers with plus signs

add-plus :
    (m : ℕ) (e : ℤ) (k : ℕ) (f : ℤ)
    → add binary32 (fin false m e) (fin false k f) ≡ round binary32 false (m * up e * down f + k * up f * down e) (down e * down f)
unfolding add
add-plus m e k f = refl

add-minus :
    (m : ℕ) (e : ℤ) (k : ℕ) (f : ℤ) → k * up f * down e ≤ m * up e * down f
    → add binary32 (fin false m e) (fin true k f) ≡ round binary32 false (m * up e * down f - k * up f * down e) (down e * down f)
unfolding add
add-minus m e k f h = rw (le-ltb (m * up e * down f) (k * up f * down e) h) refl

sub-plus :
    (n : ℕ) (d : ℤ) (m : ℕ) (e : ℤ) → m * up e * down d ≤ n * up d * down e
    → sub binary32 (fin false n d) (fin false m e) ≡ round binary32 false (n * up d * down e - m * up e * down d) (down d * down e)
unfolding sub
sub-plus n d m e h = rw (le-ltb (n * up d * down e) (m * up e * down d) h) refl

sub-minus :
    (n : ℕ) (d : ℤ) (m : ℕ) (e : ℤ) → n * up d * down e < m * up e * down d
    → sub binary32 (fin false n d) (fin false m e) ≡ round binary32 true (m * up e * down d - n * up d * down e) (down d * down e)
unfolding sub
sub-minus n d m e h = rw (lt-ltb (n * up d * down e) (m * up e * down d) h) refl

-- a number of at most 2^100 is so far at most from a smaller one
apart-at-most : (a p b q : ℕ) → b * 1 ≤ 2 ^ 100 * q → b * p - a * q ≤ 2 ^ 100 * (q * p)
apart-at-most a p b q h =
    le_trans (sub-le (b * p) (a * q))
    (le_trans (mul-le-mul_right p (le_trans (le_of_eq (sym (mul-one b))) h)) (le_of_eq (mul_assoc (2 ^ 100) q p)))

-- 2^100 as a bound of the size
pub size-at-most : (x : Float) → T (positive x) → T (le x greatest_value) → num x * 1 ≤ 2 ^ 100 * den x
unfolding of_bits
size-at-most x p h = le→cross x greatest_value p tt h

-- A number that moves towards another by a share of at most a quarter of the difference does not leave what both lie between.
pub moved-stays :
    (k : ℕ) (g : ℤ) → 4 * (k * up g) ≤ down g
    → {lo hi : Float} → T (positive lo) → T (positive hi) → T (le hi greatest_value)
    → {x y : Float} → Between lo hi x → Between lo hi y → Between lo hi (moved x y (fin false k g))
unfolding moved of_bits
moved-stays k g few {lo} {hi} p q under {x} {y} b d =
    go x y (between lo x hi p q b.least b.most) (between lo y hi p q d.least d.most) b d
  where
    bounded : (z : Float) → T (positive z) → Between lo hi z → num z * 1 ≤ 2 ^ 100 * den z
    bounded z s b = size-at-most z s (le_trans_positive z hi greatest_value s q tt b.most under)

    upwards :
        (m : ℕ) (e : ℤ) (n : ℕ) (d : ℤ) → T (positive (fin false m e)) → T (positive (fin false n d))
        → Between lo hi (fin false m e) → Between lo hi (fin false n d)
        → m * up e * down d ≤ n * up d * down e
        → {z : Float} → SizeAtMost false (n * up d * down e - m * up e * down d) (down d * down e) z
        → Between lo hi (add binary32 (fin false m e) z)
    upwards m e n d s t b c h (at_most i f l) =
        rw (add-plus m e i f)
        (between-rounded p q (fin false m e) (fin false n d) s t b c
        (m * up e * down f + i * up f * down e) (down e * down f) (mul-pos (down_pos e) (down_pos f))
        (up-least (m * up e) (down e) (i * up f) (down f))
        (up-most (m * up e) (down e) (n * up d) (down d) (i * up f) (down f) h l))

    downwards :
        (m : ℕ) (e : ℤ) (n : ℕ) (d : ℤ) → T (positive (fin false m e)) → T (positive (fin false n d))
        → Between lo hi (fin false m e) → Between lo hi (fin false n d)
        → n * up d * down e ≤ m * up e * down d
        → {z : Float} → SizeAtMost true (m * up e * down d - n * up d * down e) (down d * down e) z
        → Between lo hi (add binary32 (fin false m e) z)
    downwards m e n d s t b c h (at_most i f l) =
        rw (add-minus m e i f (down-within (m * up e) (down e) (n * up d) (down d) (i * up f) (down f) (down_pos d) l))
        (between-rounded p q (fin false n d) (fin false m e) t s c b
        (m * up e * down f - i * up f * down e) (down e * down f) (mul-pos (down_pos e) (down_pos f))
        (down-least (m * up e) (down e) (n * up d) (down d) (i * up f) (down f) h l)
        (down-most (m * up e) (down e) (i * up f) (down f)))

    go :
        (x y : Float) → T (positive x) → T (positive y) → Between lo hi x → Between lo hi y
        → Between lo hi (add binary32 x (mul binary32 (fin false k g) (sub binary32 y x)))
    go nan y s t b c = absurd s
    go (inf u) y s t b c = absurd s
    go (fin true m e) y s t b c = absurd s
    go (fin false m e) nan s t b c = absurd t
    go (fin false m e) (inf u) s t b c = absurd t
    go (fin false m e) (fin true n d) s t b c = absurd t
    go (fin false m e) (fin false n d) s t b c = by-order (ltb i j) refl
      where
        i : ℕ
        i = n * up d * down e

        j : ℕ
        j = m * up e * down d

        l : ℕ
        l = down d * down e

        x-units : m * up e * 2 ^ 149 ≡ grid binary32 (m * up e) (down e) * down e
        x-units = whole-units (fin false m e) s b.held

        y-units : n * up d * 2 ^ 149 ≡ grid binary32 (n * up d) (down d) * down d
        y-units = whole-units (fin false n d) t c.held

        by-order :
            (less : Bool) → ltb i j ≡ less
            → Between lo hi (add binary32 (fin false m e) (mul binary32 (fin false k g) (sub binary32 (fin false n d) (fin false m e))))
        by-order true u =
            let h = ltb-true i j u in
            rw (sub-minus n d m e h)
            (downwards m e n d s t b c (le_of_lt h)
            (share-small-signed true k g (j - i) l few (mul-pos (down_pos d) (down_pos e))
            (λ v.
            le_trans (le_of_eq (mul_comm (down d) (down e)))
            (unit-apart (n * up d) (down d) (m * up e) (down e) _ _ (2 ^ 149) y-units x-units (pow_pos 149) v))
            (le_trans (apart-at-most (n * up d) (down d) (m * up e) (down e) (bounded (fin false m e) s b))
            (le_of_eq (ap (λ (z : ℕ). 2 ^ 100 * z) (mul_comm (down e) (down d)))))))
        by-order false u =
            let h = ltb-false i j u in
            rw (sub-plus n d m e h)
            (upwards m e n d s t b c h
            (share-small-signed false k g (i - j) l few (mul-pos (down_pos d) (down_pos e))
            (λ v. unit-apart (m * up e) (down e) (n * up d) (down d) _ _ (2 ^ 149) x-units y-units (pow_pos 149) v)
            (apart-at-most (m * up e) (down e) (n * up d) (down d) (bounded (fin false n d) t c))))
