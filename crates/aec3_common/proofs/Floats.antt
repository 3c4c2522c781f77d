-- What a comparison tells of a binary32 number, and what the larger and the smaller of two have and are not below.
use Rattle.std.proofs.Common.{◌≡◌, ℕ, ◌+◌, ◌*◌, ◌≤◌, Bool, true, false, not, ◌||◌, ◌&&◌, T, ltb, eqb, refl, le_refl, arith, lt-ltb, le-ltb, eq-eqb, ne_eqb, ltb-false}
use mathlib.Core.Bool.{false≢true}
use lib.Ieee.{Float, nan, inf, fin, up, down, below, level, lt, le, is_nan}
use Rattle.aec3_common.specs.Binary32.{larger, smaller, is_finite}
use Rattle.aec3_common.proofs.Choices.{cond_has}

-- a number above another is no NaN
pub above-is-number : (x y : Float) → lt x y ≡ true → T (not (is_nan y))
unfolding is_nan lt
above-is-number nan y e = absurd (false≢true e)
above-is-number (inf s) nan e = absurd (false≢true e)
above-is-number (inf s) (inf t) e = tt
above-is-number (inf s) (fin t n d) e = tt
above-is-number (fin s m z) nan e = absurd (false≢true e)
above-is-number (fin s m z) (inf t) e = tt
above-is-number (fin s m z) (fin t n d) e = tt

is-no-nan : (x : Float) → is_finite x ≡ true → T (not (is_nan x))
unfolding is_nan
is-no-nan nan e = absurd (false≢true e)
is-no-nan (inf s) e = absurd (false≢true e)
is-no-nan (fin s m z) e = tt

-- a number is not below itself
pub not-below-itself : (x : Float) → T (not (is_nan x)) → le x x ≡ true
unfolding is_nan le
not-below-itself nan some = absurd some
not-below-itself (inf true) some = refl
not-below-itself (inf false) some = refl
not-below-itself (fin true m e) some = let a = m * up e * down e in simp (le-ltb a a (le_refl a), eq-eqb a a refl)
not-below-itself (fin false m e) some = let a = m * up e * down e in simp (le-ltb a a (le_refl a), eq-eqb a a refl)

pub not-below-if-above : (x y : Float) → lt x y ≡ true → le x y ≡ true
unfolding le
not-below-if-above x y e = rw e

-- ---- of two numbers, one is not above the other

both-zero : (a b : ℕ) → b + a ≤ 0 → eqb b a && eqb b 0 ≡ true
both-zero a b h =
    let a-zero : a ≡ 0 = omega arith in
    let b-zero : b ≡ 0 = omega arith in
    rw (a-zero, b-zero)

below-or-level : (s t : Bool) (a b : ℕ) → below s a t b ≡ false → below t b s a || level t b s a ≡ true
below-or-level false false a b h = grind (arith, ltb-false a b h, le-ltb, lt-ltb, eq-eqb, ne_eqb)
below-or-level false true a b h = go (ltb 0 (b + a)) refl
  where
    go : (t : Bool) → ltb 0 (b + a) ≡ t → t || (eqb b a && eqb b 0) ≡ true
    go true e = refl
    go false e = both-zero a b (ltb-false 0 (b + a) e)
below-or-level true false a b h = both-zero a b (omega (arith, ltb-false 0 (a + b) h))
below-or-level true true a b h = grind (arith, ltb-false b a h, le-ltb, lt-ltb, eq-eqb, ne_eqb)

-- a number that is not below another is at least that
pub at-least-if-not-below-it : (x y : Float) → is_finite x ≡ true → is_finite y ≡ true → lt x y ≡ false → le y x ≡ true
unfolding lt le
at-least-if-not-below-it nan y p q h = absurd (false≢true p)
at-least-if-not-below-it (inf s) y p q h = absurd (false≢true p)
at-least-if-not-below-it (fin s m e) nan p q h = absurd (false≢true q)
at-least-if-not-below-it (fin s m e) (inf t) p q h = absurd (false≢true q)
at-least-if-not-below-it (fin s m e) (fin t n d) p q h = below-or-level s t (m * up e * down d) (n * up d * down e) h

-- ---- the larger and the smaller of two

-- what two have, the larger and the smaller have
pub larger-has : (P : Float → Type 0) {x y : Float} → P x → P y → P (larger x y)
unfolding larger
larger-has P {x} {y} p q = cond_has P (lt x y) (λ e. q) (λ e. p)

pub smaller-has : (P : Float → Type 0) {x y : Float} → P x → P y → P (smaller x y)
unfolding smaller
smaller-has P {x} {y} p q = cond_has P (lt y x) (λ e. q) (λ e. p)

-- the larger of a number and anything else is not below the number
pub larger-not-below : (x y : Float) → T (not (is_nan x)) → le x (larger x y) ≡ true
unfolding larger
larger-not-below x y some =
    cond_has (λ (z : Float). le x z ≡ true) (lt x y) (not-below-if-above x y) (λ e. not-below-itself x some)

-- the larger of two numbers is not below the second, and the smaller not above it
pub larger-not-below-second : (x y : Float) → is_finite x ≡ true → is_finite y ≡ true → le y (larger x y) ≡ true
unfolding larger
larger-not-below-second x y p q =
    cond_has (λ (z : Float). le y z ≡ true) (lt x y) (λ e. not-below-itself y (is-no-nan y q)) (at-least-if-not-below-it x y p q)

pub smaller-not-above-second : (x y : Float) → is_finite x ≡ true → is_finite y ≡ true → le (smaller x y) y ≡ true
unfolding smaller
smaller-not-above-second x y p q =
    cond_has (λ (z : Float). le z y ≡ true) (lt y x) (λ e. not-below-itself y (is-no-nan y q)) (at-least-if-not-below-it y x q p)
