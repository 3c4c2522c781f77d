-- Tests joined by && and ||, choices between two values, and the first refusal of a chain.
use Rattle.std.proofs.Common.{◌≡◌, ℕ, zero, suc, Bool, true, false, cond, ◌&&◌, sym, refl, arith, ne_eqb}
use mathlib.Core.Bool.{false≢true}
use Rattle.aec3_common.specs.Refusal.{unless, first_of}

pub and_left : (a b : Bool) → a && b ≡ true → a ≡ true
and_left true b e = refl
and_left false b e = e

pub and_right : (a b : Bool) → a && b ≡ true → b ≡ true
and_right true b e = e
and_right false b e = absurd (false≢true e)

pub and-true : (a : Bool) → a && true ≡ a
and-true true = refl
and-true false = refl

pub and-false : (a : Bool) → a && false ≡ false
and-false true = refl
and-false false = refl

pub and_assoc : (a b c : Bool) → (a && b) && c ≡ a && (b && c)
and_assoc true b c = refl
and_assoc false b c = refl

pub and_comm : (a b : Bool) → a && b ≡ b && a
and_comm true b = sym (and-true b)
and_comm false b = sym (and-false b)

-- joined tests that pass, one by one
pub each-of-three : (a b c : Bool) → a && b && c ≡ true → (a ≡ true) × (b ≡ true) × (c ≡ true)
each-of-three a b c e =
    let ab = and_left (a && b) c e in
    (and_left a b ab, and_right a b ab, and_right (a && b) c e)

pub each-of-four : (a b c d : Bool) → a && b && c && d ≡ true → (a ≡ true) × (b ≡ true) × (c ≡ true) × (d ≡ true)
each-of-four a b c d e =
    let (p, q, r) = each-of-three a b c (and_left (a && b && c) d e) in
    (p, q, r, and_right (a && b && c) d e)

-- what both values have, their choice has
pub cond_has : {A : Type 0} (P : A → Type 0) (t : Bool) {x y : A} → (t ≡ true → P x) → (t ≡ false → P y) → P (cond t x y)
cond_has P true p q = p refl
cond_has P false p q = q refl

-- an equation with a choice, by cases of the test
pub cond-by : {A : Type 0} (t : Bool) (r x y : A) → (t ≡ true → r ≡ x) → (t ≡ false → r ≡ y) → r ≡ cond t x y
cond-by true r x y a b = a refl
cond-by false r x y a b = b refl

-- choices whose first values are the same where the test holds
pub cond_same : {A : Type 0} (t : Bool) (z : A) {x y : A} → (t ≡ true → x ≡ y) → cond t x z ≡ cond t y z
cond_same true z e = e refl
cond_same false z e = refl

-- a choice under two tests of which one fails
pub cond-neither : {A : Type 0} (a b : Bool) (x y : A) → a && b ≡ false → y ≡ cond a (cond b x y) y
cond-neither true true x y e = absurd (false≢true (sym e))
cond-neither true false x y e = refl
cond-neither false b x y e = refl

-- a test whose failure has a number has passed where the chain says 0
pub passed : (t : Bool) (n later : ℕ) → unless t (suc n) later ≡ 0 → t ≡ true
passed true n later e = refl
passed false n later e = absurd (omega arith)

-- and the later tests have passed too
pub later-passed : (t : Bool) (n later : ℕ) → unless t (suc n) later ≡ 0 → later ≡ 0
later-passed true n later e = e
later-passed false n later e = absurd (omega arith)

-- nor has the first of two refusals, nor the later one
pub first-of-passed : (n later : ℕ) → first_of n later ≡ 0 → (n ≡ 0) × (later ≡ 0)
first-of-passed zero later e = (refl, e)
first-of-passed (suc n) later e = absurd (omega (arith, rw (ne_eqb (suc n) 0 (λ p. omega arith)) at e))
