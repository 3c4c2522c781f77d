-- The order of binary32 numbers with positive ones, and what rounding keeps of a sign.
use Rattle.std.proofs.Common.{◌≡◌, ℕ, zero, suc, ◌+◌, ◌*◌, ◌^◌, ◌<◌, ◌≤◌, Bool, true, false, cond, not, ◌&&◌, ◌||◌, T, eqb, ltb, ℤ, pos, sym, subst, inl, inr, eq-or-lt_of_le, mul-pos, arith, ltb→lt, lt→ltb, nltb→le, T_not}
use lib.Dec.{eqb_refl}
use lib.Ieee.{Float, nan, inf, fin, Format, prec, emax, low, up, down, odd, units, round, lt, le, is_nan}
use lib.Ieee.Fits.{up_pos, down_pos, and_i, round_is}
use lib.Ieee.Positive.{positive}

-- ---- tests

or_left : (a b : Bool) → T a → T (a || b)
or_left true b t = tt
or_left false b t = absurd t

or_right : (a b : Bool) → T b → T (a || b)
or_right true b t = tt
or_right false b t = t

pub failed : {t : Bool} → t ≡ false → T (not t)
failed e = subst (λ (t : Bool). T (not t)) (sym e) tt

pub holds : {t : Bool} → t ≡ true → T t
holds e = subst T (sym e) tt

-- below or level
at_most : (a b : ℕ) → b ≤ a → T (ltb b a || (eqb b a && true))
at_most a b h = elim (eq-or-lt_of_le h) [
  | inl e ↦ or_right (ltb b a) (eqb b a && true) (and_i (eqb b a) true (subst (λ (x : ℕ). T (eqb b x)) e (eqb_refl b)) tt)
  | inr l ↦ or_left (ltb b a) (eqb b a && true) (lt→ltb b a l)
]

-- the size of a positive number beside another's denominator
size-pos : (m : ℕ) (e d : ℤ) → T (ltb 0 m) → 0 < m * up e * down d
size-pos m e d p = mul-pos (mul-pos (ltb→lt 0 m p) (up_pos e)) (down_pos d)

more-pos : (a b : ℕ) → 0 < b → 0 < a + b
more-pos a b h = omega arith

-- ---- a number that is not on one side of a positive one is on the other

pub at-least-if-not-below : (lo x : Float) → T (positive lo) → T (not (is_nan x)) → T (not (lt x lo)) → T (le lo x)
unfolding lt le is_nan
at-least-if-not-below nan x p q h = absurd p
at-least-if-not-below (inf s) x p q h = absurd p
at-least-if-not-below (fin true m e) x p q h = absurd p
at-least-if-not-below (fin false m e) nan p q h = absurd q
at-least-if-not-below (fin false m e) (inf true) p q h = absurd h
at-least-if-not-below (fin false m e) (inf false) p q h = tt
at-least-if-not-below (fin false m e) (fin true n d) p q h =
    let a = n * up d * down e in
    let b = m * up e * down d in
    absurd (T_not (ltb 0 (a + b)) h (lt→ltb 0 (a + b) (more-pos a b (size-pos m e d p))))
at-least-if-not-below (fin false m e) (fin false n d) p q h =
    at_most (n * up d * down e) (m * up e * down d) (nltb→le (n * up d * down e) (m * up e * down d) h)

pub at-most-if-not-above : (hi x : Float) → T (positive hi) → T (positive x) → T (not (lt hi x)) → T (le x hi)
unfolding lt le
at-most-if-not-above nan x p q h = absurd p
at-most-if-not-above (inf s) x p q h = absurd p
at-most-if-not-above (fin true m e) x p q h = absurd p
at-most-if-not-above (fin false m e) nan p q h = absurd q
at-most-if-not-above (fin false m e) (inf t) p q h = absurd q
at-most-if-not-above (fin false m e) (fin true n d) p q h = absurd q
at-most-if-not-above (fin false m e) (fin false n d) p q h =
    at_most (m * up e * down d) (n * up d * down e) (nltb→le (m * up e * down d) (n * up d * down e) h)

-- ---- rounding keeps a sign, and gives a number

-- an infinity or a finite number with the sign s
pub data Signed (s : Bool) : Float → Type 0 where
  infinite : Signed s (inf s)
  finite : (m : ℕ) (e : ℤ) → Signed s (fin s m e)

abbrev pub Minus : Float → Type 0
Minus = Signed true

odd-signed : (d : ℕ) (s : Bool) (q k l : ℕ) → Signed s (odd d s q k l)
unfolding odd
odd-signed d s zero k l = finite zero (pos zero)
odd-signed d s (suc q) k l = finite _ _

units-signed : (f : Format) (s : Bool) (q k : ℕ) → Signed s (units f s q k)
unfolding units
units-signed f s q k = either (ltb (q * 2 ^ k) (2 ^ (low f + suc (emax f))))
  where
    either : (t : Bool) → Signed s (cond t (odd (suc (prec f)) s q k (low f)) (inf s))
    either true = odd-signed (suc (prec f)) s q k (low f)
    either false = infinite

pub round-signed : (f : Format) (s : Bool) (a c : ℕ) → Signed s (round f s a c)
round-signed f s a c = subst (Signed s) (sym (round_is f s a c)) (units-signed f s _ _)

pub round-minus : (f : Format) (a c : ℕ) → Minus (round f true a c)
round-minus f a c = round-signed f true a c

pub signed-number : {s : Bool} {x : Float} → Signed s x → T (not (is_nan x))
unfolding is_nan
signed-number infinite = tt
signed-number (finite m e) = tt

pub round_number : (f : Format) (s : Bool) (a c : ℕ) → T (not (is_nan (round f s a c)))
round_number f s a c = signed-number (round-signed f s a c)

-- a number with a minus sign is below every positive one
pub minus-below : {y : Float} → Minus y → (x : Float) → T (positive x) → T (lt y x)
unfolding lt
minus-below infinite nan p = absurd p
minus-below infinite (inf s) p = absurd p
minus-below infinite (fin s m e) p = tt
minus-below (finite n d) nan p = absurd p
minus-below (finite n d) (inf s) p = absurd p
minus-below (finite n d) (fin true m e) p = absurd p
minus-below (finite n d) (fin false m e) p =
    lt→ltb 0 (n * up d * down e + m * up e * down d) (more-pos (n * up d * down e) (m * up e * down d) (size-pos m e d p))
