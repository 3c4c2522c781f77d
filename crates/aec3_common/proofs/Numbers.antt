-- What the estimators' operations give: no NaN where none goes in, and sums of bounded size.
use Rattle.std.proofs.Common.{◌≡◌, ℕ, zero, suc, ◌+◌, ◌-◌, ◌*◌, ◌^◌, ◌<◌, ◌≤◌, Bool, true, false, cond, not, ◌&&◌, ◌||◌, T, eqb, ltb, List, [], ◌∷◌, length, ℤ, pos, negsuc, sym, refl, ap, ◌∙◌, subst, true≢false, zero-le, le_trans, le_of_eq, lt_of_lt_of_le, add-zero, le_of_lt, add-suc, mul-le-mul_right, zero-lt-suc, mul_assoc, suc-mul, add-mul, suc-add, mul-lt-mul_of_pos_right, mul-pos, one-mul, zero-mul, mul-one, mul_right_comm, sub-le, arith, lit<, lit≤, eqb→eq, ltb→lt, pow_pos, ltb-true, le-ltb}
use mathlib.Core.Bool.{beq, false≢true}
use lib.Dec.{eqb-suc-zero}
use lib.Ieee.{Float, nan, inf, fin, Format, binary32, up, down, round, sum, add, sub, mul, div, lt, le, is_nan, of_bits, to_bits, of_int}
use lib.Ieee.Back.{round_whole}
use lib.Ieee.Bits.{is_true}
use lib.Ieee.Exact.{HasValue, round_exact, units_val}
use lib.Ieee.Fits.{up_pos, down_pos, and_l, round_is}
use lib.Ieee.Order.{kept, round_mono, le_of_values}
use lib.Ieee.Order.{drop as dropped}
use lib.Ieee.Positive.{positive, le→cross, through}
use lib.Ieee.Scale.{grid, round_under}
use lib.Ieee.Scale.{finite as is_finite}
use Rattle.aec3_common.specs.Binary32.{zero32, greatest_value, greatest_sum, within, values_ok, moved}
use Rattle.std.specs.List.{list_all}
use Rattle.aec3_common.specs.Log2.{over, approx_log2}
use Rattle.aec3_common.specs.Settings.{greatest_erle}
use Rattle.aec3_common.specs.Spectra.{sum_from}
use Rattle.aec3_common.proofs.Choices.{and_left, and_right}
use Rattle.aec3_common.proofs.Rounding.{holds, Signed, infinite, finite, round-signed, round_number}

-- no NaN
abbrev pub number : Float → Bool
number x = not (is_nan x)

-- ---- numbers up to a whole number

-- a number with a plus sign, at most k
pub data UpTo (k : ℕ) : Float → Type 0 where
  up_to : (m : ℕ) (e : ℤ) → m * up e ≤ k * down e → UpTo k (fin false m e)

-- binary32 holds the whole number k
abbrev pub Whole : ℕ → Type 0
Whole k = HasValue (round binary32 false k 1) false k 1

-- the test of `le` for two sizes
pub at_most : (a b : ℕ) → T (ltb a b || (eqb a b && true)) → a ≤ b
at_most a b t = go (ltb a b) (ltb→lt a b) t
  where
    go : (less : Bool) → (T less → a < b) → T (less || (eqb a b && true)) → a ≤ b
    go true h t = le_of_lt (h tt)
    go false h t = le_of_eq (eqb→eq a b (and_l (eqb a b) true t))

-- rounding does not go above a whole number that binary32 holds
pub round-up-to : (w c k : ℕ) → 0 < c → w ≤ k * c → Whole k → UpTo k (round binary32 false w c)
unfolding le
round-up-to w c k some few whole =
    go (round-signed binary32 false w c) (round binary32 false k 1) whole
    (round_mono binary32 w c k 1 some (lit< tt) (le_trans (le_of_eq (mul-one w)) few))
  where
    go : {x : Float} → Signed false x → (y : Float) → HasValue y false k 1 → T (le x y) → UpTo k x
    go infinite nan v l = absurd v
    go infinite (inf t) v l = absurd v
    go infinite (fin t n d) v l = absurd l
    go (finite m e) nan v l = absurd v
    go (finite m e) (inf t) v l = absurd v
    go (finite m e) (fin true n d) v l = absurd (true≢false v.0)
    go (finite m e) (fin false n d) v l =
        up_to m e
        (le_trans (le_of_eq (sym (mul-one (m * up e))))
        (through (m * up e) (n * up d) k (down e) (down d) 1 (down_pos d)
        (at_most (m * up e * down d) (n * up d * down e) l)
        (le_of_eq v.1)))

-- ---- sums

-- a number from 0 to k, and minus zero
pub data Value (k : ℕ) : Float → Type 0 where
  plain : {x : Float} → UpTo k x → Value k x
  minus_zero : (e : ℤ) → Value k (fin true 0 e)

-- what lies in 0 to 2^j
value-at-most : (j : ℕ) (x : Float) → within (fin false 1 (pos j)) x ≡ true → Value (2 ^ j) x
unfolding le of_bits
value-at-most j x ok =
    let hi = fin false 1 (pos j) in
    go x (holds (and_left (le zero32 x) (le x hi) ok)) (holds (and_right (le zero32 x) (le x hi) ok))
  where
    none : (m : ℕ) (e : ℤ) → T (eqb (0 * 1 * down e) (suc m * up e * 1) && (false || eqb (0 * 1 * down e) 0)) → ⊥
    none m e t = omega (arith, eqb→eq (0 * 1 * down e) (suc m * up e * 1) (and_l (eqb (0 * 1 * down e) (suc m * up e * 1)) _ t), mul-pos (zero-lt-suc m) (up_pos e))

    go : (y : Float) → T (le zero32 y) → T (le y (fin false 1 (pos j))) → Value (2 ^ j) y
    go nan p q = absurd p
    go (inf true) p q = absurd p
    go (inf false) p q = absurd q
    go (fin true zero e) p q = minus_zero e
    go (fin true (suc m) e) p q = absurd (none m e p)
    go (fin false m e) p q =
        plain
        (up_to m e
        (le_trans (le_of_eq (sym (mul-one (m * up e))))
        (le_trans (at_most (m * up e * 1) (1 * 2 ^ j * down e) q) (le_of_eq (ap (λ (z : ℕ). z * down e) (one-mul (2 ^ j)))))))

-- what number 6 lets pass
pub value-within : (x : Float) → within greatest_value x ≡ true → Value (2 ^ 100) x
unfolding of_bits
value-within = value-at-most 100

-- what number 20 lets pass of a sum
pub sum-within : (x : Float) → within greatest_sum x ≡ true → Value (2 ^ 110) x
unfolding of_bits
sum-within = value-at-most 110

-- x / p + y / q ≤ a + b
sum-few : (x y a b p q : ℕ) → x ≤ a * p → y ≤ b * q → x * q + y * p ≤ (a + b) * (p * q)
sum-few x y a b p q h l =
    let u : x * q ≤ a * (p * q) = le_trans (mul-le-mul_right q h) (le_of_eq (mul_assoc a p q)) in
    let v : y * p ≤ b * (p * q) = le_trans (mul-le-mul_right p l) (le_of_eq (mul_right_comm b q p ∙ mul_assoc b p q)) in
    rw add-mul (omega arith)

-- a sum keeps its plus sign, and is at most the sum of the bounds
pub add-up-to : (a b : ℕ) {x y : Float} → UpTo a x → Value b y → Whole (a + b) → UpTo (a + b) (add binary32 x y)
unfolding add sum
add-up-to a b (up_to m e h) (plain (up_to n d l)) whole =
    round-up-to (m * up e * down d + n * up d * down e) (down e * down d) (a + b) (mul-pos (down_pos e) (down_pos d))
    (sum-few (m * up e) (n * up d) a b (down e) (down d) h l) whole
add-up-to a b (up_to m e h) (minus_zero d) whole =
    rw (zero-mul (up d), zero-mul (down e), le-ltb (m * up e * down d) 0 zero-le)
    (round-up-to (m * up e * down d - 0) (down e * down d) (a + b) (mul-pos (down_pos e) (down_pos d))
    (omega (arith, sum-few (m * up e) 0 a b (down e) (down d) h zero-le)) whole)

-- the same with the terms the other way round
pub add-to-up-to : (a b : ℕ) {x y : Float} → Value a x → UpTo b y → Whole (a + b) → UpTo (a + b) (add binary32 x y)
unfolding add sum
add-to-up-to a b (plain u) v whole = add-up-to a b u (plain v) whole
add-to-up-to a b (minus_zero e) (up_to n d l) whole =
    rw (zero-mul (up e), zero-mul (down d)) (go (ltb 0 (n * up d * down e)) refl)
  where
    under : (w : ℕ) → w ≤ n * up d * down e → UpTo (a + b) (round binary32 false w (down e * down d))
    under w h =
        round-up-to w (down e * down d) (a + b) (mul-pos (down_pos e) (down_pos d))
        (le_trans h (omega (arith, sum-few 0 (n * up d) a b (down e) (down d) zero-le l))) whole

    go :
        (t : Bool) → ltb 0 (n * up d * down e) ≡ t
        → UpTo (a + b) (cond t (round binary32 false (n * up d * down e - 0) (down e * down d)) (round binary32 (true && ltb (n * up d * down e) 0) (0 - n * up d * down e) (down e * down d)))
    go true q = under (n * up d * down e - 0) (sub-le (n * up d * down e) 0)
    go false q = rw (le-ltb (n * up d * down e) 0 zero-le) (under (0 - n * up d * down e) (omega arith))

-- binary32 holds small multiples of 2^100
pub whole_multiple : (n : ℕ) → n < 2 ^ 24 → Whole (n * 2 ^ 100)
whole_multiple n few =
    round_exact binary32 false (n * 2 ^ 100) 1 n 249 (lit< tt) few
    (lt_of_lt_of_le (mul-lt-mul_of_pos_right few (pow_pos 249)) (lit≤ tt))
    (mul_assoc n (2 ^ 100) (2 ^ 149) ∙ sym (mul-one (n * 2 ^ 249)))

-- the sum of no values
pub no-sum : UpTo 0 zero32
unfolding of_bits
no-sum = up_to 0 (pos 0) (lit≤ tt)

-- values added up in order, on a sum of n values
pub sum-up-to :
    (n : ℕ) (xs : List Float) {from : Float} → UpTo (n * 2 ^ 100) from → values_ok xs ≡ true → n + length xs < 2 ^ 24
    → UpTo ((n + length xs) * 2 ^ 100) (sum_from from xs)
sum-up-to n [] u ok few = rw add-zero u
sum-up-to n (x ∷ xs) {from} u ok few =
    let first = value-within x (and_left (within greatest_value x) (list_all (within greatest_value) xs) ok) in
    let whole : Whole (n * 2 ^ 100 + 2 ^ 100) = rw suc-mul at (whole_multiple (suc n) (omega arith)) in
    let more : UpTo (suc n * 2 ^ 100) (add binary32 from x) = rw suc-mul (add-up-to (n * 2 ^ 100) (2 ^ 100) u first whole) in
    rw (add-suc, ← suc-add) (sum-up-to (suc n) xs more (and_right (within greatest_value x) (list_all (within greatest_value) xs) ok) (omega arith))

-- a held sum may be any number up to 2^110
pub up-to-within : {k : ℕ} {x : Float} → UpTo k x → k ≤ 2 ^ 110 → within greatest_sum x ≡ true
unfolding of_bits
up-to-within (up_to m e h) few =
    let x = fin false m e in
    let least = le_of_values zero32 x 0 1 (m * up e) (down e) (lit< tt) (down_pos e) (refl, refl) (refl, refl) (omega arith) in
    let most =
    le_of_values x greatest_sum (m * up e) (down e) (2 ^ 110) 1 (down_pos e) (lit< tt) (refl, refl) (refl, refl)
    (le_trans (le_of_eq (mul-one (m * up e))) (le_trans h (mul-le-mul_right (down e) few))) in
    simp (is_true (le zero32 x) least, is_true (le x greatest_sum) most)

-- ---- ratios

-- a quotient by a number above zero has a plus sign
pub ratio-plus : {k : ℕ} {x : Float} → UpTo k x → (y : Float) → lt zero32 y ≡ true → Signed false (div binary32 x y)
unfolding div lt of_bits
ratio-plus (up_to m e h) nan some = absurd (false≢true some)
ratio-plus (up_to m e h) (inf true) some = absurd (false≢true some)
ratio-plus (up_to m e h) (inf false) some = finite 0 (pos 0)
ratio-plus (up_to m e h) (fin true n d) some = absurd (false≢true some)
ratio-plus (up_to m e h) (fin false zero d) some = absurd (omega (arith, ltb-true (0 * 1 * down d) (0 * up d * 1) some))
ratio-plus (up_to m e h) (fin false (suc n) d) some = rw (eqb-suc-zero n) (round-signed binary32 false (m * up e * down d) (suc n * up d * down e))

-- ---- a number that moves by a share of a difference

sum_number : (f : Format) (s : Bool) (a : ℕ) (t : Bool) (b c : ℕ) → T (number (sum f s a t b c))
unfolding sum
sum_number f s a t b c = go (beq s t) (ltb a b)
  where
    go :
        (same less : Bool)
        → T (number (cond same (round f s (a + b) c) (cond less (round f t (b - a) c) (round f (s && ltb b a) (a - b) c))))
    go true less = round_number f s (a + b) c
    go false true = round_number f t (b - a) c
    go false false = round_number f (s && ltb b a) (a - b) c

-- a multiple of a number is a number; zero times a number, if that is finite
times-number : (k : ℕ) (g : ℤ) (y : Float) → T (number y) → (eqb k 0 ≡ true → T (is_finite y)) → T (number (mul binary32 (fin false k g) y))
unfolding mul is_nan
times-number k g nan p z = absurd p
times-number k g (inf t) p z = go (eqb k 0) z
  where
    go : (none : Bool) → (none ≡ true → ⊥) → T (number (cond none nan (inf (not (beq false t)))))
    go true h = absurd (h refl)
    go false h = tt
times-number k g (fin t n d) p z = round_number binary32 (not (beq false t)) (k * up g * (n * up d)) (down g * down d)

plus-number : (m : ℕ) (e : ℤ) (y : Float) → T (number y) → T (number (add binary32 (fin false m e) y))
unfolding add is_nan
plus-number m e nan p = absurd p
plus-number m e (inf t) p = tt
plus-number m e (fin t n d) p = sum_number binary32 false (m * up e * down d) t (n * up d * down e) (down e * down d)

-- what is bounded with a plus sign is finite with a minus sign
minus-finite : (w c : ℕ) {k : ℕ} → UpTo k (round binary32 false w c) → T (is_finite (round binary32 true w c))
minus-finite w c u =
    has-finite (round binary32 true w c) (grid binary32 w c) (2 ^ 149)
    (subst (λ (z : Float). HasValue z true (grid binary32 w c) (2 ^ 149)) (sym (round_is binary32 true w c))
    (units_val binary32 true (kept 24 (w * 2 ^ 149) c) (dropped 24 (w * 2 ^ 149) c) (round_under binary32 w c (plus-finite u))))
  where
    plus-finite : {k : ℕ} {x : Float} → UpTo k x → T (is_finite x)
    plus-finite (up_to m e h) = tt

    has-finite : (x : Float) (a b : ℕ) → HasValue x true a b → T (is_finite x)
    has-finite nan a b v = v
    has-finite (inf t) a b v = v
    has-finite (fin t m e) a b v = tt

-- the difference to a smaller number is finite
less-finite :
    (n : ℕ) (d : ℤ) (m : ℕ) (e : ℤ) → lt (fin false n d) (fin false m e) ≡ true → m * up e ≤ 100000 * down e
    → T (is_finite (sub binary32 (fin false n d) (fin false m e)))
unfolding sub lt
less-finite n d m e less few =
    let a = n * up d * down e in
    let b = m * up e * down d in
    rw less
    (minus-finite (b - a) (down d * down e)
    (round-up-to (b - a) (down d * down e) 100000 (mul-pos (down_pos d) (down_pos e))
    (le_trans (sub-le b a) (le_trans (mul-le-mul_right (down d) few) (le_of_eq (mul_right_comm 100000 (down e) (down d) ∙ mul_assoc 100000 (down d) (down e)))))
    (round_whole binary32 false 100000 (lit≤ tt))))

-- A number up to 100,000 that moves by a share of the difference to a number with a plus sign is a number. The share may be
-- zero only towards a smaller one.
pub moved-number :
    (k : ℕ) (g : ℤ) (old : Float) {new : Float} → T (positive old) → T (le old greatest_erle) → Signed false new
    → (eqb k 0 ≡ true → lt new old ≡ true) → T (number (moved old new (fin false k g)))
unfolding moved sub lt is_nan of_bits
moved-number k g nan p q new less = absurd p
moved-number k g (inf s) p q new less = absurd p
moved-number k g (fin true m e) p q new less = absurd p
moved-number k g (fin false m e) p q infinite less =
    plus-number m e (mul binary32 (fin false k g) (inf false)) (times-number k g (inf false) tt (λ z. absurd (false≢true (less z))))
moved-number k g (fin false m e) p q (finite n d) less =
    let few : m * up e ≤ 100000 * down e = le_trans (le_of_eq (sym (mul-one (m * up e)))) (le→cross (fin false m e) greatest_erle p tt q) in
    let change = sub binary32 (fin false n d) (fin false m e) in
    plus-number m e (mul binary32 (fin false k g) change)
    (times-number k g change
    (sum_number binary32 false (n * up d * down e) true (m * up e * down d) (down d * down e))
    (λ z. less-finite n d m e (less z) few))

-- ---- log2

-- what has a plus sign, less a finite number
less-number : {x : Float} → Signed false x → (n : ℕ) (d : ℤ) → T (number (sub binary32 x (fin false n d)))
unfolding sub is_nan
less-number infinite n d = tt
less-number (finite m e) n d = sum_number binary32 false (m * up e * down d) true (n * up d * down e) (down e * down d)

-- Log2 is a number, whatever the bits that it is taken of.
pub log2-number : (x : Float) → T (number (approx_log2 x))
unfolding approx_log2 of_int mul
log2-number x = less-number (scaled (round-signed binary32 false (to_bits binary32 x) 1)) 16638633 (negsuc 16)
  where
    scaled : {y : Float} → Signed false y → Signed false (mul binary32 y (over 1 23))
    scaled infinite = infinite
    scaled (finite m e) = round-signed binary32 false (m * up e * 1) (down e * 2 ^ 23)
