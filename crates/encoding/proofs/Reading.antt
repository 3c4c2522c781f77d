-- Digits name their number: what is read back from them is it, and none of it is lost.
use mathlib.Core.Path.{◌≡◌, refl, ◌∙◌}
use mathlib.Core.Bool.{Bool, true, false, cond}
use mathlib.Core.List.{List, [], ◌∷◌, ◌++◌}
use Prim.Native.Nat.{ℕ, zero, suc, ◌+◌, ◌-◌, ◌*◌, ◌/◌, ◌%◌, ◌^◌, ◌<◌}
use native.Mathlib.Nat.{pow-succ'}
use native.Mathlib.Omega.{arith}
use lib.Dec.{ltb}
use borrow.Author.Tests.{lt-ltb, le-ltb, ltb-true, ltb-false}
use Rattle.encoding.specs.Text.{digit, hex_digits, hex8, decimal_digits, decimal}

-- what a digit stands for
unfoldable pub worth : ℕ → ℕ
worth c = cond (ltb c 65) (c - 48) (10 + (c - 65))

-- the number that digits name in a base, behind those that name n
unfoldable pub named : ℕ → ℕ → List ℕ → ℕ
named base n [] = n
named base n (c ∷ s) = named base (n * base + worth c) s

named-last : (base n : ℕ) (s : List ℕ) (c : ℕ) → named base n (s ++ (c ∷ [])) ≡ named base n s * base + worth c
unfolding named
named-last base n [] c = refl
named-last base n (x ∷ s) c = named-last base (n * base + worth x) s c

worth-digit : (d : ℕ) → d < 16 → worth (digit d) ≡ d
unfolding worth digit
worth-digit d h = go (ltb d 10) refl
  where
    go : (t : Bool) → ltb d 10 ≡ t → worth (cond t (48 + d) (65 + (d - 10))) ≡ d
    go true e = rw (lt-ltb (48 + d) 65 (omega (arith, ltb-true d 10 e))) (omega arith)
    go false e = rw (le-ltb (65 + (d - 10)) 65 (omega arith)) (omega (arith, ltb-false d 10 e))

hex_digits-name : (k n : ℕ) → n < 16 ^ k → named 16 0 (hex_digits k n) ≡ n
unfolding named hex_digits
hex_digits-name zero n h = omega arith
hex_digits-name (suc k) n h =
    let b : n < 16 * 16 ^ k = rw pow-succ' at h in
    named-last 16 0 (hex_digits k (n / 16)) (digit (n % 16))
    ∙ omega (arith, hex_digits-name k (n / 16) (omega arith), worth-digit (n % 16) (omega arith))

-- no digits before the last name 0, which is the tenth of a number below 10
before_last : (n : ℕ) (s : List ℕ) (t : Bool) → ltb n 10 ≡ t → named 10 0 s ≡ n / 10 → named 10 0 (cond t [] s) ≡ n / 10
unfolding named
before_last n s true e h = omega (arith, ltb-true n 10 e)
before_last n s false e h = h

decimal_digits-name : (k n : ℕ) → n < 10 ^ k → named 10 0 (decimal_digits k n) ≡ n
unfolding named decimal_digits
decimal_digits-name zero n h = omega arith
decimal_digits-name (suc k) n h =
    let b : n < 10 * 10 ^ k = rw pow-succ' at h in
    let before = before_last n (decimal_digits k (n / 10)) (ltb n 10) refl (decimal_digits-name k (n / 10) (omega arith)) in
    named-last 10 0 (cond (ltb n 10) [] (decimal_digits k (n / 10))) (digit (n % 10))
    ∙ omega (arith, before, worth-digit (n % 10) (omega arith))

pub hex8-names : (n : ℕ) → n < 2 ^ 32 → named 16 0 (hex8 n) ≡ n
hex8-names n h = hex_digits-name 8 n h

pub decimal-names : (n : ℕ) → n < 2 ^ 32 → named 10 0 (decimal n) ≡ n
decimal-names n h = decimal_digits-name 10 n (omega arith)
