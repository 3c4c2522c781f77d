-- Digits that are written into a table from its end towards its front.
use mathlib.Core.Path.{◌≡◌, refl, ap, ◌∙◌}
use mathlib.Core.Bool.{Bool, true, false, cond}
use mathlib.Core.List.{List, [], ◌∷◌, ◌++◌}
use Prim.Native.Nat.{ℕ, zero, suc, ◌-◌, ◌*◌, ◌/◌, ◌%◌, ◌^◌, ◌≤◌, ◌<◌}
use native.Mathlib.Omega.{arith}
use lib.Dec.{ltb}
use lib.ListN.{get_or, length, set, take, drop, length-set, length-drop, length-append}
use lib.Seq.{ext_get_or, drop-cons, get_or-set_same, drop-set-lt, take_all, append_snoc}
use borrow.Author.Tests.{lt-ltb, le-ltb}
use Rattle.encoding.specs.Text.{digit, hex_digits, hex8, decimal_digits, decimal}

-- What a loop has written of a text: what is left of it, and the table from its place on, are the text.
pub record Spelt (size : ℕ) (left text table : List ℕ) (from : ℕ) : Type 0 where
  pub long : length table ≡ size
  pub within : from ≤ size
  pub whole : left ++ drop from table ≡ text

-- a part of a table up to its end
pub part-is : (l : List ℕ) (k n : ℕ) → length l ≡ n → take (n - k) (drop k l) ≡ drop k l
part-is l k n e = take_all (n - k) (drop k l) (omega (arith, length-drop k l))

-- a table with x at j, from j on
from-set : (l : List ℕ) (j x : ℕ) → j < length l → drop j (set l j x) ≡ x ∷ drop (suc j) l
from-set l j x h =
    drop-cons (set l j x) j 0 (omega (arith, length-set l j x)) ∙ rw (get_or-set_same l j x 0 h, drop-set-lt (suc j) l j x (omega arith))

-- the last byte of what is left goes into the table
pub spelt-more : {size : ℕ} {left text table : List ℕ} {from : ℕ} (left' : List ℕ) (x : ℕ) → Spelt size left text table from → 0 < from → left ≡ left' ++ (x ∷ []) → Spelt size left' text (set table (from - 1) x) (from - 1)
spelt-more {from = zero} left' x w h e = absurd (omega arith)
spelt-more {table = table} {from = suc j} left' x w h e =
    let p : suc j - 1 ≡ j = omega arith in
    rw p
    record {
      long = length-set table j x ∙ w.long;
      within = omega (arith, w.within);
      whole = rw (from-set table j x (omega (arith, w.long, w.within)), ← append_snoc, ← e) w.whole;
    }

-- nothing is left: the table from its place on is the text
pub spelt-all : {size : ℕ} {left text table : List ℕ} {from : ℕ} → Spelt size left text table from → left ≡ [] → drop from table ≡ text
spelt-all w e = rw e at w.whole

-- at the table's front the table is
pub spelt-front : {size : ℕ} {left text table : List ℕ} {from : ℕ} → Spelt size left text table from → left ≡ [] → from ≤ 0 → table ≡ text
spelt-front {from = zero} w e h = spelt-all w e
spelt-front {from = suc j} w e h = absurd (omega arith)

-- a table whose entries are the digits of a number of 32 bits is their text
pub hex8-is : (n : ℕ) (l : List ℕ) → length l ≡ 8 → ((i : ℕ) → i < 8 → get_or l i 0 ≡ digit (n / 2 ^ (28 - 4 * i) % 16)) → l ≡ hex8 n
unfolding hex_digits
hex8-is n l long each = ext_get_or 0 l (hex8 n) long at
  where
    at : (i : ℕ) → i < length l → get_or l i 0 ≡ get_or (hex8 n) i 0
    at zero h = each 0 (omega arith) ∙ ap (λ q. digit (q % 16)) (omega arith)
    at (suc zero) h = each 1 (omega arith) ∙ ap (λ q. digit (q % 16)) (omega arith)
    at (suc (suc zero)) h = each 2 (omega arith) ∙ ap (λ q. digit (q % 16)) (omega arith)
    at (suc (suc (suc zero))) h = each 3 (omega arith) ∙ ap (λ q. digit (q % 16)) (omega arith)
    at (suc (suc (suc (suc zero)))) h = each 4 (omega arith) ∙ ap (λ q. digit (q % 16)) (omega arith)
    at (suc (suc (suc (suc (suc zero))))) h = each 5 (omega arith) ∙ ap (λ q. digit (q % 16)) (omega arith)
    at (suc (suc (suc (suc (suc (suc zero)))))) h = each 6 (omega arith) ∙ ap (λ q. digit (q % 16)) (omega arith)
    at (suc (suc (suc (suc (suc (suc (suc zero))))))) h = each 7 (omega arith) ∙ ap (λ q. digit (q % 16)) (omega arith)
    at (suc (suc (suc (suc (suc (suc (suc (suc i)))))))) h = absurd (omega (arith, long))

-- the last k decimal digits of a number of two digits or more are its tenth's, and the last one
pub decimal-last : (k n : ℕ) → 0 < k → 10 ≤ n → decimal_digits k n ≡ decimal_digits (k - 1) (n / 10) ++ (digit (n % 10) ∷ [])
unfolding decimal_digits
decimal-last zero n h b = absurd (omega arith)
decimal-last (suc k) n h b =
    let p : suc k - 1 ≡ k = omega arith in
    rw (le-ltb n 10 b, p)

-- one of one digit has nothing before it
pub decimal-short : (k n : ℕ) → 0 < k → n < 10 → decimal_digits k n ≡ [] ++ (digit (n % 10) ∷ [])
unfolding decimal_digits
decimal-short zero n h b = absurd (omega arith)
decimal-short (suc k) n h b = rw (lt-ltb n 10 b)

pub decimal-none : (k n : ℕ) → k ≤ 0 → decimal_digits k n ≡ []
unfolding decimal_digits
decimal-none zero n h = refl
decimal-none (suc k) n h = absurd (omega arith)

-- how long the two texts are
pub length-hex8 : (n : ℕ) → length (hex8 n) ≡ 8
unfolding hex_digits
length-hex8 n = refl

one_more : (t : Bool) (s : List ℕ) (x k : ℕ) → length s ≤ k → length (cond t [] s ++ (x ∷ [])) ≤ suc k
one_more true s x k h = omega arith
one_more false s x k h = omega (arith, length-append s (x ∷ []))

length-decimal_digits : (k n : ℕ) → length (decimal_digits k n) ≤ k
unfolding decimal_digits
length-decimal_digits zero n = omega arith
length-decimal_digits (suc k) n =
    one_more (ltb n 10) (decimal_digits k (n / 10)) (digit (n % 10)) k (length-decimal_digits k (n / 10))

pub length-decimal : (n : ℕ) → length (decimal n) ≤ 10
length-decimal n = length-decimal_digits 10 n
