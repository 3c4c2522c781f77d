-- Text in ASCII, and what becomes of a list that it is written over.
use Prim.Native.Char.{code}
use Prim.Native.String.{String, [] as []ˢ, ◌∷◌ as ◌∷ˢ◌}
use Rattle.std.specs.Prelude.{ℕ, zero, suc, ◌+◌, ◌-◌, ◌/◌, ◌%◌, Bool, cond, List, [], ◌∷◌, ◌++◌, leb, ltb, length, take, drop, Option, Some, None}

-- a text's bytes; the definitions write ASCII alone
abbrev pub ascii : String → List ℕ
ascii []ˢ = []
ascii (c ∷ˢ s) = code c ∷ ascii s

-- d with s laid over it from place at on
unfoldable pub laid : List ℕ → ℕ → List ℕ → List ℕ
laid d at s = take at d ++ s ++ drop (at + length s) d

-- whether s laid over d from place at on ends within d
abbrev pub room : List ℕ → ℕ → List ℕ → Bool
room d at s = leb (at + length s) (length d)

-- What a write of s over d leaves: all of s from place at on, or, where there is no room for all, d as it was.
unfoldable pub written : List ℕ → ℕ → List ℕ → List ℕ
written d at s = cond (room d at s) (laid d at s) d

-- and the place that it answers: the one behind s, or, where there is no room for all, none
unfoldable pub place_behind : List ℕ → ℕ → List ℕ → Option ℕ
place_behind d at s = cond (room d at s) (Some (at + length s)) None

-- a digit: 0 to 9, then A to F
unfoldable pub digit : ℕ → ℕ
digit d = cond (ltb d 10) (48 + d) (65 + (d - 10))

-- the last k hexadecimal digits of n
unfoldable pub hex_digits : ℕ → ℕ → List ℕ
hex_digits zero n = []
hex_digits (suc k) n = hex_digits k (n / 16) ++ (digit (n % 16) ∷ [])

-- a number of 32 bits as eight hexadecimal digits
abbrev pub hex8 : ℕ → List ℕ
hex8 n = hex_digits 8 n

-- the last decimal digits of n, at most k, with no zeros in front
unfoldable pub decimal_digits : ℕ → ℕ → List ℕ
decimal_digits zero n = []
decimal_digits (suc k) n = cond (ltb n 10) [] (decimal_digits k (n / 10)) ++ (digit (n % 10) ∷ [])

-- a number of 32 bits in decimal: it has at most ten digits
abbrev pub decimal : ℕ → List ℕ
decimal n = decimal_digits 10 n
