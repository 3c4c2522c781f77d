-- Lists as a record holds them.
use Rattle.std.specs.Prelude.{ℕ, zero, suc, ◌≡◌, ◌/◌, Bool, eqb, List, [], ◌∷◌, length, drop, map, Float}
use Rattle.std.specs.Float.{binary32}
use Rattle.std.specs.Float.Ieee.{of_bits}
use Rattle.encoding.specs.Bytes.{word_at}

-- what lies behind the first n numbers of 32 bits, and the number with so many before it
abbrev pub past : ℕ → List ℕ → List ℕ
past zero s = s
past (suc n) s = past n (drop 4 s)

abbrev pub nth_word : ℕ → List ℕ → ℕ
nth_word n s = word_at (past n s) 0

-- the first n numbers of 32 bits, one behind the other
abbrev pub first_words : ℕ → List ℕ → List ℕ
first_words zero s = []
first_words (suc n) s = word_at s 0 ∷ first_words n (drop 4 s)

-- as many as the bytes hold
unfoldable pub words_in : List ℕ → List ℕ
words_in s = first_words (length s / 4) s

-- the figures with these bits
abbrev pub floats_in : List ℕ → List Float
floats_in s = map (of_bits binary32) (words_in s)

-- a flag for each byte
abbrev pub flags_in : List ℕ → List Bool
flags_in s = map (λ byte. eqb byte 1) s

-- value is the function that a closure computes: what each of its calls answers
abbrev pub Computes : {T : Type 0} → (ℕ → T → Type 0) → (ℕ → T) → Type 0
Computes post value = (n : ℕ) (t : _) → post n t → t ≡ value n
