-- Log2, by the bits of its input.
use Rattle.std.specs.Prelude.{ℕ, false, List, [], ◌∷◌, pos, neg_ℤ, to_bits, Float, Result, Ok, Err}
use Rattle.std.specs.Float.{fin, binary32}
use Rattle.std.specs.Float.Ieee.{of_int, mul, sub, lt}
use Rattle.aec3_common.specs.Answers.{answer_case}
use Rattle.aec3_common.specs.Binary32.{zero32}
use Rattle.aec3_common.specs.Refusal.{unless, accepted, bad_log2_input}

-- a whole number rounded to binary32, ties to even
abbrev pub rounded : ℕ → Float
rounded n = of_int binary32 (pos n)

-- m / 2^k, for an odd m
abbrev pub over : ℕ → ℕ → Float
over m k = fin false m (neg_ℤ (pos k))

-- The input's 32 bits, as a whole number, are rounded to binary32, multiplied by 2^-23, and 16,638,633/131,072 is subtracted.
unfoldable pub approx_log2 : Float → Float
approx_log2 x = sub binary32 (mul binary32 (rounded (to_bits binary32 x)) (over 1 23)) (over 16638633 17)

-- number 7: log2 of NaN, zero or less; plus infinity is accepted
abbrev pub log2_refusal : Float → ℕ
log2_refusal x = unless (lt zero32 x) bad_log2_input accepted

unfoldable pub log2_answer : Float → Result Float ℕ
log2_answer x = answer_case (log2_refusal x) (approx_log2 x)

-- the answer's case read back: its number, and its value's bits
abbrev pub log2_number : Result Float ℕ → ℕ
log2_number (Ok x) = accepted
log2_number (Err n) = n

abbrev pub log2_bits : Result Float ℕ → List ℕ
log2_bits (Ok x) = to_bits binary32 x ∷ []
log2_bits (Err n) = []
