-- The starred bench values: what document 01 gives, beside what the definitions give.
use Rattle.std.specs.Prelude.{◌≡◌, true, List, [], ◌∷◌, map, ℕ, suc, ◌^◌, ℤ, pos, negsuc, get_or, take, Result, Ok, Err}
use Rattle.std.specs.Float.{nan, binary32}
use Rattle.std.specs.Float.Ieee.{of_bits, to_bits, to_unsigned}
use Rattle.aec3_common.specs.Lists.{tab}
use Rattle.aec3_common.specs.Log2.{rounded, log2_answer, log2_number, log2_bits}
use Rattle.aec3_common.specs.Refusal.{accepted}
use Rattle.spectrum_buffer.specs.Ring.{offset_answer, place_number, place_value}
use Rattle.erl_estimator.specs.Erl.{started, update_answer}
use Rattle.filter_sections.specs.Sections.{sections_answer}

-- A row: the number of the answer, 0 where the call is accepted, and the values behind it; as given and as defined.
pub record Row : Type 0 where
  pub given : List ℕ
  pub defined : List ℕ

-- log2 of the number with these bits, by the bits
abbrev pub log2_row : List ℕ → ℕ → Row
log2_row given bits =
    let a = log2_answer (of_bits binary32 bits) in
    record { given = given; defined = log2_number a ∷ log2_bits a }

-- a whole number rounded to binary32, as a whole number
abbrev pub rounded_row : List ℕ → ℕ → Row
rounded_row given n = record { given = given; defined = 0 ∷ to_unsigned 32 (rounded n) ∷ [] }

-- a place in a ring at an offset
abbrev pub ring_row : List ℕ → ℕ → ℕ → ℤ → Row
ring_row given size index offset =
    let a = offset_answer size index offset in
    record { given = given; defined = place_number a ∷ place_value a }

-- the number of an answer, and where it is accepted the boundaries of n sections
abbrev pub sections_numbers : ℕ → Result (List ℕ) ℕ → List ℕ
sections_numbers n (Ok boundaries) = accepted ∷ take (suc n) boundaries
sections_numbers n (Err number) = number ∷ []

-- the boundaries of so many sections of so many blocks, without headroom
abbrev pub sections_row : List ℕ → ℕ → ℕ → Row
sections_row given n blocks = record { given = given; defined = sections_numbers n (sections_answer n blocks 0) }

-- band 1 of an ERL estimator, by its bits, after a first block of render 2^26 and capture 0 in every band; 900 is 0x4461_0000
abbrev pub erl_row : List ℕ → Row
erl_row given =
    let a = update_answer (started 0) 1 1 (true ∷ []) (tab 65 (λ k. rounded (2 ^ 26))) (tab 65 (λ k. rounded 0)) in
    record { given = given; defined = a.refused ∷ to_bits binary32 (get_or a.state.erl 1 nan) ∷ [] }

unfoldable pub table : List Row
table =
    log2_row (0 ∷ 0x3d6a_b800 ∷ []) 0x3f80_0000
    ∷ log2_row (0 ∷ 0x4003_aae0 ∷ []) 0x4080_0000
    ∷ rounded_row (0 ∷ 16777216 ∷ []) 16777217
    ∷ ring_row (0 ∷ 3 ∷ []) 5 3 (negsuc 4)
    ∷ ring_row (0 ∷ 4 ∷ []) 5 0 (negsuc 0)
    ∷ ring_row (0 ∷ 4 ∷ []) 5 4 (pos 5)
    ∷ ring_row (8 ∷ []) 5 0 (pos 6)
    ∷ sections_row (0 ∷ 0 ∷ 2 ∷ 6 ∷ 13 ∷ []) 3 13
    ∷ sections_row (3 ∷ []) 3 2
    ∷ erl_row (0 ∷ 0x4461_0000 ∷ [])
    ∷ []

-- Claim: in every row of the table the definitions give what document 01 gives.
unfoldable pub BenchTable : Type 0
BenchTable = map (λ (r : Row). r.defined) table ≡ map (λ (r : Row). r.given) table
