-- Places in a ring of slots.
use Rattle.std.specs.Prelude.{Bool, cond, List, [], ◌∷◌, ℕ, ◌+◌, leb, ltb, ℤ, pos, nat_abs, ◌+ℤ◌, Result, Ok, Err}
use Rattle.std.specs.Int.Signed.{lt_z, rem_z}
use Rattle.aec3_common.specs.Answers.{answer_case}
use Rattle.aec3_common.specs.Refusal.{from_to, unless, accepted, bad_ring, bad_place, bad_offset}

-- the most slots that a ring has
abbrev pub max_slots : ℕ
max_slots = 32

-- the next place; after the last it is 0
unfoldable pub next_place : ℕ → ℕ → ℕ
next_place size index = cond (ltb (index + 1) size) (index + 1) 0

-- a negative remainder gains the ring size
abbrev pub non_negative : ℕ → ℤ → ℤ
non_negative size r = cond (lt_z r (pos 0)) (r +ℤ pos size) r

-- the place at an offset: the remainder of the sum, which takes the sign of the sum, made non-negative
unfoldable pub offset_place : ℕ → ℕ → ℤ → ℕ
offset_place size index offset = nat_abs (non_negative size (rem_z (pos index +ℤ offset) (pos size)))

-- number 4, of the slots alone
abbrev pub slots_ok : ℕ → Bool
slots_ok size = from_to 1 max_slots size

-- number 9: a place not below the slots
abbrev pub place_ok : ℕ → ℕ → Bool
place_ok size index = ltb index size

-- the largest size of an offset: the ring's
abbrev pub max_offset : ℕ → ℕ
max_offset size = size

-- number 8: an offset larger in size than the ring
abbrev pub offset_ok : ℕ → ℤ → Bool
offset_ok size offset = leb (nat_abs offset) (max_offset size)

-- the first of 4 and 9, and then what the later tests say
abbrev pub place_refusal : ℕ → ℕ → ℕ → ℕ
place_refusal size index later = unless (slots_ok size) bad_ring (unless (place_ok size index) bad_place later)

-- 4, 9; and 4, 9, 8
unfoldable pub next_refusal : ℕ → ℕ → ℕ
next_refusal size index = place_refusal size index accepted

unfoldable pub offset_refusal : ℕ → ℕ → ℤ → ℕ
offset_refusal size index offset = place_refusal size index (unless (offset_ok size offset) bad_offset accepted)

unfoldable pub next_answer : ℕ → ℕ → Result ℕ ℕ
next_answer size index = answer_case (next_refusal size index) (next_place size index)

unfoldable pub offset_answer : ℕ → ℕ → ℤ → Result ℕ ℕ
offset_answer size index offset = answer_case (offset_refusal size index offset) (offset_place size index offset)

-- the answer's case read back: its number, and its place
abbrev pub place_number : Result ℕ ℕ → ℕ
place_number (Ok p) = accepted
place_number (Err n) = n

abbrev pub place_value : Result ℕ ℕ → List ℕ
place_value (Ok p) = p ∷ []
place_value (Err n) = []
