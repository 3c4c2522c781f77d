-- A trace as records: a length L in four bytes, then L bytes, which are the record: its kind and its body.
use Rattle.std.specs.Prelude.{ℕ, zero, suc, ◌+◌, Bool, cond, ◌&&◌, List, [], ◌∷◌, leb, length, take, drop, Option, Some, None}
use Rattle.aec3_common.specs.Refusal.{from_to}
use Rattle.encoding.specs.Bytes.{word_at}

-- a whole record, without its L; or what number 10 turns away
pub data Frame : Type 0 where
  whole : List ℕ → Frame
  bad : Frame

-- the L that bytes begin with
abbrev pub length_in : List ℕ → ℕ
length_in s = word_at s 0

-- an L counts what follows it: the kind at least, and no more than 65,532 bytes
abbrev pub length_ok : ℕ → Bool
length_ok l = from_to 2 65532 l

-- number 10: the record that the bytes begin with has such an L, and is not cut short
unfoldable pub framed : List ℕ → Bool
framed s = length_ok (length_in s) && leb (4 + length_in s) (length s)

-- that record
abbrev pub record_in : List ℕ → List ℕ
record_in s = take (length_in s) (drop 4 s)

-- the records behind the first n bytes; a bad one is the last
unfoldable pub frames_from : ℕ → List ℕ → List Frame
frames_from n [] = []
frames_from (suc n) (b ∷ s) = frames_from n s
frames_from zero (b ∷ s) =
    cond (framed (b ∷ s)) (whole (record_in (b ∷ s)) ∷ frames_from (3 + length_in (b ∷ s)) s) (bad ∷ [])

-- all records of a trace
unfoldable pub frames : List ℕ → List Frame
frames s = frames_from 0 s

-- the L of the whole record that bytes begin with, where they begin with one
unfoldable pub frame_length : List ℕ → Option ℕ
frame_length s = cond (framed s) (Some (length_in s)) None

-- the same where the record itself may be yet to come: the L that the first four bytes say, where there are four and they say one that a
-- record can have
unfoldable pub length_of : List ℕ → Option ℕ
length_of s = cond (leb 4 (length s) && length_ok (length_in s)) (Some (length_in s)) None
