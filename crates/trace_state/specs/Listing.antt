-- The listing of a trace.
use Rattle.std.specs.Prelude.{cond, List, [], ◌∷◌, ◌++◌, map, ℕ, ◌-◌, eqb, leb, length}
use Rattle.aec3_common.specs.Counts.{one_more}
use Rattle.aec3_common.specs.Refusal.{accepted, bad_frame}
use Rattle.trace_records.specs.Frames.{Frame, whole, bad, frames}
use Rattle.trace_records.specs.Records.{Record, decoded}
use Rattle.trace_records.specs.Judge.{refusal_in}
use Rattle.trace_text.specs.Text.{Item, refused, header, line, lines}
use Rattle.trace_state.specs.declared.Trace.{Trace}
use Rattle.trace_state.specs.Apply.{standing_of, beginning, next_of, rows_of}

-- the record that bytes hold under what stands, and the number under which it is turned away, or 0
abbrev pub record_at : Trace → List ℕ → Record
record_at t s = decoded (standing_of t) s

abbrev pub refusal_at : Trace → List ℕ → ℕ
refusal_at t s = refusal_in (standing_of t) s

-- the item of a record that is refused: R counts it too
abbrev pub refused_at : Trace → ℕ → Item
refused_at t number = refused number (one_more t.records)

-- what the records of a trace give: each its rows, and what follows it; a bad record ends the run
unfoldable pub items_of : Trace → List Frame → List Item
items_of t [] = []
items_of t (whole s ∷ fs) =
    let r = record_at t s in
    cond (eqb (refusal_at t s) accepted) (rows_of t r ++ items_of (next_of t r) fs) (refused_at t (refusal_at t s) ∷ [])
items_of t (bad ∷ fs) = refused_at t bad_frame ∷ []

-- all that a trace gives
abbrev pub items_in : List ℕ → List Item
items_in s = items_of beginning (frames s)

-- the listing of a trace: the header first, on empty input too
unfoldable pub listing : List ℕ → List ℕ
listing s = header ++ lines (items_in s)

-- ---- where there is no room for all

-- as many lines, from the first on, as find room, and no part of one
unfoldable pub fitting : ℕ → List (List ℕ) → List ℕ
fitting room [] = []
fitting room (l ∷ ls) = cond (leb (length l) room) (l ++ fitting (room - length l) ls) []

-- of a listing, in so many bytes
unfoldable pub fitting_listing : List ℕ → ℕ → List ℕ
fitting_listing s size = fitting size (header ∷ map line (items_in s))
