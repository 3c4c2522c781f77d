-- The range that every printed figure keeps.
use Rattle.std.specs.Prelude.{◌≡◌, Bool, true, ◌&&◌, List, ℕ, Float}
use Rattle.aec3_common.specs.Binary32.{one32, number_from}
use Rattle.std.specs.List.{list_all}
use Rattle.aec3_common.specs.Settings.{greatest_erle}
use Rattle.trace_records.specs.Frames.{frames}
use Rattle.trace_text.specs.Text.{Item, row, refused}
use Rattle.trace_state.specs.declared.Trace.{Trace}
use Rattle.trace_state.specs.Listing.{items_of}

-- a number from 1 to 100,000
abbrev pub printed_ok : Float → Bool
printed_ok x = number_from one32 greatest_erle x

-- of a row, the three figures; a refusal shows none
abbrev pub figures_ok : Item → Bool
figures_ok (row block channel plain compensated uncapped) = printed_ok plain && printed_ok compensated && printed_ok uncapped
figures_ok (refused number record_number) = true

-- Claim, which `beginning` promises of itself: in every row of the listing of any bytes the three figures are numbers from 1 to 100,000. They
-- are written as their bits, so from 3F800000 to 47C35000.
--
-- Phrase by phrase:
-- "the listing of any bytes" -> s, any list; a listing is the header and the lines of these items (of `beginning` they are `items_in s`)
-- "in every row" -> list_all, by figures_ok
-- "the three figures are numbers from 1 to 100,000" -> printed_ok of each
unfoldable pub RowsInRange : Trace → Type 0
RowsInRange t = (s : List ℕ) → list_all figures_ok (items_of t (frames s)) ≡ true
