-- A trace fed to the estimator in bytes: what comes next, again and again, until there is no whole record left, no room for a line, or a
-- refusal.
use Rattle.std.specs.Prelude.{◌≡◌, Bool, true, false, cond, List, [], ◌∷◌, ◌++◌, ℕ, zero, suc, ◌+◌, ◌-◌, ◌≤◌, ◌<◌, eqb, ltb, length, drop}
use Rattle.aec3_common.specs.Answers.{number}
use Rattle.aec3_common.specs.Refusal.{accepted}
use Rattle.encoding.specs.Text.{laid, room}
use Rattle.trace_records.specs.Frames.{length_in, framed, record_in, frames}
use Rattle.trace_records.specs.Judge.{refusal_ahead}
use Rattle.trace_text.specs.Text.{Item, line, lines}
use Rattle.trace_state.specs.declared.Trace.{Trace}
use Rattle.trace_state.specs.declared.Stop.{Stop}
use Rattle.trace_state.specs.declared.Stop.TheVariants.{NoRecord, NoRoom, Refused, BadState}
use Rattle.trace_state.specs.Apply.{channels_of, standing_of, trace_ok, next_of, row_at, due_rows}
use Rattle.trace_state.specs.Listing.{record_at, refused_at, items_of}

-- ---- what comes next

-- A row that is due, and the state once it is written; or a record that is accepted, with the state after it and its size; or the number under which
-- it is turned away; or nothing, until there are more bytes.
pub data Next : Type 0 where
  row_due : Item → Trace → Next
  taken : Trace → (size : ℕ) → Next
  turned_away : (number : ℕ) → Next
  nothing : Next

-- a state with so many rows due
abbrev pub with_rows_due : Trace → ℕ → Trace
with_rows_due t due =
    record { estimator = t.estimator; band = t.band; blocks = t.blocks; records = t.records; rows_due = due }

-- the first row that is due
abbrev pub first_due : Trace → Item
first_due t = row_at t.estimator t.band t.blocks (channels_of t.estimator - t.rows_due)

-- Rows that are due come first; then the record that the bytes ahead begin with. It is told whether the trace ends with these bytes.
unfoldable pub next_in : Trace → (ended : Bool) → List ℕ → Next
next_in t ended s =
    let n = refusal_ahead (standing_of t) ended s in
    cond (ltb 0 t.rows_due) (row_due (first_due t) (with_rows_due t (t.rows_due - 1)))
    (cond (eqb n accepted)
    (cond (framed s) (taken (next_of t (record_at t (record_in s))) (4 + length_in s)) nothing)
    (turned_away n))

-- ---- feeding

-- why it ends: no whole record is left, a line finds no room, a record is turned away under a number, or 20 turns the state away
pub data Why : Type 0 where
  lacks_record : Why
  lacks_room : Why
  refused_under : (number : ℕ) → Why
  state_refused : Why

-- the same of what the code answers
abbrev pub why : Stop → Why
why NoRecord = lacks_record
why NoRoom = lacks_room
why (Refused refusal) = refused_under (number refusal)
why BadState = state_refused

-- Where it stands: the state, how many bytes are done with, what the list holds that is written to, and the place where the next line goes.
pub record Walk : Type 0 where
  pub state : Trace
  pub used : ℕ
  pub out : List ℕ
  pub at : ℕ

-- where it ends, and why
pub record Stopped : Type 0 where
  pub walk : Walk
  pub stop : Why

-- it goes on, or it ends
pub data Turn : Type 0 where
  on : Walk → Turn
  ends : Stopped → Turn

-- a line written behind the others
abbrev pub with_line : Walk → Item → Trace → Walk
with_line w i t =
    record { state = t; used = w.used; out = laid w.out w.at (line i); at = w.at + length (line i) }

abbrev pub finds_room : Walk → Item → Bool
finds_room w i = room w.out w.at (line i)

-- the line of a record that is turned away is the last; or it finds no room
unfoldable pub refused_end : Walk → ℕ → Stopped
refused_end w number =
    let i = refused_at w.state number in
    cond (finds_room w i) (record { walk = with_line w i w.state; stop = refused_under number }) (record { walk = w; stop = lacks_room })

-- A line that finds no room ends it. A row is then still due; a refusal is found again in the bytes that are left.
unfoldable pub turn_by : Walk → Next → Turn
turn_by w (row_due i t) = cond (finds_room w i) (on (with_line w i t)) (ends (record { walk = w; stop = lacks_room }))
turn_by w (taken t size) = on (record { state = t; used = w.used + size; out = w.out; at = w.at })
turn_by w (turned_away number) = ends (refused_end w number)
turn_by w nothing = ends (record { walk = w; stop = lacks_record })

unfoldable pub go_on : (Walk → Stopped) → Turn → Stopped
go_on later (on w) = later w
go_on later (ends e) = e

module _ (s : List ℕ) (ended : Bool) where
  abbrev pub turn_of : Walk → Turn
  turn_of w = turn_by w (next_in w.state ended (drop w.used s))

  -- at most so many turns
  unfoldable pub turns : ℕ → Walk → Stopped
  turns zero w = record { walk = w; stop = lacks_record }
  turns (suc k) w = go_on (turns k) (turn_of w)

  -- Each turn that goes on takes some of the bytes or fills some of the room, so that there are no more turns than these.
  abbrev pub ahead_of : Walk → ℕ
  ahead_of w = (length s - w.used) + (length w.out - w.at)

  unfoldable pub feed_from : Walk → Stopped
  feed_from w = turns (suc (ahead_of w)) w

-- a state that 20 turns away is not fed
unfoldable pub fed : Trace → (s : List ℕ) → (ended : Bool) → (d : List ℕ) → ℕ → Stopped
fed t s ended d at =
    let w : Walk = record { state = t; used = 0; out = d; at = at } in
    cond (trace_ok t) (feed_from s ended w) (record { walk = w; stop = state_refused })

-- ---- the claim

-- what is yet to be written of a trace, of which these bytes are left: rows that are due, and what its records give
abbrev pub items_ahead : Trace → List ℕ → List Item
items_ahead t s = due_rows t ++ items_of t (frames s)

-- the same where feeding has stopped: nothing behind a refusal
unfoldable pub items_left : Why → Trace → List ℕ → List Item
items_left lacks_record t s = items_ahead t s
items_left lacks_room t s = items_ahead t s
items_left (refused_under number) t s = []
items_left state_refused t s = items_ahead t s

-- the first of these finds no room
pub record TooLong (w : Walk) (is : List Item) : Type 0 where
  pub first : Item
  pub others : List Item
  pub are : is ≡ first ∷ others
  pub long : finds_room w first ≡ false

-- Feeding some bytes writes the lines of some items. These, and those that are left, are what was ahead, whatever bytes follow (if the trace ends
-- with these, none). It stops for want of room only where the next line finds none; at the end of a trace it stops otherwise only if nothing is left,
-- and before the end for want of a record only if less than one is left. The state is not turned away.
pub record Lists (s : List ℕ) (ended : Bool) (w : Walk) (x : Stopped) : Type 0 where
  pub items : List Item
  pub fits : w.at + length (lines items) ≤ length w.out
  pub text : x.walk.out ≡ laid w.out w.at (lines items)
  pub place : x.walk.at ≡ w.at + length (lines items)
  pub rest :
      (more : List ℕ) → (ended ≡ true → more ≡ [])
      → items_ahead w.state (drop w.used s ++ more) ≡ items ++ items_left x.stop x.walk.state (drop x.walk.used s ++ more)
  pub full :
      x.stop ≡ lacks_room → (more : List ℕ) → (ended ≡ true → more ≡ []) → TooLong x.walk (items_ahead x.walk.state (drop x.walk.used s ++ more))
  pub all : ended ≡ true → (x.stop ≡ lacks_room → ⊥) → items_left x.stop x.walk.state (drop x.walk.used s) ≡ []
  pub short : ended ≡ false → x.stop ≡ lacks_record → length (drop x.walk.used s) < 65536
  pub passes : x.stop ≡ state_refused → ⊥

-- Claim, which `feed` promises of every state that 20 lets pass. So that feeding a trace from the beginning on, in pieces or at once, gives its
-- listing.
unfoldable pub GivesListing : Trace → (s : List ℕ) → (ended : Bool) → (d : List ℕ) → ℕ → Type 0
GivesListing t s ended d at =
    trace_ok t ≡ true → at ≤ length d → Lists s ended (record { state = t; used = 0; out = d; at = at }) (fed t s ended d at)
