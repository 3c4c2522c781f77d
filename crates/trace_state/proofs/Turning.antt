-- Feeding, turn by turn.
use mathlib.Core.Path.{◌≡◌, refl, sym, ap, ◌∙◌}
use mathlib.Core.Bool.{Bool, true, false, cond, false≢true}
use mathlib.Core.List.{List}
use Prim.Native.Nat.{ℕ, zero, suc, ◌+◌, ◌-◌, ◌<◌}
use native.Mathlib.Omega.{arith}
use borrow.Author.Tests.{lt-ltb, le-ltb, eq-eqb, ne_eqb, leb-true}
use lib.Dec.{eqb, ltb}
use lib.ListN.{length, drop, length-drop}
use Rattle.aec3_common.specs.Refusal.{accepted}
use Rattle.encoding.proofs.Writing.{length-laid}
use Rattle.trace_records.specs.Frames.{length_in, framed, record_in}
use Rattle.trace_records.specs.Judge.{refusal_ahead}
use Rattle.trace_records.proofs.Framing.{framed-room}
use Rattle.trace_text.specs.Text.{Item, line}
use Rattle.trace_text.proofs.Lines.{line-some}
use Rattle.trace_state.specs.declared.Trace.{Trace}
use Rattle.trace_state.specs.Apply.{standing_of, next_of}
use Rattle.trace_state.specs.Listing.{record_at, refusal_at}
use Rattle.trace_state.specs.Feed.{lacks_record, lacks_room, Next, row_due, taken, turned_away, nothing, with_rows_due, first_due, next_in, Walk, Stopped, Turn, on, ends, with_line, finds_room, refused_end, turn_by, go_on, turn_of, turns, ahead_of, feed_from}

-- ---- what comes next, by cases

-- the case that the tests choose
abbrev pub chosen : Trace → List ℕ → ℕ → (due passes whole : Bool) → Next
chosen t s n due passes whole =
    cond due (row_due (first_due t) (with_rows_due t (t.rows_due - 1)))
    (cond passes
    (cond whole (taken (next_of t (record_at t (record_in s))) (4 + length_in s)) nothing)
    (turned_away n))

module _ (t : Trace) (ended : Bool) (s : List ℕ) where
  abbrev number : ℕ
  number = refusal_ahead (standing_of t) ended s

  -- the tests of a case
  pub next-is :
      (due passes whole : Bool) → ltb 0 t.rows_due ≡ due → eqb number accepted ≡ passes → framed s ≡ whole
      → next_in t ended s ≡ chosen t s number due passes whole
  unfolding next_in
  next-is due passes whole p q r = rw (p, q, r)

  pub next_row : 0 < t.rows_due → next_in t ended s ≡ row_due (first_due t) (with_rows_due t (t.rows_due - 1))
  unfolding next_in
  next_row some = rw (lt-ltb 0 t.rows_due some)

  module _ (none : t.rows_due ≡ 0) where
    no_row : ltb 0 t.rows_due ≡ false
    no_row = le-ltb 0 t.rows_due (omega arith)

    pub next-taken :
        framed s ≡ true → refusal_at t (record_in s) ≡ accepted → next_in t ended s ≡ taken (next_of t (record_at t (record_in s))) (4 + length_in s)
    unfolding next_in refusal_ahead
    next-taken whole passes = rw (no_row, whole, eq-eqb _ _ passes)

    pub next-refused : {n : ℕ} → n ≡ number → (n ≡ accepted → ⊥) → next_in t ended s ≡ turned_away n
    unfolding next_in
    next-refused {n} is bad = rw (no_row, ← is, ne_eqb n accepted bad)

    pub next-nothing : number ≡ accepted → framed s ≡ false → next_in t ended s ≡ nothing
    unfolding next_in
    next-nothing passes cut = rw (no_row, eq-eqb number accepted passes, cut)

-- ---- turns

abbrev walk_of : Turn → Walk
walk_of (on w) = w
walk_of (ends e) = e.walk

abbrev goes : Turn → Bool
goes (on w) = true
goes (ends e) = false

module _ (s : List ℕ) (ended : Bool) where
  -- a line that finds room fills some
  line-falls : (w : Walk) (i : Item) (t : Trace) → finds_room w i ≡ true → ahead_of s ended (with_line w i t) < ahead_of s ended w
  line-falls w i t fits =
      let room = leb-true (w.at + length (line i)) (length w.out) fits in
      omega (arith, line-some i, length-laid w.out w.at (line i) room)

  -- and a record takes some of the bytes
  record-falls :
      (w : Walk) (t : Trace) → framed (drop w.used s) ≡ true
      → ahead_of s ended (record { state = t; used = w.used + (4 + length_in (drop w.used s)); out = w.out; at = w.at }) < ahead_of s ended w
  record-falls w t whole = omega (arith, framed-room (drop w.used s) whole, length-drop w.used s)

  -- so that a turn that goes on leaves less ahead
  pub turn-falls : (w next : Walk) → turn_of s ended w ≡ on next → ahead_of s ended next < ahead_of s ended w
  unfolding turn_by
  turn-falls w next e =
      go (ltb 0 w.state.rows_due) refl (eqb (number w.state ended rest) accepted) refl (framed rest) refl
    where
      rest : List ℕ
      rest = drop w.used s

      i : Item
      i = first_due w.state

      after : Walk
      after = with_line w i (with_rows_due w.state (w.state.rows_due - 1))

      by-line :
          (fits : Bool) → finds_room w i ≡ fits → cond fits (on after) (ends (record { walk = w; stop = lacks_room })) ≡ on next
          → ahead_of s ended next < ahead_of s ended w
      by-line true fits same = rw (← ap walk_of same) (line-falls w i (with_rows_due w.state (w.state.rows_due - 1)) fits)
      by-line false fits same = absurd (false≢true (ap goes same))

      turn_is : (due passes whole : Bool) → ltb 0 w.state.rows_due ≡ due → eqb (number w.state ended rest) accepted ≡ passes → framed rest ≡ whole → turn_by w (chosen w.state rest (number w.state ended rest) due passes whole) ≡ on next
      turn_is due passes whole p q r = sym (ap (turn_by w) (next-is w.state ended rest due passes whole p q r)) ∙ e

      go :
          (due : Bool) → ltb 0 w.state.rows_due ≡ due → (passes : Bool) → eqb (number w.state ended rest) accepted ≡ passes
          → (whole : Bool) → framed rest ≡ whole → ahead_of s ended next < ahead_of s ended w
      go true p passes q whole r = by-line (finds_room w i) refl (turn_is true passes whole p q r)
      go false p true q true r = rw (← ap walk_of (turn_is false true true p q r)) (record-falls w (next_of w.state (record_at w.state (record_in rest))) r)
      go false p true q false r = absurd (false≢true (ap goes (turn_is false true false p q r)))
      go false p false q whole r = absurd (false≢true (ap goes (turn_is false false whole p q r)))

  -- as many turns as there are bytes and room ahead are enough
  pub enough : (j k : ℕ) (w : Walk) → ahead_of s ended w < j → ahead_of s ended w < k → turns s ended j w ≡ turns s ended k w
  unfolding turns go_on
  enough zero k w h l = absurd (omega arith)
  enough (suc j) zero w h l = absurd (omega arith)
  enough (suc j) (suc k) w h l = go (turn_of s ended w) refl (λ next less. enough j k next (omega arith) (omega arith))
    where
      go :
          (x : Turn) → turn_of s ended w ≡ x
          → ((next : Walk) → ahead_of s ended next < ahead_of s ended w → turns s ended j next ≡ turns s ended k next)
          → go_on (turns s ended j) x ≡ go_on (turns s ended k) x
      go (on next) e later = later next (turn-falls w next e)
      go (ends x) e later = refl

  fed-on : (w next : Walk) → turn_of s ended w ≡ on next → feed_from s ended w ≡ feed_from s ended next
  unfolding feed_from turns go_on
  fed-on w next e =
      let less = turn-falls w next e in
      ap (go_on (turns s ended (ahead_of s ended w))) e ∙ enough (ahead_of s ended w) (suc (ahead_of s ended next)) next less (omega arith)

  fed-ends : (w : Walk) (x : Stopped) → turn_of s ended w ≡ ends x → feed_from s ended w ≡ x
  unfolding feed_from turns go_on
  fed-ends w x e = ap (go_on (turns s ended (ahead_of s ended w))) e

  -- ---- a turn of each kind

  pub fed-row :
      (w : Walk) → 0 < w.state.rows_due → finds_room w (first_due w.state) ≡ true
      → feed_from s ended w ≡ feed_from s ended (with_line w (first_due w.state) (with_rows_due w.state (w.state.rows_due - 1)))
  unfolding turn_by
  fed-row w some fits = fed-on w _ (ap (turn_by w) (next_row w.state ended (drop w.used s) some) ∙ rw fits)

  pub fed-full :
      (w : Walk) → 0 < w.state.rows_due → finds_room w (first_due w.state) ≡ false
      → feed_from s ended w ≡ record { walk = w; stop = lacks_room }
  unfolding turn_by
  fed-full w some full = fed-ends w _ (ap (turn_by w) (next_row w.state ended (drop w.used s) some) ∙ rw full)

  module _ (w : Walk) (none : w.state.rows_due ≡ 0) where
    abbrev ahead : List ℕ
    ahead = drop w.used s

    pub fed-taken :
        framed ahead ≡ true → refusal_at w.state (record_in ahead) ≡ accepted
        → feed_from s ended w
        ≡ feed_from s ended (record { state = next_of w.state (record_at w.state (record_in ahead)); used = w.used + (4 + length_in ahead); out = w.out; at = w.at })
    unfolding turn_by
    fed-taken whole passes = fed-on w _ (ap (turn_by w) (next-taken w.state ended ahead none whole passes))

    pub fed-refused :
        {n : ℕ} → n ≡ refusal_ahead (standing_of w.state) ended ahead → (n ≡ accepted → ⊥) → feed_from s ended w ≡ refused_end w n
    unfolding turn_by
    fed-refused is bad = fed-ends w _ (ap (turn_by w) (next-refused w.state ended ahead none is bad))

    pub fed-nothing :
        refusal_ahead (standing_of w.state) ended ahead ≡ accepted → framed ahead ≡ false → feed_from s ended w ≡ record { walk = w; stop = lacks_record }
    unfolding turn_by
    fed-nothing passes cut = fed-ends w _ (ap (turn_by w) (next-nothing w.state ended ahead none passes cut))
