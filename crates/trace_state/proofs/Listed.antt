-- Feeding gives the listing.
use mathlib.Core.Path.{◌≡◌, refl, sym, ap, ◌∙◌}
use mathlib.Core.Bool.{Bool, true, false, cond, not, ◌&&◌, ◌||◌, false≢true, true≢false}
use mathlib.Core.List.{List, [], ◌∷◌, ◌++◌, append-nil}
use Prim.Native.Nat.{ℕ, zero, suc, ◌+◌, ◌-◌, ◌≤◌, ◌<◌}
use native.Mathlib.Omega.{arith}
use borrow.Author.Tests.{leb-true, leb-false, ltb-true, ltb-false, eqb-true, eqb-false}
use lib.Dec.{eqb, leb, ltb}
use lib.ListN.{length, drop, length-append}
use lib.Seq.{drop-drop}
use Rattle.aec3_common.specs.Refusal.{unless, accepted, bad_frame}
use Rattle.aec3_common.proofs.Choices.{and_right}
use Rattle.encoding.specs.Text.{laid}
use Rattle.encoding.proofs.Writing.{Wrote, wrote_none, wrote_then, length-laid}
use Rattle.trace_records.specs.Frames.{length_in, length_ok, framed, record_in}
use Rattle.trace_records.specs.Judge.{refusal_ahead, may_go_on}
use Rattle.trace_records.proofs.Framing.{framed-room}
use Rattle.trace_text.specs.Text.{Item, line, lines}
use Rattle.trace_state.specs.declared.Trace.{Trace}
use Rattle.trace_state.specs.Apply.{channels_of, standing_of, next_of}
use Rattle.trace_state.specs.Listing.{record_at, refusal_at, refused_at}
use Rattle.trace_state.specs.Feed.{Why, lacks_record, lacks_room, refused_under, state_refused, row_due, with_rows_due, first_due, next_in, Walk, Stopped, with_line, finds_room, refused_end, turn_by, go_on, turn_of, turns, ahead_of, feed_from, fed, items_ahead, items_left, TooLong, Lists, GivesListing}
use Rattle.trace_state.proofs.Judged.{due-few}
use Rattle.trace_state.proofs.Running.{due-next}
use Rattle.trace_state.proofs.Turning.{next-is, turn-falls}
use Rattle.trace_state.proofs.Pieces.{bad-front, framed-front, record-front, rest-front}
use Rattle.trace_state.proofs.Ahead.{ahead-row, ahead-taken, ahead-refused, ahead-bad, ahead_none}

-- bytes that begin with no whole record and may be the front of one are fewer than the longest has
less-left :
    (s : List ℕ) (none few fine : Bool) → eqb (length s) 0 ≡ none → ltb (length s) 4 ≡ few → length_ok (length_in s) ≡ fine → framed s ≡ false
    → eqb (unless (none || (few || fine)) bad_frame accepted) accepted ≡ true → length s < 65536
unfolding framed
less-left s true few fine a b e r o = omega (arith, eqb-true (length s) 0 a)
less-left s false true fine a b e r o = omega (arith, ltb-true (length s) 4 b)
less-left s false false true a b e r o =
    let cut : leb (4 + length_in s) (length s) ≡ false = rw e at r in
    omega (arith, leb-true (length_in s) 65532 (and_right (leb 2 (length_in s)) (leb (length_in s) 65532) e), leb-false (4 + length_in s) (length s) cut)
less-left s false false false a b e r o = absurd (false≢true o)

module _ (s : List ℕ) (ended : Bool) where
  -- what may follow the bytes
  abbrev Follows : List ℕ → Type 0
  Follows more = ended ≡ true → more ≡ []

  abbrev here : Walk → List ℕ → List Item
  here w more = items_ahead w.state (drop w.used s ++ more)

  -- it stops where it stands
  stops-here :
      (w : Walk) (stop : Why) → w.at ≤ length w.out → ((more : List ℕ) → items_left stop w.state (drop w.used s ++ more) ≡ here w more)
      → (stop ≡ lacks_room → (more : List ℕ) → Follows more → TooLong w (here w more))
      → (ended ≡ true → (stop ≡ lacks_room → ⊥) → items_left stop w.state (drop w.used s) ≡ [])
      → (ended ≡ false → stop ≡ lacks_record → length (drop w.used s) < 65536) → (stop ≡ state_refused → ⊥)
      → Lists s ended w (record { walk = w; stop = stop })
  unfolding lines
  stops-here w stop h left full all short passes =
      let nothing = wrote_none w.out w.at h in
      record {
        items = [];
        fits = nothing.room;
        text = nothing.text;
        place = nothing.place;
        rest = λ more follows. sym (left more);
        full = full;
        all = all;
        short = short;
        passes = passes;
      }

  abbrev wants_room : Why → Bool
  wants_room lacks_record = false
  wants_room lacks_room = true
  wants_room (refused_under number) = false
  wants_room state_refused = false

  abbrev wants_bytes : Why → Bool
  wants_bytes lacks_record = true
  wants_bytes lacks_room = false
  wants_bytes (refused_under number) = false
  wants_bytes state_refused = false

  -- for want of room
  too_long :
      (w : Walk) (i : Item) → w.at ≤ length w.out → finds_room w i ≡ false → ((more : List ℕ) → Follows more → (others : List Item) × (here w more ≡ i ∷ others))
      → Lists s ended w (record { walk = w; stop = lacks_room })
  unfolding items_left
  too_long w i h long first =
      stops-here w lacks_room h (λ more. refl)
      (λ is more follows. let (others, are) = first more follows in record { first = i; others = others; are = are; long = long })
      (λ end room. absurd (room refl))
      (λ goes is. absurd (false≢true (ap wants_bytes is)))
      (λ bad. cc)

  -- a line more in front
  lists-line :
      (w : Walk) (i : Item) (t : Trace) {x : Stopped} → finds_room w i ≡ true
      → ((more : List ℕ) → here w more ≡ i ∷ here (with_line w i t) more) → Lists s ended (with_line w i t) x → Lists s ended w x
  unfolding lines
  lists-line w i t fits first later =
      let room = leb-true (w.at + length (line i)) (length w.out) fits in
      let line-written : Wrote w.out w.at (line i) (laid w.out w.at (line i)) (w.at + length (line i)) = record { room = room; text = refl; place = refl } in
      let both = wrote_then line-written (record { room = later.fits; text = later.text; place = later.place }) in
      record {
        items = i ∷ later.items;
        fits = both.room;
        text = both.text;
        place = both.place;
        rest = λ more follows. first more ∙ ap (λ (is : List Item). i ∷ is) (later.rest more follows);
        full = later.full;
        all = later.all;
        short = later.short;
        passes = later.passes;
      }

  -- a refusal is the last line
  lists-refused :
      (w : Walk) (n : ℕ) → w.at ≤ length w.out → ((more : List ℕ) → Follows more → here w more ≡ refused_at w.state n ∷ [])
      → Lists s ended w (refused_end w n)
  unfolding refused_end items_left lines
  lists-refused w n h last = go (finds_room w i) refl
    where
      i : Item
      i = refused_at w.state n

      go :
          (fits : Bool) → finds_room w i ≡ fits
          → Lists s ended w (cond fits (record { walk = with_line w i w.state; stop = refused_under n }) (record { walk = w; stop = lacks_room }))
      go true fits =
          let room = leb-true (w.at + length (line i)) (length w.out) fits in
          let line-written : Wrote w.out w.at (line i) (laid w.out w.at (line i)) (w.at + length (line i)) = record { room = room; text = refl; place = refl } in
          let both = wrote_then line-written (wrote_none (laid w.out w.at (line i)) (w.at + length (line i)) (omega (arith, length-laid w.out w.at (line i) room))) in
          record {
            items = i ∷ [];
            fits = both.room;
            text = both.text;
            place = both.place;
            rest = last;
            full = λ is. absurd (false≢true (ap wants_room is));
            all = λ end other. refl;
            short = λ goes is. absurd (false≢true (ap wants_bytes is));
            passes = λ bad. cc;
          }
      go false fits = too_long w i h fits (λ more follows. ([], last more follows))

  pub lists-turns :
      (k : ℕ) (w : Walk) → ahead_of s ended w < k → w.at ≤ length w.out → w.state.rows_due ≤ channels_of w.state.estimator
      → Lists s ended w (turns s ended k w)
  unfolding turns turn_by go_on refusal_ahead may_go_on items_left
  lists-turns zero w h l few = absurd (omega arith)
  lists-turns (suc k) w h l few =
      go (λ next less. lists-turns k next (omega arith)) (ltb 0 t.rows_due) refl (eqb (refusal_ahead (standing_of t) ended rest) accepted) refl (framed rest) refl
    where
      -- the next turns
      Later : Type 0
      Later =
          (next : Walk) → ahead_of s ended next < ahead_of s ended w → next.at ≤ length next.out
          → next.state.rows_due ≤ channels_of next.state.estimator → Lists s ended next (turns s ended k next)

      t : Trace
      t = w.state

      rest : List ℕ
      rest = drop w.used s

      row : Item
      row = first_due t

      after-row : Trace
      after-row = with_rows_due t (t.rows_due - 1)

      by_row :
          Later → (fits : Bool) → finds_room w row ≡ fits → next_in t ended rest ≡ row_due row after-row → 0 < t.rows_due
          → Lists s ended w (go_on (turns s ended k) (turn_by w (row_due row after-row)))
      by_row later true fits is some =
          let room = leb-true (w.at + length (line row)) (length w.out) fits in
          let next : Walk = with_line w row after-row in
          let so = later next (turn-falls s ended w next (ap (turn_by w) is ∙ rw fits)) (omega (arith, length-laid w.out w.at (line row) room)) (omega arith) in
          rw fits (lists-line w row after-row fits (λ more. ahead-row t (rest ++ more) some few) so)
      by_row later false fits is some =
          rw fits (too_long w row l fits (λ more follows. (items_ahead after-row (rest ++ more), ahead-row t (rest ++ more) some few)))

      none-due : ltb 0 t.rows_due ≡ false → t.rows_due ≡ 0
      none-due p = omega (arith, ltb-false 0 t.rows_due p)

      longer : (more : List ℕ) → framed rest ≡ true → 0 < length (rest ++ more)
      longer more r = omega (arith, framed-room rest r, length-append rest more)

      -- behind an accepted record
      next-walk : Walk
      next-walk = record { state = next_of t (record_at t (record_in rest)); used = w.used + (4 + length_in rest); out = w.out; at = w.at }

      taken-ahead : t.rows_due ≡ 0 → framed rest ≡ true → refusal_at t (record_in rest) ≡ accepted → (more : List ℕ) → here w more ≡ here next-walk more
      taken-ahead none r ok more =
          ahead-taken t (rest ++ more) none (longer more r) (framed-front rest more r) (ap (refusal_at t) (record-front rest more r) ∙ ok)
          ∙ (λ i. items_ahead (next_of t (record_at t (record-front rest more r i))) (rest-front rest more r i))
          ∙ ap (λ (b : List ℕ). items_ahead (next_of t (record_at t (record_in rest))) (b ++ more)) (drop-drop (4 + length_in rest) w.used s)

      -- no whole record, though it may be on its way
      nothing_left : (b : Bool) → eqb (length rest) 0 ≡ b → eqb (unless (b || false) bad_frame accepted) accepted ≡ true → length rest ≤ 0
      nothing_left true e o = omega (arith, eqb-true (length rest) 0 e)
      nothing_left false e o = absurd (false≢true o)

      -- bytes that no more bytes can mend
      still-bad :
          framed rest ≡ false → (b : Bool) → ended ≡ b → not b && (ltb (length rest) 4 || length_ok (length_in rest)) ≡ false
          → (more : List ℕ) → Follows more → framed (rest ++ more) ≡ false
      still-bad r true end o more follows = rw (follows end, append-nil rest) r
      still-bad r false end o more follows = go-by (ltb (length rest) 4) refl (length_ok (length_in rest)) refl o
        where
          go-by : (a : Bool) → ltb (length rest) 4 ≡ a → (b : Bool) → length_ok (length_in rest) ≡ b → a || b ≡ false → framed (rest ++ more) ≡ false
          go-by true p b q neither = absurd (true≢false neither)
          go-by false p true q neither = absurd (true≢false neither)
          go-by false p false q neither = bad-front rest more (ltb-false (length rest) 4 p) q

      bad-number :
          framed rest ≡ false → t.rows_due ≡ 0 → (z : Bool) → eqb (length rest) 0 ≡ z → (m : Bool) → not ended && (ltb (length rest) 4 || length_ok (length_in rest)) ≡ m
          → eqb (unless (z || m) bad_frame accepted) accepted ≡ false
          → Lists s ended w (refused_end w (unless (z || m) bad_frame accepted))
      bad-number r none true p m q o = absurd (true≢false o)
      bad-number r none false p true q o = absurd (true≢false o)
      bad-number r none false p false q o =
          lists-refused w bad_frame l
          (λ more follows.
          ahead-bad t (rest ++ more) none (omega (arith, eqb-false (length rest) 0 p, length-append rest more)) (still-bad r ended refl q more follows))

      go :
          Later → (due : Bool) → ltb 0 t.rows_due ≡ due → (passes : Bool) → eqb (refusal_ahead (standing_of t) ended rest) accepted ≡ passes
          → (there : Bool) → framed rest ≡ there → Lists s ended w (go_on (turns s ended k) (turn_of s ended w))
      go later true p passes q there r =
          let is = next-is t ended rest true passes there p q r in
          rw is (by_row later (finds_room w row) refl is (ltb-true 0 t.rows_due p))
      go later false p true q true r =
          let is = next-is t ended rest false true true p q r in
          let ok : refusal_at t (record_in rest) ≡ accepted = eqb-true _ _ (rw r at q) in
          let so = later next-walk (turn-falls s ended w next-walk (ap (turn_by w) is)) l (due-next t (record_in rest) ok) in
          rw is
          record {
            items = so.items;
            fits = so.fits;
            text = so.text;
            place = so.place;
            rest = λ more follows. taken-ahead (none-due p) r ok more ∙ so.rest more follows;
            full = so.full;
            all = so.all;
            short = so.short;
            passes = so.passes;
          }
      go later false p true q false r =
          let is = next-is t ended rest false true false p q r in
          rw is
          (stops-here w lacks_record l (λ more. refl) (λ is-full. absurd (false≢true (ap wants_room is-full)))
          (λ end other. ahead_none t rest (none-due p) (nothing_left (eqb (length rest) 0) refl (rw (r, end) at q)))
          (λ goes stop. less-left rest (eqb (length rest) 0) (ltb (length rest) 4) (length_ok (length_in rest)) refl refl refl r (rw (r, goes) at q))
          (λ bad. cc))
      go later false p false q true r =
          let is = next-is t ended rest false false true p q r in
          let wrong : refusal_at t (record_in rest) ≡ accepted → ⊥ = eqb-false _ _ (rw r at q) in
          rw (is, r)
          (lists-refused w (refusal_at t (record_in rest)) l
          (λ more follows.
          ahead-refused t (rest ++ more) (none-due p) (longer more r) (framed-front rest more r) (λ ok. wrong (sym (ap (refusal_at t) (record-front rest more r)) ∙ ok))
          ∙ ap (λ (b : List ℕ). refused_at t (refusal_at t b) ∷ []) (record-front rest more r)))
      go later false p false q false r =
          let is = next-is t ended rest false false false p q r in
          rw (is, r)
          (bad-number r (none-due p) (eqb (length rest) 0) refl (not ended && (ltb (length rest) 4 || length_ok (length_in rest))) refl (rw r at q))

-- the claim
pub gives-listing : (t : Trace) (s : List ℕ) (ended : Bool) (d : List ℕ) (at : ℕ) → GivesListing t s ended d at
unfolding GivesListing fed feed_from
gives-listing t s ended d at ok h =
    let w : Walk = record { state = t; used = 0; out = d; at = at } in
    rw ok (lists-turns s ended (suc (ahead_of s ended w)) w (omega arith) h (due-few t ok))
