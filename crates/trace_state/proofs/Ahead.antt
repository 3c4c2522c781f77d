-- What is yet to be written of a trace, one item or one record further.
use mathlib.Core.Path.{◌≡◌, refl, sym, ap, ◌∙◌}
use mathlib.Core.Bool.{Bool, true, false, cond}
use mathlib.Core.List.{List, [], ◌∷◌, ◌++◌}
use Prim.Native.Nat.{ℕ, suc, ◌+◌, ◌-◌, ◌≤◌, ◌<◌}
use native.Mathlib.Omega.{arith}
use borrow.Author.Tests.{eq-eqb, ne_eqb, eqb-true}
use lib.Dec.{eqb}
use lib.ListN.{length, drop, length-drop}
use lib.Seq.{drop-cons}
use Rattle.aec3_common.specs.declared.settings.ErleSettings.{ErleSettings}
use Rattle.aec3_common.specs.Lists.{tab}
use Rattle.aec3_common.specs.Refusal.{accepted, bad_frame}
use Rattle.aec3_common.proofs.Tables.{length-tab, get_or-tab}
use Rattle.trace_records.specs.Frames.{Frame, whole, bad, length_in, framed, record_in, frames}
use Rattle.trace_records.specs.Records.{Record, settings, block, reset, unknown}
use Rattle.trace_records.specs.Judge.{record_refusal}
use Rattle.trace_records.proofs.Framing.{frames-none, frames-whole, frames-bad}
use Rattle.trace_records.proofs.Judged.{unknown-refused}
use Rattle.trace_text.specs.Text.{Item}
use Rattle.trace_state.specs.declared.Trace.{Trace}
use Rattle.trace_state.specs.Apply.{channels_of, standing_of, update_in, next_of, row_at, block_rows, rows_of, due_rows}
use Rattle.trace_state.specs.Listing.{record_at, refusal_at, refused_at, items_of}
use Rattle.trace_state.specs.Feed.{with_rows_due, first_due, items_ahead}
use Rattle.erle_estimator.proofs.Runs.{update-settings}

-- rows that are due change nothing else
rows_apart : (t : Trace) (due : ℕ) (r : Record) → rows_of (with_rows_due t due) r ≡ rows_of t r
unfolding rows_of next_of
rows_apart t due (settings x) = refl
rows_apart t due (block b) = refl
rows_apart t due (reset flag) = refl
rows_apart t due unknown = refl

next-apart :
    (t : Trace) (due l : ℕ) (r : Record) → record_refusal (standing_of t) l r ≡ accepted → next_of (with_rows_due t due) r ≡ next_of t r
unfolding next_of
next-apart t due l (settings x) ok = refl
next-apart t due l (block b) ok = refl
next-apart t due l (reset flag) ok = refl
next-apart t due l unknown ok = absurd (unknown-refused (standing_of t) l ok)

items-due : (t : Trace) (due : ℕ) (fs : List Frame) → items_of (with_rows_due t due) fs ≡ items_of t fs
unfolding items_of
items-due t due [] = refl
items-due t due (bad ∷ fs) = refl
items-due t due (whole s ∷ fs) = go (eqb (refusal_at t s) accepted) refl
  where
    go :
        (b : Bool) → eqb (refusal_at t s) accepted ≡ b
        → cond b (rows_of (with_rows_due t due) (record_at t s) ++ items_of (next_of (with_rows_due t due) (record_at t s)) fs) (refused_at t (refusal_at t s) ∷ [])
        ≡ cond b (rows_of t (record_at t s) ++ items_of (next_of t (record_at t s)) fs) (refused_at t (refusal_at t s) ∷ [])
    go true e = rw (rows_apart t due (record_at t s), next-apart t due (length s) (record_at t s) (eqb-true (refusal_at t s) accepted e))
    go false e = refl

-- the first row that is due, and the others
due-first :
    (t : Trace) → 0 < t.rows_due → t.rows_due ≤ channels_of t.estimator
    → due_rows t ≡ first_due t ∷ due_rows (with_rows_due t (t.rows_due - 1))
unfolding due_rows block_rows
due-first t some few =
    let n = channels_of t.estimator in
    let f = row_at t.estimator t.band t.blocks in
    let place = n - t.rows_due in
    let here : place < length (tab n f) = omega (arith, length-tab n f) in
    let next : suc place ≡ n - (t.rows_due - 1) = omega arith in
    drop-cons (tab n f) place (first_due t) here ∙ rw (get_or-tab n f place (first_due t) (omega arith), next)

-- where none is
pub due-none : (t : Trace) → t.rows_due ≡ 0 → due_rows t ≡ []
unfolding due_rows block_rows
due-none t none =
    let n = channels_of t.estimator in
    empty (drop (n - t.rows_due) (tab n (row_at t.estimator t.band t.blocks)))
    (omega (arith, length-drop (n - t.rows_due) (tab n (row_at t.estimator t.band t.blocks)), length-tab n (row_at t.estimator t.band t.blocks)))
  where
    empty : (l : List Item) → length l ≤ 0 → l ≡ []
    empty [] h = refl
    empty (i ∷ l) h = absurd (omega arith)

-- where all are
due_all : (t : Trace) → t.rows_due ≡ channels_of t.estimator → due_rows t ≡ block_rows t
unfolding due_rows
due_all t all = let none : channels_of t.estimator - t.rows_due ≡ 0 = omega arith in rw none

-- after a record they are its rows
due-rows : (t : Trace) (l : ℕ) (r : Record) → record_refusal (standing_of t) l r ≡ accepted → due_rows (next_of t r) ≡ rows_of t r
unfolding rows_of next_of
due-rows t l (settings x) ok = due-none (next_of t (settings x)) refl
due-rows t l (block b) ok = due_all (next_of t (block b)) (ap (λ (g : ErleSettings). g.num_capture_channels) (sym (update-settings t.estimator (update_in (channels_of t.estimator) b))))
due-rows t l (reset flag) ok = due-none (next_of t (reset flag)) refl
due-rows t l unknown ok = absurd (unknown-refused (standing_of t) l ok)

module _ (t : Trace) (s : List ℕ) where
  pub ahead-row :
      0 < t.rows_due → t.rows_due ≤ channels_of t.estimator
      → items_ahead t s ≡ first_due t ∷ items_ahead (with_rows_due t (t.rows_due - 1)) s
  ahead-row some few = rw (due-first t some few, items-due t (t.rows_due - 1) (frames s))

  module _ (none : t.rows_due ≡ 0) where
    ahead-by : {fs : List Frame} → frames s ≡ fs → items_ahead t s ≡ items_of t fs
    ahead-by is = rw (due-none t none, is)

    pub ahead-taken :
        0 < length s → framed s ≡ true → refusal_at t (record_in s) ≡ accepted
        → items_ahead t s ≡ items_ahead (next_of t (record_at t (record_in s))) (drop (4 + length_in s) s)
    unfolding items_of
    ahead-taken some f ok =
        ahead-by (frames-whole s some f) ∙ rw (eq-eqb (refusal_at t (record_in s)) accepted ok, due-rows t (length (record_in s)) (record_at t (record_in s)) ok)

    pub ahead-refused :
        0 < length s → framed s ≡ true → (refusal_at t (record_in s) ≡ accepted → ⊥)
        → items_ahead t s ≡ refused_at t (refusal_at t (record_in s)) ∷ []
    unfolding items_of
    ahead-refused some f wrong = ahead-by (frames-whole s some f) ∙ rw (ne_eqb (refusal_at t (record_in s)) accepted wrong)

    pub ahead-bad : 0 < length s → framed s ≡ false → items_ahead t s ≡ refused_at t bad_frame ∷ []
    unfolding items_of
    ahead-bad some f = ahead-by (frames-bad s some f)

    pub ahead_none : length s ≤ 0 → items_ahead t s ≡ []
    unfolding items_of
    ahead_none h = ahead-by (frames-none s h)
