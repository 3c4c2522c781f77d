-- In every row of a listing the three figures are numbers from 1 to 100,000.
use mathlib.Core.Path.{◌≡◌, refl, ◌∙◌}
use mathlib.Core.Bool.{true}
use mathlib.Core.List.{List, [], ◌∷◌}
use Prim.Native.Nat.{ℕ, ◌<◌}
use native.Mathlib.Omega.{arith}
use borrow.Author.Tests.{eqb-true, leb-true}
use lib.Dec.{eqb}
use lib.ListN.{length}
use Rattle.std.specs.List.{list_all}
use Rattle.aec3_common.specs.Lists.{tab}
use Rattle.aec3_common.specs.Refusal.{accepted}
use Rattle.aec3_common.proofs.Choices.{and_right, cond_has}
use Rattle.aec3_common.proofs.Every.{list_all-by, list_all-append}
use Rattle.aec3_common.proofs.Limits.{between-most}
use Rattle.aec3_common.proofs.Tables.{length-tab, get_or-tab}
use Rattle.erle_estimator.specs.declared.ErleEstimator.{ErleEstimator}
use Rattle.erle_estimator.proofs.Good.{Good}
use Rattle.erle_estimator.proofs.Range.{limits-at, uncapped-limits-at, plain-within, compensated-within, uncapped-within}
use Rattle.trace_records.specs.Frames.{Frame, whole, bad, frames}
use Rattle.trace_records.specs.Records.{Record, settings, block, reset, unknown, settings_in}
use Rattle.trace_records.specs.Judge.{flag_ok, band_ok, flags_ok}
use Rattle.trace_records.proofs.Judged.{both-passed, in-form, unknown-refused}
use Rattle.trace_text.specs.Text.{Item, refused}
use Rattle.trace_state.specs.declared.Trace.{Trace}
use Rattle.trace_state.specs.Apply.{channels_of, standing_of, beginning, next_of, row_at, block_rows, rows_of}
use Rattle.trace_state.specs.Listing.{record_at, refusal_at, items_of}
use Rattle.trace_state.specs.Range.{figures_ok, RowsInRange}
use Rattle.trace_state.proofs.Running.{Sound, idle, going, sound-beginning, by-kinds, Passes, sound-next}

-- what a run keeps: an estimator of such a run, and a printed band that there is
record Printing (t : Trace) : Type 0 where
  sound : Sound t.estimator
  band : t.band < 65

printing-beginning : Printing beginning
unfolding beginning
printing-beginning = record { sound = sound-beginning; band = omega arith }

-- an accepted record keeps it
module _ (t : Trace) (s : List ℕ) (p : Printing t) where
  band-next : refusal_at t s ≡ accepted → (next_of t (record_at t s)).band < 65
  unfolding next_of flags_ok
  band-next =
      by-kinds (standing_of t) s (λ r. Passes t s r → (next_of t r).band < 65) of-settings (λ ok. p.band) (λ ok. p.band)
      (λ ok. absurd (unknown-refused (standing_of t) (length s) ok))
    where
      of-settings : Passes t s (settings (settings_in s)) → (settings_in s).band < 65
      of-settings ok =
          let x = settings_in s in
          let (_, _, flags) = in-form (standing_of t) (length s) (settings x) (both-passed (standing_of t) (length s) (settings x) ok).0 in
          omega (arith, leb-true x.band 64 (and_right (flag_ok x.onset_flag) (band_ok x.band) flags))

  printing-next : refusal_at t s ≡ accepted → Printing (next_of t (record_at t s))
  printing-next ok = record { sound = sound-next t s p.sound ok; band = band-next ok }

-- a channel's row
row-ok :
    (e : ErleEstimator) → Good e → (band number ch : ℕ) → ch < channels_of e → band < 65 → figures_ok (row_at e band number ch) ≡ true
unfolding row_at
row-ok e good band number ch h l =
    simp (
      between-most (limits-at e good band) (plain-within e good ch band h l),
      between-most (limits-at e good band) (compensated-within e good ch band h l),
      between-most (uncapped-limits-at e good band) (uncapped-within e good ch band h l),
    )

-- the rows of a block
rows-ok : (t : Trace) → Printing t → list_all figures_ok (block_rows t) ≡ true
unfolding block_rows
rows-ok t p =
    list_all-by figures_ok rows (refused 0 0)
    (λ ch h.
    let inside : ch < n = omega (arith, length-tab n (row_at t.estimator t.band t.blocks)) in
    rw (get_or-tab n (row_at t.estimator t.band t.blocks) ch (refused 0 0) inside) (of-channel p.sound ch inside))
  where
    n : ℕ
    n = channels_of t.estimator

    rows : List Item
    rows = tab n (row_at t.estimator t.band t.blocks)

    of-channel : Sound t.estimator → (ch : ℕ) → ch < n → figures_ok (row_at t.estimator t.band t.blocks ch) ≡ true
    of-channel (idle none) ch h = absurd (omega arith)
    of-channel (going good section flat) ch h = row-ok t.estimator good t.band t.blocks ch h p.band

rows-of-ok : (t : Trace) (r : Record) → Printing (next_of t r) → list_all figures_ok (rows_of t r) ≡ true
unfolding rows_of
rows-of-ok t (settings x) p = refl
rows-of-ok t (block b) p = rows-ok (next_of t (block b)) p
rows-of-ok t (reset delay_flag) p = refl
rows-of-ok t unknown p = refl

-- what records give
items-ok : (fs : List Frame) (t : Trace) → Printing t → list_all figures_ok (items_of t fs) ≡ true
unfolding items_of
items-ok [] t p = refl
items-ok (bad ∷ fs) t p = refl
items-ok (whole s ∷ fs) t p =
    cond_has (λ (items : List Item). list_all figures_ok items ≡ true) (eqb (refusal_at t s) accepted)
    (λ e.
    let next = printing-next t s p (eqb-true (refusal_at t s) accepted e) in
    list_all-append figures_ok (rows_of t (record_at t s)) (items_of (next_of t (record_at t s)) fs)
    ∙ simp (rows-of-ok t (record_at t s) next, items-ok fs (next_of t (record_at t s)) next))
    (λ e. refl)

pub rows-in-range : RowsInRange beginning
unfolding RowsInRange
rows-in-range s = items-ok (frames s) beginning printing-beginning
