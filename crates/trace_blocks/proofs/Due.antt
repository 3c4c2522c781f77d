-- Rows written one behind the other.
use mathlib.Core.Path.{◌≡◌, refl, ◌∙◌}
use mathlib.Core.Bool.{Bool, true, false, cond}
use mathlib.Core.List.{List}
use Prim.Native.Nat.{ℕ, zero, suc, ◌+◌, ◌-◌, ◌≤◌, ◌<◌}
use native.Mathlib.Omega.{arith}
use lib.ListN.{length}
use Rattle.encoding.specs.Text.{laid, room}
use Rattle.trace_text.specs.Text.{Item, line}
use Rattle.trace_state.specs.declared.Trace.{Trace}
use Rattle.trace_state.specs.Apply.{channels_of, row_at}
use Rattle.trace_state.specs.Feed.{with_rows_due, first_due, Walk, with_line, feed_from}
use Rattle.trace_state.proofs.Turning.{fed-row}
use Rattle.trace_blocks.specs.Steps.{RowsLeft, rows_written}

-- a state with rows due, and where it is fed from
abbrev pub walk_with : Trace → (used : ℕ) → RowsLeft → Walk
walk_with t used r = record { state = with_rows_due t r.due; used = used; out = r.out; at = r.at }

module _ (s : List ℕ) (ended : Bool) (t : Trace) (used : ℕ) where
  abbrev n : ℕ
  n = channels_of t.estimator

  -- the rows of the state itself
  abbrev f : ℕ → Item
  f = row_at t.estimator t.band t.blocks

  pub fed-rows :
      (due : ℕ) → due ≤ n → (d : List ℕ) (at : ℕ)
      → feed_from s ended (walk_with t used (record { out = d; at = at; due = due })) ≡ feed_from s ended (walk_with t used (rows_written f n due d at))
  unfolding rows_written
  fed-rows zero h d at = refl
  fed-rows (suc k) h d at =
      go (room d at text) refl (fed-rows k (omega arith) (laid d at text) (at + length text))
    where
      text : List ℕ
      text = line (f (n - suc k))

      w : Walk
      w = walk_with t used (record { out = d; at = at; due = suc k })

      behind : RowsLeft
      behind = record { out = laid d at text; at = at + length text; due = k }

      go :
          (fits : Bool) → room d at text ≡ fits
          → feed_from s ended (walk_with t used behind) ≡ feed_from s ended (walk_with t used (rows_written f n k (laid d at text) (at + length text)))
          → feed_from s ended w
          ≡ feed_from s ended (walk_with t used (cond fits (rows_written f n k (laid d at text) (at + length text)) (record { out = d; at = at; due = suc k })))
      go true fits later =
          let less : suc k - 1 ≡ k = omega arith in
          let next : feed_from s ended (with_line w (first_due w.state) (with_rows_due w.state (suc k - 1))) ≡ feed_from s ended (walk_with t used behind) =
          rw less in
          fed-row s ended w (omega arith) fits ∙ next ∙ later
      go false fits later = refl

-- the row that finds no room
pub rows-full :
    (f : ℕ → Item) (n due : ℕ) (d : List ℕ) (at : ℕ)
    → let r = rows_written f n due d at in
    0 < r.due → room r.out r.at (line (f (n - r.due))) ≡ false
unfolding rows_written
rows-full f n zero d at = λ some. absurd (omega arith)
rows-full f n (suc k) d at =
    let text = line (f (n - suc k)) in
    go (room d at text) refl (rows-full f n k (laid d at text) (at + length text))
  where
    Full : RowsLeft → Type 0
    Full r = 0 < r.due → room r.out r.at (line (f (n - r.due))) ≡ false

    go :
        (fits : Bool) → room d at (line (f (n - suc k))) ≡ fits
        → Full (rows_written f n k (laid d at (line (f (n - suc k)))) (at + length (line (f (n - suc k)))))
        → Full (cond fits (rows_written f n k (laid d at (line (f (n - suc k)))) (at + length (line (f (n - suc k))))) (record { out = d; at = at; due = suc k }))
    go true fits later = later
    go false fits later = λ some. fits
