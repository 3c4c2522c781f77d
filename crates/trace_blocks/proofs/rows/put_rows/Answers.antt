use Rattle.std.proofs.Common.{◌≡◌, ℕ, zero, suc, ◌+◌, ◌-◌, ◌<◌, List, length, false, refl, ap, ◌∙◌, arith}
use native.Mathlib.Numerals.{sub-one}
use borrow.Author.Tests.{le-leb}
use Rattle.encoding.specs.Text.{room}
use Rattle.encoding.proofs.Writing.{Wrote, wrote, full, unwritten}
use Rattle.trace_text.specs.Text.{Item, row, line}
use Rattle.aec3_common.specs.Streams.{erle_of}
use Rattle.subband_erle_estimator.specs.Subband.{channel_at}
use Rattle.erle_estimator.specs.declared.ErleEstimator.{ErleEstimator}
use Rattle.erle_estimator.specs.Parts.{subband_part}
use Rattle.erle_estimator.specs.Erle.{sectioned, erle_shown, streams_shown}
use Rattle.trace_state.specs.Apply.{channels_of, row_at}
use Rattle.trace_text.specs.declared.ChannelFigures.{ChannelFigures}
use Rattle.trace_blocks.specs.Steps.{figures_of, rows_written}
use Rattle.trace_blocks.proofs.rows.put_rows.Goals as goal

-- a row is written, that of a channel
module _ (f : ℕ → Item) (n ch : ℕ) (d : List ℕ) (at : ℕ) (e : List ℕ) {i : Item} where
  -- what it leaves if it found room
  rows_more :
      (next : ℕ) → ch < n → i ≡ f ch → Wrote d at (line i) e next
      → rows_written f n (n - ch) d at ≡ rows_written f n (n - (ch + 1)) e next
  unfolding rows_written
  rows_more next some is w =
      let here : ch ≡ n - (n - ch) = omega arith in
      let later : n - ch - 1 ≡ n - (ch + 1) = omega arith in
      go (n - ch) (omega arith) (is ∙ ap f here) ∙ rw later
    where
      go : (k : ℕ) → 0 < k → i ≡ f (n - k) → rows_written f n k d at ≡ rows_written f n (k - 1) e next
      go zero none own = absurd (omega arith)
      go (suc k) more own =
          let found = le-leb (at + length (line i)) (length d) w.room in
          rw (w.text, w.place, sub-one, ← own, found)

  -- and if it found none
  rows-full :
      ch < n → i ≡ f ch → room d at (line i) ≡ false → e ≡ d
      → rows_written f n (n - ch) d at ≡ record { out = e; at = at; due = n - ch }
  unfolding rows_written
  rows-full some is none same =
      let here : ch ≡ n - (n - ch) = omega arith in
      go (n - ch) (omega arith) (is ∙ ap f here)
    where
      go : (k : ℕ) → 0 < k → i ≡ f (n - k) → rows_written f n k d at ≡ record { out = e; at = at; due = k }
      go zero none own = absurd (omega arith)
      go (suc k) more own = rw (same, ← own, none)

-- the row of a channel's figures, which with one section are those of its subband record
figures-row :
    (e : ErleEstimator) (band number ch : ℕ) (f : ChannelFigures) → e.settings.layout.num_sections ≡ 1
    → f ≡ figures_of e.settings.onset_detection band (channel_at (subband_part e) ch)
    → row number ch f.plain f.compensated f.uncapped ≡ row_at e band number ch
unfolding figures_of row_at streams_shown erle_shown sectioned erle_of
figures-row e band number ch f section is = rw (is, section) refl

pub returns-in_default-clause-at_value : goal.returns-in_default-clause-at_value
returns-in_default-clause-at_value c =
    let own = figures-row _ _ c.args.t.now.blocks _ _ (c.requires.ready.section (omega arith)) c.figures_at-figures.ensures in
    c.loop-ch.invariant.0
    ∙ rows-full _ _ _ _ _ _ c.loop-ch-test.true own (full _ _ _ c.in_default.ensures.value) (unwritten _ _ _ _ c.in_default.ensures.value c.in_default.ensures.out_after)

pub loop-ch-preserved : goal.loop-ch-preserved
loop-ch-preserved c =
    let own = figures-row _ _ c.args.t.now.blocks _ _ (c.requires.ready.section (omega arith)) c.figures_at-figures.ensures in (
      c.loop-ch.invariant.0 ∙ rows_more _ _ _ _ _ _ _ c.loop-ch-test.true own (wrote _ _ _ _ _ c.in-Some.ensures.value c.in-Some.ensures.out_after),
      c.put_row.auto.out ∙ c.loop-ch.invariant.1,
    )

pub returns-clause-at_value : goal.returns-clause-at_value
unfolding rows_written
returns-clause-at_value c =
    let none : channels_of c.args.t.now.estimator - c.loop-ch.ch ≡ 0 = omega (arith, c.loop-ch-test.false) in
    c.loop-ch.invariant.0 ∙ rw none
