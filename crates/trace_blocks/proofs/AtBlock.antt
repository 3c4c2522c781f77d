-- A turn of the loop over rows and blocks: the rows that are due are written, and then the bytes ahead begin with a block, or with none.
use mathlib.Core.Path.{◌≡◌, refl, sym, ap, ◌∙◌}
use mathlib.Core.List.{List}
use Prim.Native.Nat.{ℕ, ◌+◌, ◌-◌, ◌≤◌, ◌<◌}
use native.Mathlib.Omega.{arith}
use borrow.Author.Tests.{ne_eqb}
use lib.ListN.{length, take, drop}
use mathlib.Core.Bool.{true, false}
use Rattle.aec3_common.specs.declared.settings.ErleSettings.{ErleSettings}
use Rattle.aec3_common.specs.Refusal.{accepted}
use Rattle.erle_estimator.specs.declared.ErleEstimator.{ErleEstimator}
use Rattle.trace_records.specs.Frames.{record_in}
use Rattle.trace_records.specs.declared.judge.Standing.{Standing}
use Rattle.trace_records.proofs.Judged.{BlockOk}
use Rattle.trace_state.specs.Apply.{channels_of, standing_of, row_at}
use Rattle.trace_state.specs.Feed.{Walk}
use Rattle.trace_blocks.specs.Steps.{RowsLeft, rows_written, is_block_frame, Ran, AfterBlock, Taken}
use Rattle.trace_blocks.proofs.Due.{walk_with}
use Rattle.trace_blocks.proofs.Frames.{BlockFrame, frame-of, record-size, frame-ends, lent-ahead}
use Rattle.trace_blocks.proofs.Going.{Going, going-rows, rows_end, not-in-form, values-not-refused, block-form}

-- What the loop knows at a block that the bytes ahead begin with. The count of channels was read before the loop.
pub record AtBlock (s : List ℕ) (from now : Walk) (bytes : List ℕ) (channels : ℕ) : Type 0 where
  pub going : Going s from now
  pub as_many : channels ≡ channels_of now.state.estimator
  pub none : now.state.rows_due ≡ 0
  pub frame : BlockFrame (standing_of now.state) (drop now.used s)
  pub form : BlockOk (standing_of now.state) (length (record_in (drop now.used s)))
  pub ends : now.used + (4 + length bytes) ≤ length s
  pub lent : bytes ≡ record_in (drop now.used s)

module _
    {s : List ℕ} {from before : Walk} (g : Going s from before) {r : RowsLeft}
    (given : rows_written (row_at before.state.estimator before.state.band before.state.blocks) (channels_of before.state.estimator) before.state.rows_due before.out before.at ≡ r)
    (fewer : r.due ≤ before.state.rows_due) (same-long : length r.out ≡ length before.out)
  where
    as-before : channels_of from.state.estimator ≡ channels_of before.state.estimator
    as-before = ap (λ (x : ErleSettings). x.num_capture_channels) (sym g.settings)

    abbrev now : Walk
    now = walk_with before.state before.used r

    pub behind-rows : Going s from now
    behind-rows = going-rows g given fewer same-long

    -- a row that is still due found no room
    pub ends-full : 0 < r.due → Ran s from now
    ends-full some =
        let b = behind-rows in
        record {
          same = b.same;
          ready = b.ready;
          due = b.due;
          onward = b.onward;
          within = b.within;
          full = rows_end g given;
          no_block = λ none. absurd (omega arith);
        }

    module _ (none : r.due ≤ 0) where
      module _ {st : Standing} (stands : st ≡ record { num_capture_channels = channels_of from.state.estimator }) where
        abbrev lent : List ℕ
        lent = take (length s - before.used) (drop before.used s)

        st-is : st ≡ standing_of now.state
        st-is = stands ∙ (λ i. record { num_capture_channels = as-before i })

        told-is : is_block_frame st lent ≡ is_block_frame (standing_of now.state) (drop before.used s)
        told-is i = is_block_frame (st-is i) (lent-ahead s before.used i)

        -- the bytes ahead begin with no block in form
        pub ends-no-frame : is_block_frame st lent ≡ false → Ran s from now
        ends-no-frame is =
            let b = behind-rows in
            record {
              same = b.same;
              ready = b.ready;
              due = b.due;
              onward = b.onward;
              within = b.within;
              full = λ some. absurd (omega arith);
              no_block = λ no whole kind ok. not-in-form _ _ whole kind ok (sym told-is ∙ is);
            }

        pub at-block :
            {bytes : List ℕ} {channels : ℕ} → (is_block_frame st lent ≡ true) × (bytes ≡ record_in lent) → channels ≡ st.num_capture_channels
            → AtBlock s from now bytes channels
        at-block {bytes} is count =
            let b = behind-rows in
            let no : r.due ≡ 0 = omega arith in
            let frame = frame-of (standing_of now.state) (drop before.used s) (sym told-is ∙ is.0) in
            let own : bytes ≡ record_in (drop before.used s) = is.1 ∙ ap record_in (lent-ahead s before.used) in
            record {
              going = b;
              as_many = count ∙ ap (λ (x : Standing). x.num_capture_channels) st-is;
              none = no;
              frame = frame;
              form = block-form b no frame;
              ends = omega (arith, ap length own, record-size _ frame.whole, frame-ends s before.used b.within frame);
              lent = own;
            }

module _ {s : List ℕ} {from now : Walk} {bytes : List ℕ} {channels : ℕ} (b : AtBlock s from now bytes channels) where
  abbrev e : ErleEstimator
  e = now.state.estimator

  module _ {after : AfterBlock} (taken : Taken e bytes after) where
    pub taken-there : Taken e (record_in (drop now.used s)) after
    taken-there = rw b.lent at taken

    -- where feeding stands with the estimator that is left
    abbrev left : Walk
    left =
        let t = now.state in
        record {
          state = record { estimator = after.estimator; band = t.band; blocks = t.blocks; records = t.records; rows_due = t.rows_due };
          used = now.used;
          out = now.out;
          at = now.at;
        }

    -- its values are turned away
    pub ends-bad : (after.refused ≡ accepted → ⊥) → Ran s from left
    ends-bad bad =
        let g = b.going in
        let same : after.estimator ≡ e = taken-there.state ∙ rw (ne_eqb _ _ bad) refl in
        rw same
        record {
          same = g.same;
          ready = g.ready;
          due = g.due;
          onward = g.onward;
          within = g.within;
          full = λ some. absurd (omega (arith, b.none));
          no_block = λ none whole kind fine. values-not-refused _ _ whole kind fine (λ e. bad (taken-there.told ∙ e));
        }
