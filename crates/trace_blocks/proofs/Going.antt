-- What the loop over rows and blocks keeps.
use mathlib.Core.Path.{◌≡◌, refl, sym, ap, ◌∙◌}
use mathlib.Core.Bool.{Bool, true, false, true≢false}
use mathlib.Core.List.{List}
use Prim.Native.Nat.{ℕ, ◌+◌, ◌≤◌, ◌<◌}
use native.Mathlib.Omega.{arith}
use borrow.Author.Tests.{eq-eqb}
use lib.ListN.{length, drop}
use Rattle.aec3_common.specs.declared.settings.ErleSettings.{ErleSettings}
use Rattle.aec3_common.specs.Counts.{one_more}
use Rattle.aec3_common.specs.Refusal.{accepted}
use Rattle.erle_estimator.specs.declared.ErleEstimator.{ErleEstimator}
use Rattle.erle_estimator.specs.Erle.{Update, after_accepted}
use Rattle.trace_records.specs.Frames.{length_in, framed, record_in}
use Rattle.trace_records.specs.declared.judge.Standing.{Standing}
use Rattle.trace_records.specs.Records.{BlockRecord, block, block_in, decoded}
use Rattle.trace_records.specs.Judge.{content_refusal, record_refusal, refusal_in}
use Rattle.trace_records.proofs.Judged.{BlockOk, block-ok, form-passed, both-passed}
use Rattle.trace_text.specs.Text.{Item}
use Rattle.trace_state.specs.declared.Trace.{Trace}
use Rattle.trace_state.specs.Apply.{channels_of, standing_of, update_in, next_of, row_at}
use Rattle.trace_state.specs.Listing.{record_at, refusal_at}
use Rattle.trace_state.specs.Feed.{with_rows_due, first_due, Walk, finds_room, feed_from}
use Rattle.trace_blocks.specs.Steps.{RowsLeft, rows_written, is_block_frame, Ready, AfterBlock, Taken}
use Rattle.trace_state.specs.Apply.{is_block}
use Rattle.erle_estimator.proofs.Runs.{update-settings}
use Rattle.trace_state.proofs.Turning.{fed-taken}
use Rattle.trace_blocks.proofs.Due.{walk_with, fed-rows, rows-full}
use Rattle.trace_blocks.proofs.Frames.{BlockFrame, block_of, block-is, is-frame, record-size, frame-ends}
use Rattle.trace_blocks.proofs.Ready.{ready-after}

-- Feeding from the one walk and from the other ends alike, and the later state is ready for rows and blocks, with the settings of the earlier one.
pub record Going (s : List ℕ) (from now : Walk) : Type 0 where
  pub same : (ended : Bool) → feed_from s ended from ≡ feed_from s ended now
  pub ready : Ready now.state.estimator
  pub due : now.state.rows_due ≤ channels_of now.state.estimator
  pub onward : from.used ≤ now.used
  pub within : now.used ≤ length s
  pub long : length now.out ≡ length from.out
  pub settings : now.state.estimator.settings ≡ from.state.estimator.settings

-- ---- rows

module _ {s : List ℕ} {from now : Walk} (g : Going s from now) where
  abbrev n : ℕ
  n = channels_of now.state.estimator

  abbrev shows : ℕ → Item
  shows = row_at now.state.estimator now.state.band now.state.blocks

  module _ {r : RowsLeft} (given : rows_written shows n now.state.rows_due now.out now.at ≡ r) where
    pub going-rows :
        r.due ≤ now.state.rows_due → length r.out ≡ length now.out
        → Going s from (walk_with now.state now.used r)
    going-rows fewer long =
        record {
          same = λ ended.
              g.same ended
              ∙ fed-rows s ended now.state now.used now.state.rows_due g.due now.out now.at
              ∙ ap (λ x. feed_from s ended (walk_with now.state now.used x)) given;
          ready = g.ready;
          due = omega (arith, g.due);
          onward = g.onward;
          within = g.within;
          long = long ∙ g.long;
          settings = g.settings;
        }

    -- a row that is still due finds no room
    pub rows_end : 0 < r.due → finds_room (walk_with now.state now.used r) (first_due (with_rows_due now.state r.due)) ≡ false
    rows_end some = (rw given at (rows-full shows n now.state.rows_due now.out now.at)) some

-- ---- a block

-- bytes that begin with no block in form, or with one whose values are turned away, begin with none that is accepted
module _ (st : Standing) (s : List ℕ) (whole : framed s ≡ true) (kind : is_block (decoded st (record_in s)) ≡ true) (ok : refusal_in st (record_in s) ≡ accepted) where
  abbrev b : BlockRecord
  b = block_in st.num_capture_channels (record_in s)

  judged : record_refusal st (length (record_in s)) (block b) ≡ accepted
  judged = rw (block-is st (record_in s) kind) at ok

  pub not-in-form : is_block_frame st s ≡ false → ⊥
  not-in-form none =
      let frame : BlockFrame st s = record { whole = whole; kind = block-is st (record_in s) kind; form = (both-passed st (length (record_in s)) (block b) judged).0 } in
      true≢false (sym (is-frame st s frame) ∙ none)

  pub values-not-refused : (content_refusal (block b) ≡ accepted → ⊥) → ⊥
  values-not-refused some = some (both-passed st (length (record_in s)) (block b) judged).1

module _
    {s : List ℕ} {from now : Walk} (g : Going s from now)
    (none : now.state.rows_due ≡ 0) (frame : BlockFrame (standing_of now.state) (drop now.used s))
  where
    abbrev t : Trace
    t = now.state

    abbrev e : ErleEstimator
    e = t.estimator

    abbrev rest : List ℕ
    rest = drop now.used s

    abbrev bytes : List ℕ
    bytes = record_in rest

    -- the update that it is
    abbrev pub block_update : Update
    block_update = update_in (channels_of e) (block_in (channels_of e) bytes)

    pub block-form : BlockOk (standing_of t) (length bytes)
    block-form = block-ok (standing_of t) (length bytes) _ frame.form

    pub going-block :
        {k l blocks records : ℕ} {after : AfterBlock}
        → k ≡ channels_of e → Taken e bytes after → after.refused ≡ accepted → l ≡ length bytes → blocks ≡ one_more t.blocks → records ≡ one_more t.records
        → Going s from
        (record {
          state = record { estimator = after.estimator; band = t.band; blocks = blocks; records = records; rows_due = k };
          used = now.used + (4 + l);
          out = now.out;
          at = now.at;
        })
    unfolding next_of
    going-block {k} {l} {blocks} {records} {after} own-count taken fine long more-blocks more-records =
        let moved : after.estimator ≡ after_accepted e block_update = taken.state ∙ rw (eq-eqb _ _ fine) refl in
        let in-range : record_refusal (standing_of t) (length bytes) (block_of (standing_of t) bytes) ≡ accepted =
        form-passed (standing_of t) (length bytes) (block_of (standing_of t) bytes) frame.form ∙ sym taken.told ∙ fine in
        let passes : refusal_at t bytes ≡ accepted = rw frame.kind in-range in
        let next : next_of t (record_at t bytes) ≡ record { estimator = after.estimator; band = t.band; blocks = blocks; records = records; rows_due = k } =
        ap (next_of t) frame.kind ∙ (λ i. record { estimator = sym moved i; band = t.band; blocks = sym more-blocks i; records = sym more-records i; rows_due = sym own-count i }) in
        let place : now.used + (4 + length_in rest) ≡ now.used + (4 + l) = omega (arith, long, record-size _ frame.whole) in
        let kept = ap (λ (x : ErleEstimator). x.settings) moved ∙ update-settings e block_update in
        let as_many = ap (λ (x : ErleSettings). x.num_capture_channels) kept in
        record {
          same = λ ended.
              g.same ended ∙ fed-taken s ended now none frame.whole passes
              ∙ (λ i. feed_from s ended (record { state = next i; used = place i; out = now.out; at = now.at }));
          ready = rw moved (ready-after e block_update g.ready);
          due = omega arith;
          onward = omega (arith, g.onward);
          within = omega (arith, long, record-size _ frame.whole, frame-ends s now.used g.within frame);
          long = g.long;
          settings = kept ∙ g.settings;
        }
