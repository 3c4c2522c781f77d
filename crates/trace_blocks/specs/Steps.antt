-- What inner functions of the code promise; no part of the definition.
use Rattle.std.specs.Prelude.{◌≡◌, Bool, true, false, cond, ◌&&◌, List, ℕ, zero, suc, ◌+◌, ◌-◌, ◌≤◌, ◌<◌, eqb, Float, length, drop, get_or}
use Rattle.std.specs.Float.{nan}
use Rattle.aec3_common.specs.Refusal.{accepted}
use Rattle.aec3_common.specs.Streams.{erle_of}
use Rattle.encoding.specs.Text.{laid, room}
use Rattle.fullband_erle_estimator.specs.FullBand.{channel_at as FullBand·channel_at}
use Rattle.subband_erle_estimator.specs.declared.channel.SubbandChannel.{SubbandChannel}
use Rattle.subband_erle_estimator.specs.Subband.{channel_at as Subband·channel_at}
use Rattle.erle_estimator.specs.declared.ErleEstimator.{ErleEstimator}
use Rattle.erle_estimator.specs.Parts.{subband_part, fullband_part}
use Rattle.erle_estimator.specs.Erle.{after_accepted}
use Rattle.trace_records.specs.Frames.{framed, record_in}
use Rattle.trace_records.specs.declared.judge.Standing.{Standing}
use Rattle.trace_records.specs.Records.{block, block_in, decoded}
use Rattle.trace_records.specs.Judge.{content_refusal, form_refusal}
use Rattle.trace_text.specs.Text.{Item, line}
use Rattle.trace_text.specs.declared.ChannelFigures.{ChannelFigures}
use Rattle.trace_state.specs.Apply.{channels_of, update_in, is_block}
use Rattle.trace_state.specs.Listing.{record_at, refusal_at}
use Rattle.trace_state.specs.Feed.{Walk, first_due, finds_room, feed_from}

-- ---- rows

-- a channel's figures where there is one section, of its subband record alone
unfoldable pub figures_of : Bool → ℕ → SubbandChannel → ChannelFigures
figures_of onset_detection band c =
    let shown = erle_of c.erle c.erle_onset_compensated true onset_detection in
    record { plain = get_or c.erle band nan; compensated = get_or shown band nan; uncapped = get_or c.erle_unbounded band nan }

-- rows written one behind the other, the last `due` of n, for as long as each finds room
pub record RowsLeft : Type 0 where
  pub out : List ℕ
  pub at : ℕ
  pub due : ℕ

unfoldable pub rows_written : (ℕ → Item) → (n due : ℕ) → List ℕ → ℕ → RowsLeft
rows_written f n zero d at = record { out = d; at = at; due = 0 }
rows_written f n (suc k) d at =
    let l = line (f (n - suc k)) in
    cond (room d at l) (rows_written f n k (laid d at l) (at + length l)) (record { out = d; at = at; due = suc k })

-- ---- blocks

-- bytes begin with a whole block whose form passes
unfoldable pub is_block_frame : Standing → List ℕ → Bool
is_block_frame st s =
    let r = decoded st (record_in s) in
    framed s && is_block r && eqb (form_refusal st (length (record_in s)) r) accepted

-- what blocks ask of a state: one section, and no more points than a record can hold
pub record Ready (e : ErleEstimator) : Type 0 where
  pub few : channels_of e ≤ 4
  pub section : 1 ≤ channels_of e → e.settings.layout.num_sections ≡ 1
  pub points : (ch : ℕ) → ch < channels_of e → (Subband·channel_at (subband_part e) ch).num_points ≤ 6
  pub points_fullband : (ch : ℕ) → ch < channels_of e → (FullBand·channel_at (fullband_part e) ch).instantaneous_erle.num_points ≤ 5

-- what taking a block leaves: the estimator after it, a table, and the number under which its values are turned away, or 0
pub record AfterBlock : Type 0 where
  pub estimator : ErleEstimator
  pub values : List Float
  pub refused : ℕ

-- its values are judged, and where they pass the estimator is the one after the block
pub record Taken (e : ErleEstimator) (r : List ℕ) (after : AfterBlock) : Type 0 where
  pub long : length after.values ≡ 585
  pub told : after.refused ≡ content_refusal (block (block_in (channels_of e) r))
  pub state : after.estimator ≡ cond (eqb after.refused accepted) (after_accepted e (update_in (channels_of e) (block_in (channels_of e) r))) e

-- Rows and blocks were taken from one walk to another: both end alike. At the second a row that is due finds no room, or none is due and the
-- bytes ahead begin with no block that is accepted.
pub record Ran (s : List ℕ) (before after : Walk) : Type 0 where
  pub same : (ended : Bool) → feed_from s ended before ≡ feed_from s ended after
  pub ready : Ready after.state.estimator
  pub due : after.state.rows_due ≤ channels_of after.state.estimator
  pub onward : before.used ≤ after.used
  pub within : after.used ≤ length s
  pub full : 0 < after.state.rows_due → finds_room after (first_due after.state) ≡ false
  pub no_block :
      after.state.rows_due ≡ 0 → framed (drop after.used s) ≡ true
      → is_block (record_at after.state (record_in (drop after.used s))) ≡ true
      → refusal_at after.state (record_in (drop after.used s)) ≡ accepted → ⊥
