-- What a record does to the state of a trace, and the rows that it gives.
use Rattle.std.specs.Prelude.{Bool, true, false, ◌&&◌, ◌||◌, List, [], map, ℕ, ◌-◌, leb, eqb, drop, get_or}
use Rattle.std.specs.Float.{nan}
use Rattle.aec3_common.specs.declared.settings.ErleSettings.{ErleSettings}
use Rattle.aec3_common.specs.Binary32.{zero32}
use Rattle.aec3_common.specs.Counts.{one_more}
use Rattle.aec3_common.specs.Lists.{tab}
use Rattle.section_echoes.specs.declared.RenderRing.{RenderRing}
use Rattle.erle_estimator.specs.declared.ErleEstimator.{ErleEstimator}
use Rattle.erle_estimator.specs.Erle.{Update, state_ok, refused_settings, started_with, after_reset, after_accepted, streams_of}
use Rattle.trace_records.specs.declared.judge.Standing.{Standing}
use Rattle.trace_records.specs.Records.{BlockRecord, Record, settings, block, reset, unknown, is_set, erle_settings}
use Rattle.trace_text.specs.Text.{Item, row}
use Rattle.trace_state.specs.declared.Trace.{Trace}

-- the channels of the settings; before them there are none
abbrev pub channels_of : ErleEstimator → ℕ
channels_of e = e.settings.num_capture_channels

-- what a record is judged by
abbrev pub standing_of : Trace → Standing
standing_of t = record { num_capture_channels = channels_of t.estimator }

-- Before the first record: the estimator of settings that no start passes, which have no channels, so that no settings stand; nothing is counted,
-- and no row is due.
unfoldable pub beginning : Trace
beginning = record { estimator = started_with 0 0 refused_settings; band = 0; blocks = 0; records = 0; rows_due = 0 }

-- ---- number 20

-- one section and no headroom: settings records start no other estimator
abbrev pub one_section_no_headroom : ErleSettings → Bool
one_section_no_headroom g = eqb g.layout.num_sections 1 && eqb g.layout.delay_headroom_samples 0

-- No more rows are due than there are channels. Before settings nothing else is asked. After them 20 lets the estimator pass, and it has one
-- section and no headroom, as settings records start it.
unfoldable pub trace_ok : Trace → Bool
trace_ok t =
    let e = t.estimator in
    leb t.rows_due (channels_of e) && (eqb (channels_of e) 0 || (state_ok e && one_section_no_headroom e.settings))

-- ---- the estimator

-- With one section ring and responses change no figure: an estimator is lent a ring of one slot and one channel, all zeros, and no
-- responses.
abbrev pub silent_ring : RenderRing
silent_ring = record { slots = 1; channels = 1; position = 0 }

-- the update that a block of n channels is
unfoldable pub update_in : ℕ → BlockRecord → Update
update_in n b =
    record {
      channels = n;
      ring = silent_ring;
      spectra = tab 65 (λ k. zero32);
      counts = tab n (λ ch. 0);
      responses = [];
      render = b.render;
      capture = b.capture;
      residual = b.residual;
      converged = map is_set b.flags;
    }

-- ---- the state after an accepted record

-- Settings are a start, and say which band is printed; a block is an update, and counts as a block, over the whole trace, and its rows are
-- due; a reset is a reset. Every accepted record counts as a record.
unfoldable pub next_of : Trace → Record → Trace
next_of t (settings s) =
    record {
      estimator = started_with s.startup 0 (erle_settings s);
      band = s.band;
      blocks = t.blocks;
      records = one_more t.records;
      rows_due = 0;
    }
next_of t (block b) =
    record {
      estimator = after_accepted t.estimator (update_in (channels_of t.estimator) b);
      band = t.band;
      blocks = one_more t.blocks;
      records = one_more t.records;
      rows_due = channels_of t.estimator;
    }
next_of t (reset delay_flag) =
    record {
      estimator = after_reset t.estimator (is_set delay_flag);
      band = t.band;
      blocks = t.blocks;
      records = one_more t.records;
      rows_due = 0;
    }
next_of t unknown = t

unfoldable pub is_block : Record → Bool
is_block (settings s) = false
is_block (block b) = true
is_block (reset delay_flag) = false
is_block unknown = false

-- ---- rows

-- a channel's row: a block's number, the channel, and the figures of a band after the block
unfoldable pub row_at : ErleEstimator → (band number ch : ℕ) → Item
row_at e band number ch =
    let s = streams_of e ch in
    row number ch (get_or s.plain band nan) (get_or s.compensated band nan) (get_or s.unbounded band nan)

-- a row for each channel, after the latest block
unfoldable pub block_rows : Trace → List Item
block_rows t = tab (channels_of t.estimator) (row_at t.estimator t.band t.blocks)

-- a block gives the rows of the state after it; other records give none
unfoldable pub rows_of : Trace → Record → List Item
rows_of t (settings s) = []
rows_of t (block b) = block_rows (next_of t (block b))
rows_of t (reset delay_flag) = []
rows_of t unknown = []

-- those of them that are due: the last so many
unfoldable pub due_rows : Trace → List Item
due_rows t = drop (channels_of t.estimator - t.rows_due) (block_rows t)
