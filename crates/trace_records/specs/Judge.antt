-- Which number turns a record away, or 0. It is judged by what stands of the trace before it, and by nothing else. Number 10 is judged first, of
-- the bytes, before there is a record; its rule stands at the end, since it needs that of a record.
use Rattle.std.specs.Prelude.{ℕ, ◌+◌, ◌*◌, Bool, true, cond, not, ◌&&◌, ◌||◌, List, ◌++◌, leb, ltb, eqb, length}
use Rattle.aec3_common.specs.Calls.{value_refusal}
use Rattle.std.specs.List.{list_all}
use Rattle.aec3_common.specs.Refusal.{unless, first_of, accepted, bad_frame, unknown_kind, bad_record_length, bad_flag_or_band, no_settings, second_settings}
use Rattle.aec3_common.specs.Settings.{capture_channels_ok, limits_and_channels_refusal}
use Rattle.trace_records.specs.declared.judge.Standing.{Standing}
use Rattle.trace_records.specs.Frames.{length_in, length_ok, framed, record_in}
use Rattle.trace_records.specs.Records.{Record, settings, block, reset, unknown, decoded}

-- ---- what stands

-- before the first record: no settings, and so no channels
abbrev pub nothing_stands : Standing
nothing_stands = record { num_capture_channels = 0 }

-- settings stand where the channel count is one to four, as accepted settings have it
abbrev pub stands : Standing → Bool
stands st = capture_channels_ok st.num_capture_channels

-- what stands after a record that is accepted: only settings change it
unfoldable pub standing_after : Standing → Record → Standing
standing_after st (settings s) = record { num_capture_channels = s.num_capture_channels }
standing_after st (block b) = st
standing_after st (reset delay_flag) = st
standing_after st unknown = st

-- ---- the judging, by kinds

-- 11, or 22 or 23 for its place in the trace
unfoldable pub place_refusal : Standing → Record → ℕ
place_refusal st (settings s) = unless (not (stands st)) second_settings accepted
place_refusal st (block b) = unless (stands st) no_settings accepted
place_refusal st (reset delay_flag) = unless (stands st) no_settings accepted
place_refusal st unknown = unknown_kind

-- 12: the L of its kind. An unknown one has none, and is not asked for it.
abbrev pub settings_length : ℕ
settings_length = 21

abbrev pub block_length : ℕ → ℕ
block_length channels = 262 + 521 * channels

abbrev pub reset_length : ℕ
reset_length = 3

unfoldable pub length_asked : Standing → Record → ℕ
length_asked st (settings s) = settings_length
length_asked st (block b) = block_length st.num_capture_channels
length_asked st (reset delay_flag) = reset_length
length_asked st unknown = 0

-- 13: every flag byte is 0 or 1, and the printed band is at most 64
abbrev pub flag_ok : ℕ → Bool
flag_ok b = leb b 1

abbrev pub band_ok : ℕ → Bool
band_ok band = leb band 64

unfoldable pub flags_ok : Record → Bool
flags_ok (settings s) = flag_ok s.onset_flag && band_ok s.band
flags_ok (block b) = list_all flag_ok b.flags
flags_ok (reset delay_flag) = flag_ok delay_flag
flags_ok unknown = true

-- its content: the first of 1 and 2 for settings, 6 for a block, or 0
unfoldable pub content_refusal : Record → ℕ
content_refusal (settings s) = limits_and_channels_refusal s.limits.min s.limits.max_l s.limits.max_h s.num_capture_channels
content_refusal (block b) = value_refusal (b.render ++ b.capture ++ b.residual)
content_refusal (reset delay_flag) = accepted
content_refusal unknown = accepted

-- ---- the judging of a record with such an L

-- its form: the first of 11, 22 or 23, 12 and 13, or 0
unfoldable pub form_refusal : Standing → ℕ → Record → ℕ
form_refusal st l r =
    first_of (place_refusal st r)
    (unless (eqb l (length_asked st r)) bad_record_length
    (unless (flags_ok r) bad_flag_or_band
    accepted))

-- the first of 11, 22 or 23, 12, 13, 1, 2 and 6, or 0
unfoldable pub record_refusal : Standing → ℕ → Record → ℕ
record_refusal st l r = first_of (form_refusal st l r) (content_refusal r)

-- of a record in bytes
abbrev pub refusal_in : Standing → List ℕ → ℕ
refusal_in st r = record_refusal st (length r) (decoded st r)

-- ---- the judging of the bytes that are yet to be read

-- Bytes that begin with no whole record are no fault if there are none; or if the trace has not ended, so that more may follow, and no L
-- stands there that a record cannot have.
unfoldable pub may_go_on : (ended : Bool) → List ℕ → Bool
may_go_on ended s = eqb (length s) 0 || (not ended && (ltb (length s) 4 || length_ok (length_in s)))

-- of a whole record its own number; else 10, or 0
unfoldable pub refusal_ahead : Standing → (ended : Bool) → List ℕ → ℕ
refusal_ahead st ended s = cond (framed s) (refusal_in st (record_in s)) (unless (may_go_on ended s) bad_frame accepted)
