-- The settings of an ERLE estimator, and what turns them away.
use Rattle.std.specs.Prelude.{ℕ, ◌+◌, ◌/◌, Bool, ◌&&◌, ◌||◌, from_bits, nat_le, Float}
use Rattle.std.specs.Float.{binary32}
use Rattle.std.specs.Float.Ieee.{le}
use Rattle.aec3_common.specs.declared.settings.ErleSettings.{ErleSettings}
use Rattle.aec3_common.specs.Binary32.{one32}
use Rattle.aec3_common.specs.Refusal.{from_to, unless, first_of, accepted, bad_limits, bad_channel_count, bad_sections}

-- the limits of the domain
abbrev pub max_capture_channels : ℕ
max_capture_channels = 4

abbrev pub max_render_channels : ℕ
max_render_channels = 2

abbrev pub max_sections : ℕ
max_sections = 8

abbrev pub max_filter_length_blocks : ℕ
max_filter_length_blocks = 16

abbrev pub max_headroom_samples : ℕ
max_headroom_samples = 1024

-- 100,000, above which no ERLE goes
abbrev pub greatest_erle : Float
greatest_erle = from_bits binary32 0x47c3_5000

-- headroom blocks: headroom samples divided by 64, rounded down
abbrev pub headroom_blocks : ℕ → ℕ
headroom_blocks samples = samples / 64

-- number 1: 1 ≤ min ≤ max_l, max_h ≤ 100,000
abbrev pub limits_ok : Float → Float → Float → Bool
limits_ok min max_l max_h = le one32 min && le min max_l && le min max_h && le max_l greatest_erle && le max_h greatest_erle

-- number 2, of capture channels and of render channels
abbrev pub capture_channels_ok : ℕ → Bool
capture_channels_ok n = from_to 1 max_capture_channels n

abbrev pub render_channels_ok : ℕ → Bool
render_channels_ok n = from_to 1 max_render_channels n

-- sections, filter length and headroom in their ranges
abbrev pub ranges_ok : ℕ → ℕ → ℕ → Bool
ranges_ok sections length samples =
    from_to 1 max_sections sections && from_to 1 max_filter_length_blocks length && nat_le samples max_headroom_samples

-- no more sections than the filter length less headroom blocks
abbrev pub room_for_sections : ℕ → ℕ → ℕ → Bool
room_for_sections sections length headroom = nat_le (sections + headroom) length

-- number 3: the ranges, and one section or room for all
unfoldable pub sections_ok : ℕ → ℕ → ℕ → Bool
sections_ok sections length samples =
    ranges_ok sections length samples && (nat_le sections 1 || room_for_sections sections length (headroom_blocks samples))

-- the first of 1 and 2, or 0
unfoldable pub limits_and_channels_refusal : Float → Float → Float → ℕ → ℕ
limits_and_channels_refusal min max_l max_h channels =
    unless (limits_ok min max_l max_h) bad_limits
    (unless (capture_channels_ok channels) bad_channel_count
    accepted)

-- the first of 1, 2 and 3, or 0
unfoldable pub sectioned_settings_refusal : Float → Float → Float → ℕ → ℕ → ℕ → ℕ → ℕ
sectioned_settings_refusal min max_l max_h channels sections length samples =
    first_of (limits_and_channels_refusal min max_l max_h channels)
    (unless (sections_ok sections length samples) bad_sections
    accepted)

-- of whole settings
unfoldable pub settings_refusal : ErleSettings → ℕ
settings_refusal s =
    sectioned_settings_refusal s.limits.min s.limits.max_l s.limits.max_h s.num_capture_channels
    s.layout.num_sections s.layout.filter_length_blocks s.layout.delay_headroom_samples
