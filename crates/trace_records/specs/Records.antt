-- What a record says: its bytes, decoded once. They are two bytes of kind and the body; places are counted from the kind on.
use Rattle.std.specs.Prelude.{ℕ, ◌+◌, ◌*◌, ◌/◌, ◌%◌, Bool, true, cond, List, eqb, Float}
use Rattle.std.specs.Float.{binary32}
use Rattle.std.specs.Float.Ieee.{of_bits}
use Rattle.aec3_common.specs.declared.settings.ErleSettings.{ErleSettings}
use Rattle.aec3_common.specs.Lists.{tab}
use Rattle.encoding.specs.Bytes.{byte_at, half_at, word_at}
use Rattle.trace_records.specs.declared.records.SettingsRecord.{SettingsRecord}
use Rattle.trace_records.specs.declared.judge.Standing.{Standing}

-- a block: a flag byte for each channel, render power, and the capture and the residual power of all channels, channel by channel
pub record BlockRecord : Type 0 where
  pub flags : List ℕ
  pub render : List Float
  pub capture : List Float
  pub residual : List Float

-- A record by its kind. Flags are the bytes that stand there; which ones are bad is for the judging to say.
pub data Record : Type 0 where
  settings : SettingsRecord → Record
  block : BlockRecord → Record
  reset : (delay_flag : ℕ) → Record
  unknown : Record

-- ---- single numbers

-- the binary32 number whose bits stand at place i
unfoldable pub value_at : List ℕ → ℕ → Float
value_at r i = of_bits binary32 (word_at r i)

-- what a flag byte says: 1 is yes
abbrev pub is_set : ℕ → Bool
is_set b = eqb b 1

-- ---- settings: min, max_l, max_h, capture channels, onset flag, startup count, printed band

unfoldable pub settings_in : List ℕ → SettingsRecord
settings_in r =
    record {
      limits = record { min = value_at r 2; max_l = value_at r 6; max_h = value_at r 10 };
      num_capture_channels = byte_at r 14;
      onset_flag = byte_at r 15;
      startup = word_at r 16;
      band = byte_at r 20;
    }

-- The settings of the estimator that they start. There is one section, so that filter length and headroom change no figure. The quality
-- clamps change none that is printed.
unfoldable pub erle_settings : SettingsRecord → ErleSettings
erle_settings s =
    record {
      limits = s.limits;
      onset_detection = is_set s.onset_flag;
      num_capture_channels = s.num_capture_channels;
      layout = record { num_sections = 1; filter_length_blocks = 1; delay_headroom_samples = 0 };
      clamp_quality_estimate_to_zero = true;
      clamp_quality_estimate_to_one = true;
    }

-- ---- a block of n channels: a converged flag for each, render power, and of each channel capture power, then residual power

abbrev pub converged_byte : List ℕ → ℕ → ℕ
converged_byte r ch = byte_at r (2 + ch)

unfoldable pub flags_in : ℕ → List ℕ → List ℕ
flags_in n r = tab n (converged_byte r)

-- 65 numbers of four bytes, from place i on
unfoldable pub spectrum_at : List ℕ → ℕ → List Float
spectrum_at r i = tab 65 (λ k. value_at r (i + 4 * k))

-- render power begins behind the flags
abbrev pub render_place : ℕ → ℕ
render_place n = 2 + n

unfoldable pub render_in : ℕ → List ℕ → List Float
render_in n r = spectrum_at r (render_place n)

-- One spectrum of each of n channels, channel by channel. Channel 0's is at place i. Each channel has two in the record, so that
-- the next channel's is 520 bytes on.
unfoldable pub spectra_at : ℕ → List ℕ → ℕ → List Float
spectra_at n r i = tab (n * 65) (λ k. value_at r (i + k / 65 * 520 + 4 * (k % 65)))

-- capture power of channel 0 begins behind render power, and its residual power behind that
abbrev pub capture_place : ℕ → ℕ
capture_place n = render_place n + 260

abbrev pub residual_place : ℕ → ℕ
residual_place n = capture_place n + 260

unfoldable pub capture_in : ℕ → List ℕ → List Float
capture_in n r = spectra_at n r (capture_place n)

unfoldable pub residual_in : ℕ → List ℕ → List Float
residual_in n r = spectra_at n r (residual_place n)

unfoldable pub block_in : ℕ → List ℕ → BlockRecord
block_in n r = record { flags = flags_in n r; render = render_in n r; capture = capture_in n r; residual = residual_in n r }

-- ---- a reset: whether the delay changed

abbrev pub delay_flag_in : List ℕ → ℕ
delay_flag_in r = byte_at r 2

-- ---- a record

abbrev pub kind_of : List ℕ → ℕ
kind_of r = half_at r 0

abbrev pub settings_kind : ℕ
settings_kind = 0x0001

abbrev pub block_kind : ℕ
block_kind = 0x0002

abbrev pub reset_kind : ℕ
reset_kind = 0x0003

-- the record that bytes hold: a block has the channels of the settings that stand
unfoldable pub decoded : Standing → List ℕ → Record
decoded st r =
    cond (eqb (kind_of r) settings_kind) (settings (settings_in r))
    (cond (eqb (kind_of r) block_kind) (block (block_in st.num_capture_channels r))
    (cond (eqb (kind_of r) reset_kind) (reset (delay_flag_in r))
    unknown))
