-- What inner functions of the code promise or ask; no part of the definition.
use Rattle.std.specs.Prelude.{◌≡◌, cond, List, [], ℕ, ◌+◌, ◌*◌, ◌≤◌, ◌<◌, ltb, Float, length, get_or, take, drop}
use Rattle.std.specs.Float.{nan, binary32}
use Rattle.std.specs.Float.Ieee.{mul}
use Rattle.aec3_common.specs.Binary32.{zero32}
use Rattle.aec3_common.specs.Lists.{tab}
use Rattle.aec3_common.specs.Spectra.{sum_from}
use Rattle.section_echoes.specs.declared.RenderRing.{RenderRing}
use Rattle.section_echoes.specs.Walk.{walked_place, slot_length}
use Rattle.section_echoes.specs.Echoes.{section_render, section_response, echo_sum, active_sections}
use Rattle.section_echoes.specs.Packed.{responses_of}
use Rattle.aec3_common.specs.Settings.{max_filter_length_blocks}
use Rattle.spectrum_buffer.specs.Ring.{max_slots}

-- 65 entries
abbrev pub bands : {A : Type 0} → (ℕ → A) → List A
bands f = tab 65 f

-- where the slots begin in the spectra that the filter's blocks read
unfoldable pub walked_positions : RenderRing → ℕ → List ℕ
walked_positions ring headroom =
    tab max_filter_length_blocks (λ block. walked_place ring.slots ring.position headroom block * slot_length ring.channels)

-- the 65 numbers from a position on
unfoldable pub numbers_from : List Float → ℕ → List Float
numbers_from spectra position = take 65 (drop position spectra)

-- each band with a slot's powers added, channel by channel, each times a share
unfoldable pub with_slot : List Float → ℕ → ℕ → Float → List Float → List Float
with_slot spectra position channels share sums =
    bands
    (λ k.
    sum_from (get_or sums k nan) (tab channels (λ ch. mul binary32 (get_or (numbers_from spectra (position + ch * 65)) k nan) share)))

-- the sums of the first sections, each 65 bands; zeros behind them
unfoldable pub first_sections : ℕ → (ℕ → ℕ → Float) → List (List Float)
first_sections sections f = tab 8 (λ s. bands (λ k. cond (ltb s sections) (f s k) zero32))

unfoldable pub render_sums : RenderRing → List Float → ℕ → List ℕ → ℕ → ℕ → List (List Float)
render_sums ring spectra headroom boundaries sections count =
    first_sections sections (λ s k. section_render ring spectra headroom boundaries count s k)

-- a section's number in a band
abbrev pub sum_at : List (List Float) → ℕ → ℕ → Float
sum_at sums s k = get_or (get_or sums s []) k nan

-- the echo sums that render sums and responses give
unfoldable pub echo_sums : List (List Float) → List Float → List ℕ → ℕ → ℕ → List (List Float)
echo_sums render responses boundaries sections count =
    first_sections sections
    (λ s k. echo_sum (λ t. mul binary32 (sum_at render t k) (section_response responses boundaries count t k)) s)

-- what makes a ring safe to walk: its place is one of its slots, and its spectra have the length that its counts ask
pub record RingFits (ring : RenderRing) (spectra : List Float) : Type 0 where
  pub slots : ring.slots ≤ max_slots
  pub channels : ring.channels ≤ 2
  pub place : ring.position < ring.slots
  pub long : length spectra ≡ ring.slots * slot_length ring.channels

-- the active sections of each channel that has a count of responses; zeros behind them
unfoldable pub all_active : RenderRing → List Float → ℕ → List ℕ → ℕ → List ℕ → List Float → List (List ℕ)
all_active ring spectra headroom boundaries sections counts responses =
    tab 4
    (λ ch.
    cond (ltb ch (length counts))
    (active_sections ring spectra headroom boundaries sections (get_or counts ch 0) (responses_of counts responses ch))
    (bands (λ k. 0)))
