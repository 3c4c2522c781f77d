-- The echo of each section of the filter, and the active section, band by band.
use Rattle.std.specs.Prelude.{Bool, cond, List, ℕ, zero, suc, ◌+◌, ◌-◌, ◌*◌, ltb, Float, get_or}
use Rattle.std.specs.Float.{binary32}
use Rattle.std.specs.Float.Ieee.{of_bits, add, mul, div, le}
use Rattle.aec3_common.specs.Binary32.{zero32, one32}
use Rattle.aec3_common.specs.Lists.{tab}
use Rattle.aec3_common.specs.Log2.{rounded}
use Rattle.aec3_common.specs.Spectra.{band_of, sum_from, sum}
use Rattle.section_echoes.specs.declared.RenderRing.{RenderRing}
use Rattle.section_echoes.specs.Walk.{walked_place}

-- ---- echoes

-- 1/channels
abbrev pub render_share : ℕ → Float
render_share channels = div binary32 one32 (rounded channels)

-- a render channel's power in a band, in the slot that a block reads; the spectra stand slot by slot and channel by channel
unfoldable pub render_at : RenderRing → List Float → ℕ → ℕ → ℕ → ℕ → Float
render_at ring spectra headroom block ch k =
    band_of spectra (walked_place ring.slots ring.position headroom block * ring.channels + ch) k

-- The render power of so many blocks in a band: each value times 1/channels, then added, block by block and channel by channel,
-- beginning at plus zero.
unfoldable pub render_sum : RenderRing → List Float → ℕ → ℕ → ℕ → ℕ → Float
render_sum ring spectra headroom from zero k = zero32
render_sum ring spectra headroom from (suc n) k =
    sum_from (render_sum ring spectra headroom from n k)
    (tab ring.channels (λ ch. mul binary32 (render_at ring spectra headroom (from + n) ch k) (render_share ring.channels)))

-- the responses of so many blocks in a band, added up; they stand block by block
unfoldable pub response_sum : List Float → ℕ → ℕ → ℕ → Float
response_sum responses from n k = sum (tab n (λ j. band_of responses (from + j) k))

-- the smaller of two numbers of blocks
abbrev pub fewer : ℕ → ℕ → ℕ
fewer a b = cond (ltb b a) b a

-- a section's blocks begin at its boundary
abbrev pub section_begin : List ℕ → ℕ → ℕ
section_begin boundaries section = get_or boundaries section 0

-- and go to below the next one; so many of them have a response, the others are skipped
abbrev pub section_blocks : List ℕ → ℕ → ℕ → ℕ
section_blocks boundaries count section = fewer (section_begin boundaries (section + 1)) count - section_begin boundaries section

-- the render power of a section's blocks, where a channel has so many responses
unfoldable pub section_render : RenderRing → List Float → ℕ → List ℕ → ℕ → ℕ → ℕ → Float
section_render ring spectra headroom boundaries count section k =
    render_sum ring spectra headroom (section_begin boundaries section) (section_blocks boundaries count section) k

unfoldable pub section_response : List Float → List ℕ → ℕ → ℕ → ℕ → Float
section_response responses boundaries count section k =
    response_sum responses (section_begin boundaries section) (section_blocks boundaries count section) k

-- The echo of a section: (sum of render) times (sum of responses).
unfoldable pub section_echo : RenderRing → List Float → ℕ → List ℕ → ℕ → List Float → ℕ → ℕ → Float
section_echo ring spectra headroom boundaries count responses section k =
    mul binary32 (section_render ring spectra headroom boundaries count section k) (section_response responses boundaries count section k)

-- The echoes of the sections up to one, summed on over the sections.
unfoldable pub echo_sum : (ℕ → Float) → ℕ → Float
echo_sum echo zero = echo zero
echo_sum echo (suc s) = add binary32 (echo (suc s)) (echo_sum echo s)

-- ---- the active section

-- 0.9
abbrev pub active_share : Float
active_share = of_bits binary32 0x3f66_6666

-- whether a section's sum is at least 0.9 of the total, which is the last section's
abbrev pub reached : ℕ → (ℕ → Float) → ℕ → Bool
reached sections sums section = le (mul binary32 active_share (sums (sections - 1))) (sums section)

-- from below n down, the least section reached without a gap; n where section n - 1 is not reached
unfoldable pub least_reached : (ℕ → Bool) → ℕ → ℕ
least_reached is_reached zero = zero
least_reached is_reached (suc n) = cond (is_reached n) (least_reached is_reached n) (suc n)

-- The active section: from the last section down, the least reached without a gap. Where not even the last is, which no sums of
-- powers show, it is 0, as in the source.
unfoldable pub active_section : ℕ → (ℕ → Float) → ℕ
active_section sections sums =
    let least = least_reached (reached sections sums) sections in
    cond (ltb least sections) least 0

-- the active section of each band of a channel
unfoldable pub active_sections : RenderRing → List Float → ℕ → List ℕ → ℕ → ℕ → List Float → List ℕ
active_sections ring spectra headroom boundaries sections count responses =
    tab 65
    (λ k.
    active_section sections (echo_sum (λ s. section_echo ring spectra headroom boundaries count responses s k)))
