-- Which slot of the ring each block of the filter reads.
use Rattle.std.specs.Prelude.{ℕ, zero, suc, ◌-◌, ◌*◌, pos}
use Rattle.spectrum_buffer.specs.Ring.{next_place, offset_place}

-- the place so many steps on in a ring of so many slots
unfoldable pub place_on : ℕ → ℕ → ℕ → ℕ
place_on slots place zero = place
place_on slots place (suc n) = next_place slots (place_on slots place n)

-- The ring walk begins headroom blocks after the read place, where the filter's block of that number reads; each later block reads
-- the next place.
unfoldable pub walked_place : ℕ → ℕ → ℕ → ℕ → ℕ
walked_place slots position headroom block = place_on slots (offset_place slots position (pos headroom)) (block - headroom)

-- one slot's length in the spectra: 65 numbers for each render channel
abbrev pub slot_length : ℕ → ℕ
slot_length channels = channels * 65
