-- Where the ring walk is.
use mathlib.Core.Path.{◌≡◌, refl, sym, ap, ◌∙◌}
use mathlib.Core.List.{List}
use Prim.Native.Nat.{ℕ, zero, suc, ◌+◌, ◌-◌, ◌*◌, ◌%◌, ◌≤◌, ◌<◌}
use native.Mathlib.Nat.{add-zero, mod-lt, mod-eq_of_lt, mod-add-mod, mul-le-mul, mul-le-mul_right, suc-mul}
use native.Mathlib.Omega.{arith}
use lib.IntN.{pos}
use lib.Ieee.{Float}
use borrow.Author.Tests.{eqb-true, eqb-false, ltb-true, ltb-false}
use borrow.Rule.Slice.PartMut.{put_mid}
use mathlib.Core.Bool.{Bool, true, false}
use lib.Dec.{eqb, ltb}
use lib.ListN.{length, get_or, set, length-set}
use lib.Seq.{get_or-set_same, get_or-set_other}
use Rattle.aec3_common.specs.Lists.{tab}
use Rattle.aec3_common.proofs.Tables.{length-tab, get_or-tab, tab-is}
use Rattle.section_echoes.proofs.Tables.{ended-long, ended-below, ended_at}
use Rattle.spectrum_buffer.specs.Ring.{next_place, offset_place, max_slots}
use Rattle.spectrum_buffer.proofs.Walks.{places-on, place-on}
use Rattle.section_echoes.specs.declared.RenderRing.{RenderRing}
use Rattle.section_echoes.specs.Walk.{place_on, walked_place, slot_length}
use Rattle.section_echoes.specs.Steps.{RingFits, walked_positions}
use Rattle.aec3_common.specs.Settings.{max_filter_length_blocks}

-- n places on: the sum's remainder
pub place_after : (slots place n : ℕ) → place < slots → place_on slots place n ≡ (place + n) % slots
unfolding place_on
place_after slots place zero h = sym (ap (λ (m : ℕ). m % slots) (add-zero place) ∙ mod-eq_of_lt h)
place_after slots place (suc n) h =
    let here : place_on slots place n ≡ (place + n) % slots = place_after slots place n h in
    let next : place + n + 1 ≡ place + suc n = omega arith in
    place-on slots (place_on slots place n) (rw here (mod-lt (place + n) (omega arith)))
    ∙ ap (λ (m : ℕ). (m + 1) % slots) here
    ∙ mod-add-mod (place + n) slots 1
    ∙ ap (λ (m : ℕ). m % slots) next

module _ (slots position headroom block : ℕ) (h : position < slots) where
  pub walked-place : walked_place slots position headroom block ≡ (position + headroom + (block - headroom)) % slots
  unfolding walked_place
  walked-place =
      let first : offset_place slots position (pos headroom) ≡ (position + headroom) % slots = places-on slots position headroom in
      place_after slots (offset_place slots position (pos headroom)) (block - headroom) (rw first (mod-lt (position + headroom) (omega arith)))
      ∙ ap (λ (m : ℕ). (m + (block - headroom)) % slots) first
      ∙ mod-add-mod (position + headroom) slots (block - headroom)

  pub walked-below : walked_place slots position headroom block < slots
  walked-below = rw walked-place (mod-lt (position + headroom + (block - headroom)) (omega arith))

-- up to its first block the walk stands where it begins
pub walked-first : (slots position headroom block : ℕ) → block ≤ headroom → offset_place slots position (pos headroom) ≡ walked_place slots position headroom block
unfolding walked_place place_on
walked-first slots position headroom block h =
    let none : 0 ≡ block - headroom = omega arith in
    ap (λ (n : ℕ). place_on slots (offset_place slots position (pos headroom)) n) none

-- and then goes one place on with each block
pub walked_next : (slots position headroom block : ℕ) → headroom < block → next_place slots (walked_place slots position headroom (block - 1)) ≡ walked_place slots position headroom block
unfolding walked_place place_on
walked_next slots position headroom block h =
    let one : suc (block - 1 - headroom) ≡ block - headroom = omega arith in
    ap (λ (n : ℕ). place_on slots (offset_place slots position (pos headroom)) n) one

-- ---- the loop

-- where the slot of a block begins
abbrev pub position_of : RenderRing → ℕ → ℕ → ℕ
position_of ring headroom block = walked_place ring.slots ring.position headroom block * slot_length ring.channels

-- so many blocks behind the headroom have their positions: the walk stands at the place of the last of them
pub record Walking (ring : RenderRing) (headroom place : ℕ) (behind : List ℕ) (n : ℕ) : Type 0 where
  pub here : place ≡ walked_place ring.slots ring.position headroom (headroom + n)
  pub long : length behind ≡ max_filter_length_blocks - (headroom + 1)
  pub done : (j : ℕ) → j < n → get_or behind j 0 ≡ position_of ring headroom (headroom + 1 + j)

module _ (ring : RenderRing) (headroom : ℕ) where
  pub walking-begun :
      (place : ℕ) {behind : List ℕ} → place ≡ offset_place ring.slots ring.position (pos headroom)
      → length behind ≡ max_filter_length_blocks - (headroom + 1) → Walking ring headroom place behind 0
  walking-begun place at long =
      record { here = at ∙ walked-first ring.slots ring.position headroom (headroom + 0) (omega arith); long = long; done = λ j h. absurd (omega arith) }

  module _ {behind : List ℕ} {place n : ℕ} (w : Walking ring headroom place behind n) where
    -- the next place is the next block's
    pub walking_on : (next : ℕ) → next ≡ next_place ring.slots place → next ≡ walked_place ring.slots ring.position headroom (headroom + 1 + n)
    walking_on next e =
        let before : headroom + n ≡ headroom + 1 + n - 1 = omega arith in
        e
        ∙ ap (next_place ring.slots) (w.here ∙ ap (walked_place ring.slots ring.position headroom) before)
        ∙ walked_next ring.slots ring.position headroom (headroom + 1 + n) (omega arith)

    pub walking-more :
        (next : ℕ) → next ≡ next_place ring.slots place → n < length behind
        → Walking ring headroom next (set behind n (next * slot_length ring.channels)) (n + 1)
    walking-more next e h =
        record {
          here = walking_on next e ∙ ap (walked_place ring.slots ring.position headroom) last;
          long = length-set behind n position ∙ w.long;
          done = λ j b. at j (eqb j n) refl b;
        }
      where
        position : ℕ
        position = next * slot_length ring.channels

        last : headroom + 1 + n ≡ headroom + (n + 1)
        last = omega arith

        at : (j : ℕ) (t : Bool) → eqb j n ≡ t → j < n + 1 → get_or (set behind n position) j 0 ≡ position_of ring headroom (headroom + 1 + j)
        at j true q b =
            let same : n ≡ j = omega (arith, eqb-true j n q) in
            ap (λ (i : ℕ). get_or (set behind n position) i 0) (sym same)
            ∙ get_or-set_same behind n position 0 h
            ∙ ap (λ (p : ℕ). p * slot_length ring.channels) (walking_on next e)
            ∙ ap (λ (i : ℕ). position_of ring headroom (headroom + 1 + i)) same
        at j false q b =
            get_or-set_other behind n j position 0 (λ same. eqb-false j n q same)
            ∙ w.done j (omega (arith, eqb-false j n q))

    pub walking-over :
        (first : ℕ) → first ≡ offset_place ring.slots ring.position (pos headroom) → headroom < max_filter_length_blocks → length behind ≤ n
        → put_mid (headroom + 1) (max_filter_length_blocks - (headroom + 1)) (tab max_filter_length_blocks (λ j. first * slot_length ring.channels)) behind
        ≡ walked_positions ring headroom
    unfolding walked_positions
    walking-over first at few over =
        tab-is max_filter_length_blocks 0 (position_of ring headroom) all
        (ended-long (headroom + 1) max_filter_length_blocks before behind (omega arith) long w.long)
        (λ j b. entry j b (ltb j (headroom + 1)) refl)
      where
        before : List ℕ
        before = tab max_filter_length_blocks (λ j. first * slot_length ring.channels)

        long : length before ≡ max_filter_length_blocks
        long = length-tab max_filter_length_blocks (λ j. first * slot_length ring.channels)

        all : List ℕ
        all = put_mid (headroom + 1) (max_filter_length_blocks - (headroom + 1)) before behind

        entry : (j : ℕ) → j < max_filter_length_blocks → (t : Bool) → ltb j (headroom + 1) ≡ t → get_or all j 0 ≡ position_of ring headroom j
        entry j b true q =
            let under : j < headroom + 1 = ltb-true j (headroom + 1) q in
            ended-below (headroom + 1) max_filter_length_blocks before behind (omega arith) long w.long j 0 under
            ∙ get_or-tab max_filter_length_blocks (λ i. first * slot_length ring.channels) j 0 b
            ∙ ap (λ (p : ℕ). p * slot_length ring.channels) (at ∙ walked-first ring.slots ring.position headroom j (omega arith))
        entry j b false q =
            let from : headroom + 1 ≤ j = ltb-false j (headroom + 1) q in
            let here : headroom + 1 + (j - (headroom + 1)) ≡ j = omega arith in
            ended_at (headroom + 1) max_filter_length_blocks before behind (omega arith) long w.long j 0 from b
            ∙ w.done (j - (headroom + 1)) (omega (arith, w.long))
            ∙ ap (position_of ring headroom) here

-- ---- in the spectra

-- a place's position is small
pub position-small : (place slots channels : ℕ) → place < slots → slots ≤ max_slots → channels ≤ 2 → place * slot_length channels ≤ max_slots * 130
position-small place slots channels h few pair = mul-le-mul {n₁ = place} {m₁ = channels * 65} {n₂ = max_slots} {m₂ = 130} (omega arith) (omega arith)

module _ (ring : RenderRing) (headroom : ℕ) (positions : List ℕ) (block : ℕ) (are : positions ≡ walked_positions ring headroom) (h : block < max_filter_length_blocks) where
  pub position_at : get_or positions block 0 ≡ position_of ring headroom block
  unfolding walked_positions
  position_at = ap (λ (l : List ℕ). get_or l block 0) are ∙ get_or-tab max_filter_length_blocks (position_of ring headroom) block 0 h

  -- the slot at a block's position lies in the spectra
  pub position-fits : (spectra : List Float) → RingFits ring spectra → get_or positions block 0 + ring.channels * 65 ≤ length spectra
  position-fits spectra fits =
      rw (position_at, fits.long, ← suc-mul)
      (mul-le-mul_right (slot_length ring.channels) (walked-below ring.slots ring.position headroom block fits.place))
