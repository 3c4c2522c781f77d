use Rattle.std.proofs.Common.{rules, to_z, w64, ◌≡◌, ℕ, ◌*◌, ◌+◌, ◌<◌, ◌≤◌, pos, arith, ap, ◌∙◌, le_refl}
use mir.Facts.{to_z-of_z}
use Rattle.aec3_common.specs.Lists.{tab}
use Rattle.spectrum_buffer.specs.Ring.{offset_place, max_slots}
use Rattle.aec3_common.specs.Settings.{max_filter_length_blocks}
use Rattle.section_echoes.specs.declared.RenderRing.{RenderRing}
use Rattle.section_echoes.specs.Walk.{walked_place}
use Rattle.section_echoes.proofs.Walks.{walking-begun, walking_on, walking-more, walking-over, walked-first, walked-below, position-small}
use Rattle.section_echoes.proofs.walk.walked_positions.Goals as goal

-- the machine reads headroom as itself
begins :
    (slots position headroom : ℕ) {place : ℕ}
    → headroom < max_filter_length_blocks → place ≡ offset_place slots position (to_z w64 headroom) → place ≡ offset_place slots position (pos headroom)
begins slots position headroom few at =
    at ∙ ap (offset_place slots position) (to_z-of_z {w = w64} {z = pos headroom} (record { sfits = omega arith }))

-- a place that the walk takes has a small position
small :
    (ring : RenderRing) (headroom place block : ℕ)
    → place ≡ walked_place ring.slots ring.position headroom block
    → ring.position < ring.slots → ring.slots ≤ max_slots → ring.channels ≤ 2 → place * (ring.channels * 65) ≤ max_slots * 130
small ring headroom place block at here few pair =
    position-small place ring.slots ring.channels (rw at (walked-below ring.slots ring.position headroom block here)) few pair

pub overflow_mul-r : goal.overflow_mul-r
overflow_mul-r c =
    let begun = walked-first c.args.ring.slots c.args.ring.position c.args.headroom c.args.headroom (le_refl _) in
    record {
      fits =
          omega (
            arith,
            small c.args.ring c.args.headroom c.offset_place-place.result c.args.headroom (begins c.args.ring.slots c.args.ring.position c.args.headroom c.requires.3 c.offset_place-place.ensures ∙ begun) c.requires.0 c.requires.1 c.requires.2,
          );
    }

pub loop-position-init : goal.loop-position-init
loop-position-init c = walking-begun _ _ c.offset_place-place.result (begins c.args.ring.slots c.args.ring.position c.args.headroom c.requires.3 c.offset_place-place.ensures) (omega arith)

pub overflow_mul-position : goal.overflow_mul-position
overflow_mul-position c =
    record {
      fits =
          omega (
            arith,
            small c.args.ring c.args.headroom c.next_place-place.result (c.args.headroom + 1 + c.loop-position.position-index)
                (walking_on _ _ c.loop-position.invariant _ c.next_place-place.ensures)
                c.requires.0 c.requires.1 c.requires.2,
          );
    }

pub loop-position-preserved : goal.loop-position-preserved
loop-position-preserved c = walking-more _ _ c.loop-position.invariant c.next_place-place.result c.next_place-place.ensures (search rules)

pub returns : goal.returns
unfolding tab
returns c = walking-over _ _ c.loop-position.invariant c.offset_place-place.result (begins c.args.ring.slots c.args.ring.position c.args.headroom c.requires.3 c.offset_place-place.ensures) c.requires.3 (search rules)
