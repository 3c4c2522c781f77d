use Rattle.std.proofs.Common.{◌≡◌, ◌+◌, ◌<◌, ◌≤◌, length, arith, ◌∙◌, rules, refl}
use Rattle.aec3_common.specs.Lists.{tab}
use Rattle.aec3_common.specs.Settings.{max_filter_length_blocks}
use Rattle.section_echoes.specs.Echoes.{render_sum}
use Rattle.section_echoes.proofs.Sums.{render-more, sums-over}
use Rattle.section_echoes.proofs.Tables.{part-long, part-below, part_at}
use Rattle.section_echoes.proofs.Walks.{position_at, position-fits}
use Rattle.section_echoes.proofs.renders.RingWalk.section_render.Goals as goal

pub loop-position-init : goal.loop-position-init
unfolding tab render_sum
loop-position-init c = refl

pub add_slot-requires : goal.add_slot-requires
add_slot-requires c =
    let walk = c.args.self.now in
    let n = c.loop-position.position-index in
    let long : length walk.positions ≡ max_filter_length_blocks = search rules in
    let within : c.args.to ≤ length walk.positions = omega arith in
    let below : c.args.from + n < max_filter_length_blocks = omega (arith, part-below c.args.from c.args.to walk.positions c.min.ensures within n c.loop-position-test.true) in
    rw (part_at c.args.from c.args.to walk.positions c.min.ensures within n 0 c.loop-position-test.true)
    (position-fits walk.ring walk.headroom walk.positions (c.args.from + n) walk.walked below walk.spectra.now walk.fits)

pub loop-position-preserved : goal.loop-position-preserved
loop-position-preserved c =
    let walk = c.args.self.now in
    let n = c.loop-position.position-index in
    let long : length walk.positions ≡ max_filter_length_blocks = search rules in
    let within : c.args.to ≤ length walk.positions = omega arith in
    let below : c.args.from + n < max_filter_length_blocks = omega (arith, part-below c.args.from c.args.to walk.positions c.min.ensures within n c.loop-position-test.true) in
    render-more walk.ring walk.spectra.now walk.headroom c.args.from n c.loop-position.sums c.loop-position.invariant
    (part_at c.args.from c.args.to walk.positions c.min.ensures within n 0 c.loop-position-test.true
    ∙ position_at walk.ring walk.headroom walk.positions (c.args.from + n) walk.walked below)
    walk.shared c.add_slot.ensures

pub returns : goal.returns
returns c =
    let walk = c.args.self.now in
    let long : length walk.positions ≡ max_filter_length_blocks = search rules in
    let within : c.args.to ≤ length walk.positions = omega arith in
    sums-over (render_sum walk.ring walk.spectra.now walk.headroom c.args.from) c.loop-position.invariant
    (omega (arith, part-long c.args.from c.args.to walk.positions c.min.ensures within))
