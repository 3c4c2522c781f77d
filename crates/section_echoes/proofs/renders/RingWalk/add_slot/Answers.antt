use Rattle.std.proofs.Common.{◌≡◌, [], List, Float, get_or, ap, ◌∙◌, rules, arith}
use Rattle.std.specs.Float.{nan, binary32}
use Rattle.std.specs.Float.Ieee.{add, mul}
use Rattle.aec3_common.proofs.Changes.{changed-all}
use Rattle.section_echoes.proofs.Sums.{with_shares, slot-none, slot-more, slot-over, slot_chunk, slot_chunks-long}
use Rattle.section_echoes.proofs.renders.RingWalk.add_slot.Goals as goal

pub loop-powers-init : goal.loop-powers-init
loop-powers-init c = slot-none _ _ _ _ (search rules)

pub loop-powers-preserved : goal.loop-powers-preserved
loop-powers-preserved c =
    let spectra = c.args.self.now.spectra.now in
    let share = c.args.self.now.share in
    let ch = c.loop-powers.powers-index in
    let powers = get_or c.as_chunks.result.0.now ch [] in
    changed-all nan (λ k sum. add binary32 sum (mul binary32 (get_or powers k nan) share)) c.change.ensures (search rules) (λ k x y h r. search rules)
    ∙ ap (λ (l : List Float). with_shares l share c.loop-powers.sums) (slot_chunk spectra c.args.position c.args.self.now.ring.channels c.requires c.as_chunks.ensures.front ch c.loop-powers-test.true)
    ∙ slot-more spectra c.args.position share c.args.sums.now ch c.loop-powers.sums c.loop-powers.invariant

pub returns : goal.returns
returns c =
    let walk = c.args.self.now in
    let all : c.loop-powers.powers-index ≡ walk.ring.channels =
    omega (arith, slot_chunks-long walk.spectra.now c.args.position walk.ring.channels c.requires c.as_chunks.ensures.front, c.loop-powers-test.false) in
    slot-over walk.spectra.now c.args.position walk.share c.args.sums.now c.loop-powers.invariant all
