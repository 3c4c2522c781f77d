use Rattle.std.proofs.Common.{◌+◌, ◌-◌, ◌<◌, [], List, Float, length, get_or, ap, ◌∙◌, rules, arith}
use borrow.Rule.Slice.PartMut.{mid_of}
use Rattle.std.specs.Float.{nan, binary32}
use Rattle.std.specs.Float.Ieee.{add}
use Rattle.aec3_common.specs.Lists.{tab}
use Rattle.aec3_common.proofs.Changes.{changed-all}
use Rattle.section_echoes.specs.Echoes.{response_sum}
use Rattle.section_echoes.proofs.Sums.{with_powers, response-begun, response-more, sums-over, chunk-part}
use Rattle.section_echoes.proofs.Tables.{part-long, part-below, part_at}
use Rattle.section_echoes.proofs.echoes.section_response.Goals as goal

pub loop-powers-init : goal.loop-powers-init
unfolding tab
loop-powers-init c responses cut = response-begun responses c.args.from

pub loop-powers-preserved : goal.loop-powers-preserved
loop-powers-preserved c responses cut =
    let from = c.args.from in
    let blocks = c.args.blocks.now in
    let n = c.loop-powers.powers-index in
    let powers = get_or (mid_of c.min.result (c.args.to - c.min.result) blocks) n [] in
    let below : from + n < length blocks = omega (arith, part-below from c.args.to blocks c.min.ensures c.requires n c.loop-powers-test.true) in
    changed-all nan (λ k sum. add binary32 sum (get_or powers k nan)) c.change.ensures (search rules) (λ k x y h r. search rules)
    ∙ ap (λ (l : List Float). with_powers l c.loop-powers.sums)
    (part_at from c.args.to blocks c.min.ensures c.requires n [] c.loop-powers-test.true ∙ chunk-part responses cut (from + n) below)
    ∙ response-more responses from n c.loop-powers.sums (c.loop-powers.invariant responses cut)

pub returns : goal.returns
returns c responses cut =
    sums-over (response_sum responses c.args.from) (c.loop-powers.invariant responses cut)
    (omega (arith, part-long c.args.from c.args.to c.args.blocks.now c.min.ensures c.requires))
