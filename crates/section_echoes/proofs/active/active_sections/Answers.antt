use Rattle.std.proofs.Common.{◌+◌, ◌-◌, cond, ltb, length, get_or, refl, rules, arith}
use Rattle.std.specs.Float.{nan, binary32}
use Rattle.std.specs.Float.Ieee.{mul, le}
use Rattle.aec3_common.specs.Lists.{tab}
use Rattle.aec3_common.proofs.Changes.{changed-all, made-all}
use Rattle.section_echoes.specs.Echoes.{active_share, least_reached}
use Rattle.section_echoes.specs.Steps.{sum_at}
use Rattle.section_echoes.proofs.Least.{least_more, least-all}
use Rattle.section_echoes.proofs.active.active_sections.Goals as goal

pub loop-s-init : goal.loop-s-init
unfolding tab least_reached
loop-s-init c = refl

pub loop-s-preserved : goal.loop-s-preserved
loop-s-preserved c =
    let sums = c.args.sums.now in
    let s = c.loop-s.s in
    least_more sums (length c.args.sums.now) c.loop-s.active s c.loop-s.invariant
    (made-all _ _ (λ k. mul binary32 active_share (sum_at sums ((length c.args.sums.now) - 1) k)) (λ k y q called. (search rules, search rules)) 65 c.from_fn-targets.result nan c.from_fn-targets.ensures.items)
    (changed-all 0 (λ k section. cond (le (get_or c.from_fn-targets.result k nan) (sum_at sums s k)) section (s + 1)) c.change.ensures (search rules) (λ k x y h r. search rules))

pub returns : goal.returns
returns c =
    least-all c.args.sums.now (length c.args.sums.now) c.loop-s.active c.loop-s.s c.loop-s.invariant (omega (arith, c.loop-s-test.false))
    (changed-all 0 (λ k section. cond (ltb section (length c.args.sums.now)) section 0) c.change-2.ensures (search rules) (λ k x y h r. search rules))
