use Rattle.std.proofs.Common.{rules}
use Rattle.aec3_common.specs.Lists.{tab}
use Rattle.section_echoes.proofs.EachChannel.{going-begun, going-enough, going_more, going-over}
use Rattle.section_echoes.proofs.channels.all_active_sections.Goals as goal

pub loop-ch-init : goal.loop-ch-init
unfolding tab
loop-ch-init c = going-begun _ _ _ _ _ _ _

pub split_at-requires : goal.split_at-requires
split_at-requires c = going-enough c.loop-ch.invariant c.requires.packed c.loop-ch-test.true

pub loop-ch-preserved : goal.loop-ch-preserved
loop-ch-preserved c =
    let plan = c.args.plan.now in
    going_more c.loop-ch.invariant (plan.some_sections, plan.few_sections)
    c.renew_render_sums.ensures c.split_at.ensures.front c.split_at.ensures.back c.split_at.ensures.front_len
    c.echo_sums-echoes.ensures (search rules) c.active_sections.ensures
    c.loop-ch-test.true c.requires.few_channels

pub returns : goal.returns
returns c = going-over c.loop-ch.invariant c.loop-ch-test.false
