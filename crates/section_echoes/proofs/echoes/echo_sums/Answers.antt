use Rattle.std.proofs.Common.{◌-◌, ◌/◌, [], length, get_or, arith, rules}
use Rattle.std.specs.Float.{nan, binary32}
use Rattle.std.specs.Float.Ieee.{add, mul}
use Rattle.aec3_common.specs.Lists.{tab}
use Rattle.aec3_common.proofs.Changes.{made-all}
use Rattle.aec3_common.proofs.Tables.{stored_more}
use Rattle.section_echoes.specs.Steps.{sum_at, echo_sums}
use Rattle.section_echoes.proofs.Sections.{sections-begun, sections-over, section-response-is, echo_at, echo-first, echo-next}
use Rattle.section_echoes.proofs.echoes.echo_sums.Goals as goal

pub loop-s-init : goal.loop-s-init
unfolding tab
loop-s-init c =
    let render = c.args.render.now in
    let responses = c.args.responses.now in
    let plan = c.args.plan.now in
    let response = c.section_response-response.result in
    stored_more c.from_fn.result (sections-begun plan.num_sections (echo_at render responses plan.boundaries (length c.args.responses.now / 65))) plan.some_sections plan.few_sections
    (echo-first render responses plan.boundaries (length c.args.responses.now / 65)
    (section-response-is plan.boundaries (length c.args.responses.now / 65) 0 (rw c.as_chunks.ensures.front_len at c.min.ensures) responses (c.section_response-response.ensures responses c.as_chunks.ensures.front))
    (made-all _ _ (λ k. mul binary32 (sum_at render 0 k) (get_or response k nan)) (λ k y q called. (search rules, search rules)) 65 c.from_fn.result nan c.from_fn.ensures.items))

pub loop-s-preserved : goal.loop-s-preserved
loop-s-preserved c =
    let render = c.args.render.now in
    let responses = c.args.responses.now in
    let plan = c.args.plan.now in
    let s = c.loop-s.s-counter in
    let response = c.section_response-response-in-loop-s.result in
    let before = get_or c.loop-s.r (s - 1) [] in
    stored_more c.from_fn-in-loop-s.result c.loop-s.invariant c.loop-s-test.true plan.few_sections
    (echo-next render responses plan.boundaries (length c.args.responses.now / 65) s c.loop-s.auto.s-counter
    (section-response-is plan.boundaries (length c.args.responses.now / 65) s (rw c.as_chunks.ensures.front_len at c.min-in-loop-s.ensures) responses (c.section_response-response-in-loop-s.ensures responses c.as_chunks.ensures.front))
    (c.loop-s.invariant.done (s - 1) (omega arith) (omega arith))
    (made-all _ _ (λ k. add binary32 (mul binary32 (sum_at render s k) (get_or response k nan)) (get_or before k nan)) (λ k y q called. (search rules, search rules)) 65 c.from_fn-in-loop-s.result nan c.from_fn-in-loop-s.ensures.items))

pub returns : goal.returns
unfolding echo_sums
returns c =
    let plan = c.args.plan.now in
    sections-over plan.num_sections (echo_at c.args.render.now c.args.responses.now plan.boundaries (length c.args.responses.now / 65)) c.loop-s.invariant c.loop-s-test.false
