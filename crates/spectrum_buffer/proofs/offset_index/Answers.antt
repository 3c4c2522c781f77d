-- What the two calls made of the offset, as the machine reads it.
use Rattle.std.proofs.Common.{rules, ◌≡◌, ◌∙◌, sym, ap, arith}
use mir.Facts.{to_z-of_z}
use Rattle.aec3_common.specs.Answers.{number_of}
use Rattle.spectrum_buffer.specs.Ring.{offset_refusal, offset_place, offset_answer}
use Rattle.spectrum_buffer.proofs.Refusals.{few-slots, place-below, next-passed, short-offset}
use Rattle.spectrum_buffer.proofs.offset_index.Goals as goal

pub returns-in_err-judge_offset : goal.returns-in_err-judge_offset
unfolding offset_answer
returns-in_err-judge_offset c =
    let told = c.judge_offset.ensures ∙ ap (offset_refusal c.args.size c.args.index) (to_z-of_z c.ranges.offset) in search rules

pub offset_place-requires-clause-index_lt_size : goal.offset_place-requires-clause-index_lt_size
offset_place-requires-clause-index_lt_size c =
    let told = c.judge_offset.ensures ∙ ap (offset_refusal c.args.size c.args.index) (to_z-of_z c.ranges.offset) in
    let ok : offset_refusal c.args.size c.args.index c.args.offset ≡ 0 = sym told ∙ ap number_of c.in_ok-judge_offset.was in
    let next = next-passed c.args.size c.args.index c.args.offset ok in
    (place-below c.args.size c.args.index next, omega (arith, few-slots c.args.size c.args.index next))

pub offset_place-requires-clause-offset_bound : goal.offset_place-requires-clause-offset_bound
offset_place-requires-clause-offset_bound c =
    let told = c.judge_offset.ensures ∙ ap (offset_refusal c.args.size c.args.index) (to_z-of_z c.ranges.offset) in
    let ok : offset_refusal c.args.size c.args.index c.args.offset ≡ 0 = sym told ∙ ap number_of c.in_ok-judge_offset.was in
    let next = next-passed c.args.size c.args.index c.args.offset ok in
    rw (to_z-of_z c.ranges.offset)
    (omega (arith, few-slots c.args.size c.args.index next, short-offset c.args.size c.args.index c.args.offset ok))

pub returns : goal.returns
unfolding offset_answer
returns c =
    let told = c.judge_offset.ensures ∙ ap (offset_refusal c.args.size c.args.index) (to_z-of_z c.ranges.offset) in
    let ok : offset_refusal c.args.size c.args.index c.args.offset ≡ 0 = sym told ∙ ap number_of c.in_ok-judge_offset.was in
    let place = c.offset_place.ensures ∙ ap (offset_place c.args.size c.args.index) (to_z-of_z c.ranges.offset) in
    simp (ok, place)
