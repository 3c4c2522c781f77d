-- A length that is given is that of a whole record, which is lent.
use Rattle.std.proofs.Common.{◌≡◌, ◌+◌, ◌-◌, arith, rules}
use Rattle.trace_records.specs.Frames.{length_in}
use Rattle.trace_records.proofs.Framing.{framed-most, framed-room, length-framed, no-length-framed}
use Rattle.trace_records.proofs.frames.frame.Goals as goal

pub returns-in_err-length : goal.returns-in_err-length
returns-in_err-length c = search (rules, no-length-framed _ c.in_err-length.ensures.value)

pub overflow_add-end : goal.overflow_add-end
overflow_add-end c =
    let (whole, is) = length-framed _ _ c.in_ok-length.ensures.value in
    omega (arith, framed-most _ whole)

pub slice_bounds-result-end : goal.slice_bounds-result-end
slice_bounds-result-end c =
    let (whole, is) = length-framed _ _ c.in_ok-length.ensures.value in
    omega (arith, framed-room _ whole)

pub returns : goal.returns
returns c =
    let (whole, is) = length-framed _ _ c.in_ok-length.ensures.value in
    let size : 4 + c.in_ok-length.length - 4 ≡ length_in c.args.s.now = omega (arith, is) in
    (whole, rw size)
