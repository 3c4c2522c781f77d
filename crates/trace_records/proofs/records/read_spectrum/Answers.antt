use Rattle.std.proofs.Common.{◌≡◌, ◌+◌, ◌*◌, ◌/◌, length, get_or, [], arith, rules, ◌∙◌}
use lib.Ieee.{nan}
use Rattle.aec3_common.proofs.Tables.{tab-is}
use Rattle.trace_records.specs.Records.{value_at, spectrum_at}
use Rattle.trace_records.proofs.Blocks.{value-four}
use Rattle.trace_records.proofs.records.read_spectrum.Goals as goal

pub returns : goal.returns
unfolding spectrum_at
returns c =
    let count : length c.args.bytes.now / 4 ≡ 65 = omega (arith, c.requires.bytes_of_all) in
    tab-is 65 nan (λ k. value_at c.args.bytes.now (0 + 4 * k)) c.change.new.table (search rules)
    (λ k b.
    let is : get_or c.change.new.table k nan ≡ value_at (get_or c.as_chunks.result.0.now k []) 0 = search (rules, c.change.ensures.within k nan) in
    is ∙ rw (c.as_chunks.ensures.front, count) (value-four c.args.bytes.now k b))
