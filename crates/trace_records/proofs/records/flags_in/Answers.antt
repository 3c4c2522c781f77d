use Rattle.std.proofs.Common.{false, cond, ltb, rules}
use Rattle.aec3_common.proofs.Changes.{made-all}
use Rattle.trace_records.specs.Records.{is_set, converged_byte}
use Rattle.trace_records.specs.Steps.{flag_table}
use Rattle.trace_records.proofs.records.flags_in.Goals as goal

pub returns : goal.returns
unfolding flag_table
returns c =
    made-all _ _ (λ ch. cond (ltb ch c.args.num_capture_channels) (is_set (converged_byte c.args.record.now ch)) false)
    (λ ch y q called. (search rules, search rules)) 4 c.from_fn.result false c.from_fn.ensures.items
