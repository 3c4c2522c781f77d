use Rattle.std.proofs.Common.{◌∙◌, ap, rules, arith}
use Rattle.aec3_common.specs.Lists.{tab}
use Rattle.script.proofs.Tables.{take-made}
use Rattle.script.proofs.table.Table.fill.Goals as goal

pub returns-clause-values : goal.returns-clause-values
returns-clause-values g c = λ value computes.
    take-made c.min-used.result value c.change.new.table (search rules) (λ k d b. computes k _ (c.change.ensures.within k d (omega arith) b))
    ∙ ap (λ n. tab n value) (search rules)
