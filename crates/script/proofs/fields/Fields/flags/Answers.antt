use Rattle.std.proofs.Common.{◌∙◌, ap, take, length, min, get_or, eqb, refl, rules}
use Rattle.script.specs.Lists.{flags_in}
use Rattle.script.proofs.Tables.{values_by_place}
use Rattle.script.proofs.fields.Fields.flags.Goals as goal

pub returns-clause-values : goal.returns-clause-values
returns-clause-values g c =
    c.fill.ensures.values (λ k. eqb (get_or c.in_ok-bytes.bytes.now k 0) 1) (λ k t p. search rules)
    ∙ values_by_place (λ byte. eqb byte 1) g.row.N c.in_ok-bytes.bytes.now (min (length c.in_ok-bytes.bytes.now) g.row.N) refl
    ∙ ap (λ s. take g.row.N (flags_in s)) c.in_ok-bytes.ensures.value
