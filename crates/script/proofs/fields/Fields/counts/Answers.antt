use Rattle.std.proofs.Common.{◌∙◌, ap, take, rules}
use Rattle.std.proofs.lemmas.List.{map-id}
use Rattle.script.specs.Lists.{words_in}
use Rattle.script.proofs.fields.Fields.counts.Goals as goal

pub returns-clause-values : goal.returns-clause-values
returns-clause-values g c =
    c.words.ensures.values (λ n. n) (λ n t p. search rules)
    ∙ ap (take g.row.N) (map-id (words_in c.in_ok-bytes.bytes.now))
    ∙ ap (λ s. take g.row.N (words_in s)) c.in_ok-bytes.ensures.value
