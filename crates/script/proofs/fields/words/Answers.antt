use Rattle.std.proofs.Common.{◌≡◌, ◌∙◌, ap, ◌+◌, ◌-◌, ◌*◌, take, drop, rules, arith}
use Rattle.encoding.specs.Bytes.{word_at}
use Rattle.script.specs.Lists.{nth_word}
use Rattle.script.proofs.Chunks.{words_by_place, word_of_four, past-drop}
use Rattle.script.proofs.fields.words.Goals as goal

pub returns-clause-values : goal.returns-clause-values
returns-clause-values g c = λ value computes.
    c.fill.ensures.values (λ k. value (nth_word k c.args.bytes.now)) (λ k t p.
    let four : 4 * k + 4 - 4 * k ≡ 4 = omega arith in
    let read : t ≡ value (word_at (take (4 * k + 4 - 4 * k) (drop (4 * k) c.args.bytes.now)) 0) = search (rules, computes) in
    read
    ∙ ap (λ n. value (word_at (take n (drop (4 * k) c.args.bytes.now)) 0)) four
    ∙ ap value (word_of_four (drop (4 * k) c.args.bytes.now))
    ∙ ap (λ s. value (word_at s 0)) (past-drop k c.args.bytes.now))
    ∙ words_by_place value g.row.N c.args.bytes.now
