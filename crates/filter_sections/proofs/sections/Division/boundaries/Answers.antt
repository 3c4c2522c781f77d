use Rattle.std.proofs.Common.{◌≡◌, ◌∙◌, ap, ℕ, ◌-◌, ◌≤◌, List, take, arith}
use borrow.Author.Tests.{eq-eqb, ne_eqb}
use Rattle.aec3_common.specs.Lists.{tab}
use Rattle.filter_sections.specs.Sections.{section_sizes, running_sums, boundaries, padded}
use Rattle.filter_sections.proofs.Sizes.{take-padded, length-doubling, doubling-below}
use Rattle.filter_sections.proofs.sections.Division.boundaries.Goals as goal

-- the sizes that the code lends are those of the filter less its headroom
lent :
    (sections blocks headroom : ℕ) {sizes : List ℕ} {left : ℕ} → sections ≤ 8
    → sizes ≡ padded 8 (section_sizes sections left) → left ≡ blocks - headroom
    → take sections sizes ≡ section_sizes sections (blocks - headroom)
lent sections blocks headroom few is less =
    ap (take sections) (is ∙ ap (λ (b : ℕ). padded 8 (section_sizes sections b)) less)
    ∙ take-padded 8 sections (section_sizes sections (blocks - headroom)) (length-doubling 2 sections (blocks - headroom)) few

pub returns-then-self-eq1 : goal.returns-then-self-eq1
unfolding boundaries tab
returns-then-self-eq1 c = simp (eq-eqb _ _ c.if-self-eq1.true)

pub running_sums-requires-clause-by_index : goal.running_sums-requires-clause-by_index
running_sums-requires-clause-by_index c k =
    let filter = c.args.self in
    rw (lent filter.sections filter.blocks c.args.headroom filter.few c.sizes.ensures c.saturating_sub.ensures)
    (omega (arith, doubling-below 2 filter.sections (filter.blocks - c.args.headroom) k))

pub returns : goal.returns
unfolding boundaries
returns c =
    let filter = c.args.self in
    c.running_sums.ensures
    ∙ ap (λ (l : List ℕ). padded 9 (running_sums c.args.headroom l))
    (lent filter.sections filter.blocks c.args.headroom filter.few c.sizes.ensures c.saturating_sub.ensures)
    ∙ simp (ne_eqb _ _ c.if-self-eq1.false)
