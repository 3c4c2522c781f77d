use Rattle.std.proofs.Common.{◌≡◌, ℕ, ◌+◌, Bool, true, false, eqb, List, take, refl, sym, ap, arith, take_all, eq-eqb, ne_eqb, eqb-true}
use borrow.Author.Tests.{eqb-false}
use Rattle.section_echoes.specs.Packed.{total}
use Rattle.section_echoes.proofs.Packed.{total-more, total-part}
use Rattle.signal_dependent_erle_estimator.proofs.judge.add_up_to.Goals as goal

-- nothing is left of the blocks where the counts make them up
none_left : (left all blocks : ℕ) → left + all ≡ blocks → eqb left 0 ≡ eqb blocks all
none_left left all blocks e = go (eqb left 0) refl
  where
    go : (t : Bool) → eqb left 0 ≡ t → t ≡ eqb blocks all
    go true z = sym (eq-eqb blocks all (omega (arith, eqb-true left 0 z)))
    go false z = sym (ne_eqb blocks all (λ same. eqb-false left 0 z (omega arith)))

pub loop-count-init : goal.loop-count-init
unfolding total
loop-count-init c = omega arith

pub returns-in_default : goal.returns-in_default
returns-in_default c =
    let counts : List ℕ = c.args.counts.now in
    let k : ℕ = c.loop-count.count-index in
    sym
    (ne_eqb c.args.blocks (total counts)
    (λ e. omega (arith, e, c.in_default.ensures, total-more counts k c.loop-count-test.true, total-part counts (k + 1))))

pub loop-count-preserved : goal.loop-count-preserved
loop-count-preserved c = omega (arith, c.in-Some.ensures, total-more c.args.counts.now c.loop-count.count-index c.loop-count-test.true)

pub returns : goal.returns
returns c =
    let all : total (take c.loop-count.count-index c.args.counts.now) ≡ total c.args.counts.now = ap total (take_all _ _ c.loop-count-test.false) in
    none_left c.loop-count.left (total c.args.counts.now) c.args.blocks (omega arith)
