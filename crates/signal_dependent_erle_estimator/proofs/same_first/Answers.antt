use Rattle.std.proofs.Common.{◌≡◌, ℕ, zero, suc, ◌≤◌, Bool, ◌&&◌, eqb, List, [], ◌∷◌, length, take, refl, sym, ap, ◌∙◌, le_of_suc-le-suc, arith}
use lib.Pointwise.{pointwise}
use lib.ListN.{get_or}
use Rattle.aec3_common.proofs.Choices.{and-true, and_assoc}
use Rattle.signal_dependent_erle_estimator.specs.SignalDependent.{same_first}
use Rattle.signal_dependent_erle_estimator.proofs.same_first.Goals as goal

-- the first numbers are the same, and so are those behind them
first-and-rest : (n x y : ℕ) (xs ys : List ℕ) → same_first (suc n) (x ∷ xs) (y ∷ ys) ≡ eqb x y && same_first n xs ys
unfolding same_first
first-and-rest zero x y xs ys = sym (and-true (eqb x y))
first-and-rest (suc n) x y xs ys =
    ap (λ (t : Bool). t && eqb (get_or xs n 0) (get_or ys n 0)) (first-and-rest n x y xs ys)
    ∙ and_assoc (eqb x y) (same_first n xs ys) (eqb (get_or xs n 0) (get_or ys n 0))

compared : (n : ℕ) (xs ys : List ℕ) → n ≤ length xs → n ≤ length ys → pointwise eqb (take n xs) (take n ys) ≡ same_first n xs ys
unfolding same_first
compared zero xs ys h k = refl
compared (suc n) [] ys h k = absurd (omega arith)
compared (suc n) (x ∷ xs) [] h k = absurd (omega arith)
compared (suc n) (x ∷ xs) (y ∷ ys) h k =
    ap (λ (t : Bool). eqb x y && t) (compared n xs ys (le_of_suc-le-suc h) (le_of_suc-le-suc k)) ∙ sym (first-and-rest n x y xs ys)

pub returns : goal.returns
returns c = c.eq.ensures ∙ compared c.args.n c.args.held.now c.args.given.now (omega arith) (omega arith)
