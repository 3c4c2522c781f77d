-- What the judging of values tells: of lists one behind the other, by the judging of each.
use Rattle.std.proofs.Common.{◌≡◌, ◌∙◌, ℕ, zero, suc, Bool, true, false, ◌&&◌, List, [], ◌∷◌, ◌++◌, refl, ap, arith}
use Rattle.std.proofs.lemmas.Bool.Decides.{nat_tests}
use lib.Ieee.{Float}
use Rattle.aec3_common.specs.Binary32.{greatest_value, within, values_ok}
use Rattle.aec3_common.specs.Calls.{value_refusal}
use Rattle.aec3_common.specs.Lists.{tab}
use Rattle.aec3_common.specs.Refusal.{unless, accepted, bad_state, lesser}
use Rattle.aec3_common.proofs.Choices.{passed}
use Rattle.aec3_common.proofs.Every.{list_all-append}

-- the refusal of two lists is the lesser of their refusals
pub value_refusal_append : (xs ys : List Float) → value_refusal (xs ++ ys) ≡ lesser (value_refusal xs) (value_refusal ys)
unfolding value_refusal lesser
value_refusal_append xs ys = rw (list_all-append (within greatest_value) xs ys) (go (values_ok xs) (values_ok ys))
  where
    go : (a b : Bool) → unless (a && b) 6 0 ≡ lesser (unless a 6 0) (unless b 6 0)
    go true b = refl
    go false true = refl
    go false false = refl

-- neither of two refusals of which the lesser is none
pub both-passed : (a b : ℕ) → lesser a b ≡ accepted → (a ≡ accepted) × (b ≡ accepted)
unfolding lesser
both-passed a b e = (grind (arith, nat_tests), grind (arith, nat_tests))

-- where two lists are accepted, each is
pub both-accepted :
    (xs ys : List Float) → value_refusal (xs ++ ys) ≡ accepted → (value_refusal xs ≡ accepted) × (value_refusal ys ≡ accepted)
both-accepted xs ys e = both-passed (value_refusal xs) (value_refusal ys) (rw value_refusal_append at e)

-- beside a refusal none changes nothing
pub lesser-none : (n : ℕ) → lesser n accepted ≡ n
unfolding lesser
lesser-none n = grind (arith, nat_tests)

-- nor do accepted values behind a list
pub accepted-behind : (xs ys : List Float) → value_refusal ys ≡ accepted → value_refusal (xs ++ ys) ≡ value_refusal xs
accepted-behind xs ys e = value_refusal_append xs ys ∙ ap (lesser (value_refusal xs)) e ∙ lesser-none (value_refusal xs)

-- no values are accepted
pub no-values : value_refusal [] ≡ accepted
unfolding value_refusal
no-values = refl

-- and as many copies of one value as there may be, where it is
pub copies-accepted : (n : ℕ) (x : Float) → value_refusal (x ∷ []) ≡ accepted → value_refusal (tab n (λ k. x)) ≡ accepted
unfolding tab
copies-accepted zero x e = no-values
copies-accepted (suc n) x e =
    value_refusal_append (x ∷ []) (tab n (λ k. x)) ∙ (λ i. lesser (e i) (copies-accepted n x e i)) ∙ lesser-none accepted

-- accepted values lie in 0 to 2^100
pub values-passed : (xs : List Float) → value_refusal xs ≡ accepted → values_ok xs ≡ true
unfolding value_refusal
values-passed xs e = passed (values_ok xs) 5 accepted e

-- values are not turned away as a state is
pub values-not-20 : (xs : List Float) → value_refusal xs ≡ bad_state → ⊥
unfolding value_refusal
values-not-20 xs = go (values_ok xs)
  where
    go : (a : Bool) → unless a 6 0 ≡ 20 → ⊥
    go true e = omega arith
    go false e = omega arith
