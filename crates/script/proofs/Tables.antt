-- What a table holds after its first elements were made by their places.
use Rattle.std.proofs.Common.{◌≡◌, ap, ap₂, ℕ, zero, suc, ◌<◌, ◌≤◌, List, [], ◌∷◌, length, take, get_or, map, min, refl, arith}
use Rattle.aec3_common.specs.Lists.{tab}

pub take-made :
    {T : Type 0} (n : ℕ) (f : ℕ → T) (xs : List T)
    → n ≤ length xs → ((k : ℕ) (d : T) → k < n → get_or xs k d ≡ f k) → take n xs ≡ tab n f
unfolding tab
take-made zero f xs h e = refl
take-made (suc n) f [] h e = absurd (omega (arith, h))
take-made (suc n) f (x ∷ xs) h e = ap₂ ◌∷◌ (e 0 x (omega arith)) (take-made n (λ k. f (suc k)) xs (omega (arith, h)) (λ k d b. e (suc k) d (omega (arith, b))))

-- a value for each entry of a list, as far as a table takes them
pub values_by_place :
    {T : Type 0} (value : ℕ → T) (n : ℕ) (s : List ℕ) (j : ℕ)
    → j ≡ min (length s) n → tab j (λ k. value (get_or s k 0)) ≡ take n (map value s)
unfolding tab
values_by_place value zero s zero e = refl
values_by_place value zero s (suc j) e = absurd (omega (arith, e))
values_by_place value (suc n) [] zero e = refl
values_by_place value (suc n) [] (suc j) e = absurd (omega (arith, e))
values_by_place value (suc n) (x ∷ s) zero e = absurd (omega (arith, e))
values_by_place value (suc n) (x ∷ s) (suc j) e = ap (λ l. value x ∷ l) (values_by_place value n s j (omega (arith, e)))
