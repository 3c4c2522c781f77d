-- Four values, compared at once: a lane of a comparison has all its bits set where it holds, and none where it does not.
use lib.Ieee.{Float, le}
use Rattle.std.proofs.Common.{◌≡◌, ℕ, ◌%◌, Bool, true, false, ◌&&◌, List, [], ◌∷◌, map, length, cond, nat_eq, refl, ap, ◌∙◌, arith}
use Rattle.std.specs.Simd.Lanes.{zip2, mask_l, top}
use Rattle.std.specs.List.{list_all}
use Rattle.aec3_common.specs.Binary32.{within, zero32}

abbrev lane : Bool → ℕ
lane b = cond b 4294967295 0

abbrev compared : List Float → List Float → ℕ
compared xs ys = mask_l (map (top 31) (zip2 (λ x y. lane (le x y)) xs ys)) % 18446744073709551616

-- four lanes hold
four-hold : (p q r s : Bool) → nat_eq (mask_l (map (top 31) (lane p ∷ lane q ∷ lane r ∷ lane s ∷ [])) % 18446744073709551616) 15 ≡ p && (q && (r && (s && true)))
four-hold true true true true = refl
four-hold true true true false = refl
four-hold true true false true = refl
four-hold true true false false = refl
four-hold true false true true = refl
four-hold true false true false = refl
four-hold true false false true = refl
four-hold true false false false = refl
four-hold false true true true = refl
four-hold false true true false = refl
four-hold false true false true = refl
four-hold false true false false = refl
four-hold false false true true = refl
four-hold false false true false = refl
four-hold false false false true = refl
four-hold false false false false = refl

middle-swapped : (a b c d : Bool) → (a && b) && (c && d) ≡ (a && c) && (b && d)
middle-swapped false b c d = refl
middle-swapped true false false d = refl
middle-swapped true false true d = refl
middle-swapped true true false d = refl
middle-swapped true true true d = refl

-- two tests of every entry are one
list_all-both : {A : Type 0} (p q : A → Bool) (xs : List A) → list_all p xs && list_all q xs ≡ list_all (λ x. p x && q x) xs
list_all-both p q [] = refl
list_all-both p q (x ∷ xs) = middle-swapped (p x) (list_all p xs) (q x) (list_all q xs) ∙ ap (λ (b : Bool). (p x && q x) && b) (list_all-both p q xs)

four-told :
    (hi a b c d : Float)
    → let xs : List Float = a ∷ b ∷ c ∷ d ∷ [] in
    nat_eq (compared (zero32 ∷ zero32 ∷ zero32 ∷ zero32 ∷ []) xs) 15 && nat_eq (compared xs (hi ∷ hi ∷ hi ∷ hi ∷ [])) 15 ≡ list_all (within hi) xs
four-told hi a b c d =
    rw (four-hold (le zero32 a) (le zero32 b) (le zero32 c) (le zero32 d), four-hold (le a hi) (le b hi) (le c hi) (le d hi))
    (list_all-both (λ x. le zero32 x) (λ x. le x hi) (a ∷ b ∷ c ∷ d ∷ []))

pub lanes-told :
    (hi : Float) (xs : List Float) → length xs ≡ 4
    → nat_eq (compared (zero32 ∷ zero32 ∷ zero32 ∷ zero32 ∷ []) xs) 15 && nat_eq (compared xs (hi ∷ hi ∷ hi ∷ hi ∷ [])) 15 ≡ list_all (within hi) xs
lanes-told hi [] e = absurd (omega (arith, e))
lanes-told hi (a ∷ []) e = absurd (omega (arith, e))
lanes-told hi (a ∷ b ∷ []) e = absurd (omega (arith, e))
lanes-told hi (a ∷ b ∷ c ∷ []) e = absurd (omega (arith, e))
lanes-told hi (a ∷ b ∷ c ∷ d ∷ []) e = four-told hi a b c d
lanes-told hi (a ∷ b ∷ c ∷ d ∷ f ∷ xs) e = absurd (omega (arith, e))
