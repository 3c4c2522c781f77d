-- Loops over bands 1 to 63 that change some of them.
use mathlib.Core.Path.{◌≡◌, refl, ◌∙◌}
use mathlib.Core.Bool.{Bool, true, false, cond, ◌&&◌}
use mathlib.Core.List.{List}
use Prim.Native.Nat.{ℕ, ◌<◌}
use lib.ListN.{length, get_or}
use Rattle.aec3_common.specs.Lists.{tab}
use Rattle.aec3_common.specs.Spectra.{inner_band}
use Rattle.aec3_common.specs.Steps.{Changed}
use Rattle.aec3_common.proofs.Changes.{changed-between}
use Rattle.aec3_common.proofs.Tables.{tab-is, tab-same}

-- a choice by two tests, one after the other
pub cond_both : {A : Type 0} (a b : Bool) (x y : A) → cond a (cond b x y) y ≡ cond (a && b) x y
cond_both true b x y = refl
cond_both false b x y = refl

-- bands 1 to 63 were changed, those which pass a test
pub changed-where :
    {A : Type 0} {R : ℕ → A → A → Type 0} {xs ys : List A} (d : A) (test : ℕ → Bool) (f : ℕ → A → A)
    → Changed R 1 64 xs ys → length ys ≡ 65 → ((k : ℕ) (x y : A) → k < 64 → R k x y → y ≡ cond (test k) (f k x) x)
    → ys ≡ tab 65 (λ k. cond (inner_band k && test k) (f k (get_or xs k d)) (get_or xs k d))
changed-where {xs = xs} d test f c long told =
    changed-between d (λ k x. cond (test k) (f k x) x) c long told
    ∙ tab-same 65 d _ _ (λ k h. cond_both (inner_band k) (test k) (f k (get_or xs k d)) (get_or xs k d))

-- a list of 65 is the table of its entries
pub bands-stay : {A : Type 0} (d : A) (xs : List A) → length xs ≡ 65 → xs ≡ tab 65 (λ k. get_or xs k d)
bands-stay d xs long = tab-is 65 d (λ k. get_or xs k d) xs long (λ k h. refl)
