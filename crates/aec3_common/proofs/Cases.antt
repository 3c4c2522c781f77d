-- The claim about cases: number 0, and any other.
use Rattle.std.proofs.Common.{◌≡◌, ℕ, zero, suc, cond, eqb, List, [], ◌∷◌, Ok, Err, refl}
use lib.Dec.{eqb-suc-zero}
use lib.Ieee.{binary32, to_bits}
use Rattle.aec3_common.specs.Log2.{log2_number, log2_bits}
use Rattle.aec3_common.specs.Refusal.{accepted}
use Rattle.aec3_common.specs.Cases.{ReadBack, Log2ReadBack}

-- where the case with the value and the refusal are read back, every case is
module _ {X A Y : Type 0} (good : X → A) (refused : ℕ → A) (number : A → ℕ) (values : A → List Y) (shown : X → Y)
    (good-number : (x : X) → number (good x) ≡ accepted) (refused-number : (n : ℕ) → number (refused n) ≡ n)
    (good-value : (x : X) → values (good x) ≡ shown x ∷ []) (refused-value : (n : ℕ) → values (refused n) ≡ []) where
  abbrev made : ℕ → X → A
  made n x = cond (eqb n accepted) (good x) (refused n)

  refusal : (n : ℕ) (x : X) → number (made n x) ≡ n
  refusal zero x = good-number x
  refusal (suc n) x = rw (eqb-suc-zero n) (refused-number (suc n))

  value : (n : ℕ) (x : X) → values (made n x) ≡ cond (eqb n accepted) (shown x ∷ []) []
  value zero x = good-value x
  value (suc n) x = rw (eqb-suc-zero n) (refused-value (suc n))

  pub cases-read-back : ReadBack made number values shown
  cases-read-back = record { refusal = refusal; value = value }

pub log2-read-back : Log2ReadBack
unfolding Log2ReadBack
log2-read-back = cases-read-back Ok Err log2_number log2_bits (to_bits binary32) (λ x. refl) (λ n. refl) (λ x. refl) (λ n. refl)
