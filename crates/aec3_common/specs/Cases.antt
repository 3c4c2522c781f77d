-- An answer that is an enum is made of a number and a value, and can be read back.
use Rattle.std.specs.Prelude.{◌≡◌, ℕ, cond, List, [], ◌∷◌, ◌==◌, to_bits}
use Rattle.std.specs.Float.{binary32}
use Rattle.aec3_common.specs.Answers.{answer_case}
use Rattle.aec3_common.specs.Log2.{log2_number, log2_bits}
use Rattle.aec3_common.specs.Refusal.{accepted}

-- each case is read back as it was made: the number; and where that is 0 the value, in the form shown, else nothing
pub record ReadBack {X A Y : Type 0} (made : ℕ → X → A) (number : A → ℕ) (values : A → List Y) (shown : X → Y) : Type 0 where
  pub refusal : (n : ℕ) (x : X) → number (made n x) ≡ n
  pub value : (n : ℕ) (x : X) → values (made n x) ≡ cond (n == accepted) (shown x ∷ []) []

-- Claim: the cases of an answer with a log2 are read back, the value by its bits.
unfoldable pub Log2ReadBack : Type 0
Log2ReadBack = ReadBack answer_case log2_number log2_bits (to_bits binary32)
