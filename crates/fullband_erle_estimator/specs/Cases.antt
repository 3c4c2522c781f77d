-- An answer that is an enum is made of a number and a value, and can be read back.
use Rattle.std.specs.Prelude.{◌≡◌, Bool, cond, [], ◌∷◌, Float}
use Rattle.aec3_common.specs.Answers.{answer_case, answer_number}
use Rattle.aec3_common.specs.Cases.{ReadBack}
use Rattle.aec3_common.specs.Refusal.{accepted}
use Rattle.fullband_channel.specs.Instantaneous.{optional_case, is_present, optional_refusal, optional_values}
use Rattle.fullband_channel.specs.declared.instantaneous.OptionalNumber.{OptionalNumber}
use Rattle.fullband_erle_estimator.specs.FullBand.{answer_values}

-- what may be absent is no refusal, and has its number where it is present
pub record OptionalReadBack (present : Bool) (x : Float) : Type 0 where
  pub refusal : optional_refusal (optional_case present x) ≡ accepted
  pub there : is_present (optional_case present x) ≡ present
  pub values : optional_values (optional_case present x) ≡ cond present (x ∷ []) []

-- Claim: each case is read back as it was made.
pub record CasesReadBack : Type 0 where
  pub figure : ReadBack {X = Float} answer_case answer_number answer_values (λ figure. figure)
  pub quality : ReadBack {X = OptionalNumber} answer_case answer_number answer_values (λ quality. quality)
  pub optional : (present : Bool) (x : Float) → OptionalReadBack present x
