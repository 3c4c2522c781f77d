-- The claim about cases.
use mathlib.Core.Path.{refl}
use mathlib.Core.Bool.{Bool, true, false}
use Rattle.std.proofs.Common.{Ok, Err}
use lib.Ieee.{Float}
use Rattle.aec3_common.specs.Answers.{answer_case, answer_number}
use Rattle.aec3_common.specs.Cases.{ReadBack}
use Rattle.aec3_common.proofs.Cases.{cases-read-back as each-read-back}
use Rattle.fullband_erle_estimator.specs.FullBand.{answer_values}
use Rattle.fullband_erle_estimator.specs.Cases.{OptionalReadBack, CasesReadBack}

optional-read-back : (present : Bool) (x : Float) → OptionalReadBack present x
optional-read-back true x = record { refusal = refl; there = refl; values = refl }
optional-read-back false x = record { refusal = refl; there = refl; values = refl }

answer-read-back : {X : Type 0} → ReadBack {X = X} answer_case answer_number answer_values (λ value. value)
answer-read-back =
    each-read-back Ok Err answer_number answer_values (λ value. value) (λ x. refl) (λ n. refl) (λ x. refl) (λ n. refl)

pub cases-read-back : CasesReadBack
cases-read-back = record { figure = answer-read-back; quality = answer-read-back; optional = optional-read-back }
