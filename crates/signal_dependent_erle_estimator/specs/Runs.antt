-- Lists of calls: the state that they leave is taken up again.
use Rattle.std.specs.Prelude.{◌≡◌, List, Float}
use Rattle.aec3_common.specs.Calls.{run_by}
use Rattle.aec3_common.specs.Answers.{Answered}
use Rattle.aec3_common.specs.Refusal.{bad_state}
use Rattle.signal_dependent_erle_estimator.specs.declared.SignalDependentErleEstimator.{SignalDependentErleEstimator}
use Rattle.signal_dependent_erle_estimator.specs.SignalDependent.{Update, reset_answer, update_answer}

-- a call, accepted or refused: an update, with the subband estimator's plain and compensated streams; or a reset
pub data Call : Type 0 where
  update : Update → List Float → List Float → Call
  reset : Call

-- what it is answered with
unfoldable pub answer : SignalDependentErleEstimator → Call → Answered SignalDependentErleEstimator
answer s (update u average average_compensated) = update_answer s u average average_compensated
answer s reset = reset_answer s

-- each call takes up the state that the last one left; a refused one passes on what it got
unfoldable pub run : SignalDependentErleEstimator → List Call → SignalDependentErleEstimator
run s calls = run_by (λ t c. (answer t c).state) s calls

-- Claim, which an accepted start promises of the state that it answers with: after any list of updates and resets, refused calls
-- among them, no call is refused under 20.
unfoldable pub NeverBadState : SignalDependentErleEstimator → Type 0
NeverBadState start = (calls : List Call) (next : Call) → (answer (run start calls) next).refused ≡ bad_state → ⊥
