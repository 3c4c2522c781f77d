-- Lists of calls: the state that they leave is taken up again.
use Rattle.std.specs.Prelude.{◌≡◌, Bool, List}
use Rattle.aec3_common.specs.Answers.{Answered}
use Rattle.aec3_common.specs.Calls.{run_by}
use Rattle.aec3_common.specs.Refusal.{accepted, bad_state}
use Rattle.erle_estimator.specs.declared.ErleEstimator.{ErleEstimator}
use Rattle.erle_estimator.specs.Erle.{Update, state_refusal, reset_answer, update_answer}

-- a call, accepted or refused: an update; or a reset, and whether the delay changed
pub data Call : Type 0 where
  update : Update → Call
  reset : Bool → Call

-- what it is answered with
unfoldable pub answer : ErleEstimator → Call → Answered ErleEstimator
answer s (update u) = update_answer s u
answer s (reset delay_change) = reset_answer s delay_change

-- each call takes up the state that the last one left; a refused one passes on what it got
unfoldable pub run : ErleEstimator → List Call → ErleEstimator
run s calls = run_by (λ t c. (answer t c).state) s calls

-- no update or reset of the state is refused under 20, and no reading of a figure or a quality at all
pub record NotBad (s : ErleEstimator) : Type 0 where
  pub calls : (next : Call) → (answer s next).refused ≡ bad_state → ⊥
  pub readings : state_refusal s ≡ accepted

-- Claim, which an accepted start promises of the state that it answers with: after any list of updates and resets, refused calls
-- among them, no call is refused under 20.
unfoldable pub NeverBadState : ErleEstimator → Type 0
NeverBadState start = (calls : List Call) → NotBad (run start calls)
