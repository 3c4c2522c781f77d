-- No state of a run from an accepted start is turned away under 20.
use Rattle.std.specs.Prelude.{◌≡◌, List}
use Rattle.aec3_common.specs.Calls.{Call}
use Rattle.aec3_common.specs.Refusal.{bad_state}
use Rattle.subband_erle_estimator.specs.declared.SubbandErleEstimator.{SubbandErleEstimator}
use Rattle.subband_erle_estimator.specs.Resting.{answer, run}

-- Claim, which an accepted start promises of the state that it answers with: after any list of updates and resets, refused calls
-- among them, no call is refused under 20.
unfoldable pub NeverBadState : SubbandErleEstimator → Type 0
NeverBadState start = (calls : List Call) (next : Call) → (answer (run start calls) next).refused ≡ bad_state → ⊥
