-- The range that every figure keeps, over lists of calls.
use Rattle.std.specs.Prelude.{◌≡◌, Bool, true, List, ℕ, ◌<◌, Float, get_or}
use Rattle.std.specs.Float.{nan}
use Rattle.aec3_common.specs.Binary32.{number_from}
use Rattle.aec3_common.specs.Calls.{run_by}
use Rattle.erl_bands.specs.Figure.{min_erl, max_erl}
use Rattle.erl_estimator.specs.declared.ErlEstimator.{ErlEstimator}
use Rattle.erl_estimator.specs.Erl.{after_reset, update_answer}

-- a call: an update with its counts, flags, renders and captures, whether it is accepted or not; or a reset
pub data Call : Type 0 where
  update : ℕ → ℕ → List Bool → List Float → List Float → Call
  reset : Call

-- the state that a call leaves; a refused update leaves the one it got
unfoldable pub after : ErlEstimator → Call → ErlEstimator
after s (update captures renders converged render capture) = (update_answer s captures renders converged render capture).state
after s reset = after_reset s

-- each call takes up the state that the last one left
unfoldable pub run : ErlEstimator → List Call → ErlEstimator
run s calls = run_by after s calls

-- a number, not below 0.01 nor above 1,000
abbrev pub in_range : Float → Bool
in_range x = number_from min_erl max_erl x

-- the ERL of each of the 65 bands and the time-domain ERL are in range
pub record AllInRange (s : ErlEstimator) : Type 0 where
  pub bands : (k : ℕ) → k < 65 → in_range (get_or s.erl k nan) ≡ true
  pub time : in_range s.erl_time_domain ≡ true

-- Claim, of the state that any start answers (`ErlEstimator::new` promises it): after any list of calls every ERL is a number
-- from 0.01 to 1,000.
unfoldable pub FiguresInRange : ErlEstimator → Type 0
FiguresInRange start = (calls : List Call) → AllInRange (run start calls)
