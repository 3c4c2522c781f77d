-- What an update that is not turned away tells of its counts.
use mathlib.Core.Path.{◌≡◌}
use mathlib.Core.Bool.{Bool, true}
use mathlib.Core.List.{List, ◌++◌}
use Prim.Native.Nat.{ℕ}
use lib.Ieee.{Float}
use Rattle.aec3_common.proofs.Choices.{passed}
use Rattle.aec3_common.specs.Calls.{value_refusal}
use Rattle.aec3_common.specs.Refusal.{unless, accepted, bad_length}
use Rattle.erl_estimator.specs.Erl.{channels_ok, lengths_ok, update_refusal}

pub channels-passed :
    (captures renders : ℕ) (converged : List Bool) (render capture : List Float)
    → update_refusal captures renders converged render capture ≡ accepted → channels_ok captures renders ≡ true
unfolding update_refusal
channels-passed captures renders converged render capture ok =
    passed (channels_ok captures renders) 1
    (unless (lengths_ok captures renders converged render capture) bad_length (value_refusal (render ++ capture))) ok
