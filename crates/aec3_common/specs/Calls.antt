-- Calls of an estimator: lists of them, and which updates are turned away.
use Rattle.std.specs.Prelude.{ℕ, ◌*◌, Bool, ◌&&◌, List, [], ◌∷◌, ◌++◌, length, ◌==◌, Float}
use Rattle.aec3_common.specs.Binary32.{values_ok}
use Rattle.aec3_common.specs.Refusal.{unless, accepted, bad_length, bad_value, bad_state, other_channel_count}

-- ---- lists of calls

-- a call, accepted or refused: an update with its channel count, flags, renders, captures and residuals; or a reset
pub data Call : Type 0 where
  update : ℕ → List Bool → List Float → List Float → List Float → Call
  reset : Call

-- each call takes up the state that the last one left
unfoldable pub run_by : {S C : Type 0} → (S → C → S) → S → List C → S
run_by step s [] = s
run_by step s (c ∷ cs) = run_by step (step s c) cs

-- ---- updates turned away

-- one flag and 65 captures and residuals for each channel, 65 renders
abbrev pub lengths_ok : ℕ → List Bool → List Float → List Float → List Float → Bool
lengths_ok channels converged render capture residual =
    (length converged == channels)
    && length render == 65
    && length capture == channels * 65
    && length residual == channels * 65

-- number 6, of render, capture and residual power
abbrev pub values_in_range : List Float → List Float → List Float → Bool
values_in_range render capture residual = values_ok render && values_ok capture && values_ok residual

-- of all values that a call is lent, one list behind the other: 6, or 0
unfoldable pub value_refusal : List Float → ℕ
value_refusal values = unless (values_ok values) bad_value accepted

-- The first of 20, 21, 5 and 6, or 0. The state is told by whether number 20 lets it pass, and by its channel count.
unfoldable pub call_refusal : Bool → ℕ → ℕ → List Bool → List Float → List Float → List Float → ℕ
call_refusal state_ok count channels converged render capture residual =
    unless state_ok bad_state
    (unless (channels == count) other_channel_count
    (unless (lengths_ok channels converged render capture residual) bad_length
    (value_refusal (render ++ capture ++ residual))))
