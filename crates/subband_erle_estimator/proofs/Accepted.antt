-- No state of a run from an accepted start is turned away under 20.
use mathlib.Core.Path.{◌≡◌}
use mathlib.Core.Bool.{true}
use Prim.Native.Nat.{ℕ}
use native.Mathlib.Omega.{arith}
use Rattle.aec3_common.specs.Calls.{Call, update, reset}
use Rattle.aec3_common.specs.Refusal.{accepted, bad_state}
use Rattle.aec3_common.proofs.Calls.{update-not-20}
use Rattle.subband_erle_estimator.specs.declared.settings.SubbandSettings.{SubbandSettings}
use Rattle.subband_erle_estimator.specs.declared.SubbandErleEstimator.{SubbandErleEstimator}
use Rattle.subband_erle_estimator.specs.Subband.{settings_refusal, state_ok, update_refusal, state_refusal, started, reset_answer, update_answer}
use Rattle.subband_erle_estimator.specs.Resting.{answer, run}
use Rattle.subband_erle_estimator.specs.Accepted.{NeverBadState}
use Rattle.subband_erle_estimator.proofs.Calls.{settings-ok, started-kept, run-kept, kept-ok}
use Rattle.aec3_common.proofs.Limits.{InBinary32}

answer-not-20 : (s : SubbandErleEstimator) (c : Call) → state_ok s ≡ true → (answer s c).refused ≡ bad_state → ⊥
unfolding answer update_answer update_refusal reset_answer state_refusal
answer-not-20 s (update channels converged render capture residual) ok e =
    update-not-20 s.settings.num_capture_channels channels converged render capture residual (rw ok at e)
answer-not-20 s reset ok e = let never : ◌≡◌ {A = ℕ} 0 20 = rw ok at e in omega arith

pub never-bad-state : (g : SubbandSettings) → InBinary32 g.limits.min g.limits.max_l g.limits.max_h → settings_refusal g ≡ accepted → NeverBadState (started g)
unfolding NeverBadState
never-bad-state g in_binary32 e calls next =
    let ok = settings-ok g in_binary32 e in
    answer-not-20 (run (started g) calls) next (kept-ok (run (started g) calls) e (run-kept g ok calls (started g) (started-kept g ok)))
