-- No call of a run from an accepted start is refused under 20, and every figure stays in range.
use mathlib.Core.Path.{◌≡◌, refl, ◌∙◌, subst}
use mathlib.Core.List.{List}
use mathlib.Core.Bool.{true}
use Prim.Native.Nat.{ℕ}
use native.Mathlib.Omega.{arith}
use Rattle.aec3_common.specs.declared.settings.ErleSettings.{ErleSettings}
use Rattle.aec3_common.specs.Refusal.{accepted, bad_state}
use Rattle.aec3_common.specs.Settings.{settings_refusal}
use Rattle.aec3_common.proofs.Calls.{run-keeps}
use Rattle.aec3_common.proofs.Limits.{InBinary32}
use Rattle.aec3_common.proofs.Values.{values-not-20}
use Rattle.signal_dependent_erle_estimator.proofs.Judged.{refusal-not-20}
use Rattle.erle_estimator.specs.declared.ErleEstimator.{ErleEstimator}
use Rattle.erle_estimator.specs.Parts.{signal_settings}
use Rattle.erle_estimator.specs.Erle.{Update, lent_values, state_ok, state_refusal, update_refusal, started_with, reset_answer, after_accepted, update_answer}
use Rattle.erle_estimator.specs.Runs.{Call, update, reset, answer, run, NeverBadState}
use Rattle.erle_estimator.specs.Range.{AllInRange, FiguresInRange}
use Rattle.erle_estimator.proofs.Range.{all-in-range}
use Rattle.erle_estimator.proofs.Sections.{after-like, answer-like, reset-like}
use Rattle.erle_estimator.proofs.Good.{Good, good-ok, started-good, update-good, reset-good}

answer-good : (s : ErleEstimator) (c : Call) → Good s → Good (answer s c).state
unfolding answer
answer-good s (update u) good = update-good s u good
answer-good s (reset delay_change) good = reset-good s delay_change good

answer-not-20 : (s : ErleEstimator) (c : Call) → state_ok s ≡ true → (answer s c).refused ≡ bad_state → ⊥
unfolding answer update_answer update_refusal reset_answer state_refusal
answer-not-20 s (update u) ok e = refusal-not-20 (signal_settings s.settings) u _ _ (values-not-20 (lent_values u)) (rw ok at e)
answer-not-20 s (reset delay_change) ok e = let never : ◌≡◌ {A = ℕ} 0 20 = rw ok at e in omega arith

-- what a run from an accepted start keeps
run-good :
    (startup : ℕ) (g : ErleSettings) → InBinary32 g.limits.min g.limits.max_l g.limits.max_h → settings_refusal g ≡ accepted
    → (calls : List Call) → Good (run (started_with startup 0 g) calls)
unfolding run
run-good startup g held e calls = run-keeps Good (λ t c. (answer t c).state) answer-good calls _ (started-good startup 0 g held e)

pub never-bad-state :
    (startup : ℕ) (g : ErleSettings) → InBinary32 g.limits.min g.limits.max_l g.limits.max_h → settings_refusal g ≡ accepted
    → NeverBadState (started_with startup 0 g)
unfolding NeverBadState state_refusal
never-bad-state startup g held e calls =
    let s = run (started_with startup 0 g) calls in
    let ok = good-ok s (run-good startup g held e calls) in
    record { calls = λ next. answer-not-20 s next ok; readings = rw ok }

-- ---- figures

-- no call changes the settings
pub update-settings : (s : ErleEstimator) (u : Update) → (after_accepted s u).settings ≡ s.settings
update-settings s u = (after-like s u).0

answer-settings : (s : ErleEstimator) (c : Call) → (answer s c).state.settings ≡ s.settings
unfolding answer
answer-settings s (update u) = (answer-like s u).0
answer-settings s (reset delay_change) = (reset-like s delay_change).settings

run-settings : (g : ErleSettings) (calls : List Call) (s : ErleEstimator) → s.settings ≡ g → (run s calls).settings ≡ g
unfolding run
run-settings g =
    run-keeps (λ (s : ErleEstimator). s.settings ≡ g) (λ s c. (answer s c).state) (λ s c same. answer-settings s c ∙ same)

pub figures-in-range :
    (startup : ℕ) (g : ErleSettings) → InBinary32 g.limits.min g.limits.max_l g.limits.max_h → settings_refusal g ≡ accepted
    → FiguresInRange g (started_with startup 0 g)
unfolding FiguresInRange started_with
figures-in-range startup g held e calls =
    let start = (started_with startup 0 g) in
    let s = run start calls in
    subst (λ (asked : ErleSettings). AllInRange asked s) (run-settings g calls start refl)
    (all-in-range s (run-good startup g held e calls))
