-- What a state keeps over any list of calls: its settings, and what each of its channels keeps. So it is taken up again.
use mathlib.Core.Path.{◌≡◌, refl, sym, subst}
use mathlib.Core.Bool.{Bool, true, false}
use mathlib.Core.List.{List}
use Prim.Native.Nat.{ℕ, ◌+◌, ◌*◌, ◌^◌, ◌≤◌, ◌<◌}
use native.Mathlib.Omega.{arith}
use borrow.Author.Tests.{eqb-true}
use lib.Dec.{T, eqb}
use lib.Ieee.{Float, binary32, add}
use lib.ListN.{length, get_or}
use Rattle.aec3_common.specs.Binary32.{greatest_value, within, values_ok}
use Rattle.aec3_common.specs.Calls.{Call, update, reset}
use Rattle.aec3_common.specs.Refusal.{accepted, bad_state}
use Rattle.aec3_common.specs.Spectra.{part, sum}
use Rattle.aec3_common.proofs.Bands.{part_length, part-list_all}
use Rattle.aec3_common.proofs.Calls.{UpdateOk, few-channels, update-ok, update-not-20, run-keeps}
use Rattle.aec3_common.proofs.Choices.{cond_has}
use Rattle.aec3_common.proofs.Every.{list_all_first}
use Rattle.aec3_common.proofs.Numbers.{number, UpTo, no-sum, sum-up-to, log2-number}
use Rattle.aec3_common.proofs.Tables.{get_or-tab, get_or-tab-first}
use Rattle.fullband_channel.specs.declared.channel.FullBandChannel.{FullBandChannel}
use Rattle.fullband_channel.specs.Instantaneous.{epsilon}
use Rattle.fullband_channel.specs.Channel.{channel_ok, fresh_channel, channel_after}
use Rattle.fullband_channel.proofs.Bounded.{FigureSized, log2-above-figure}
use Rattle.fullband_channel.proofs.Kept.{SumOf, ChannelKept, fresh_kept, after_kept, channel-ok}
use Rattle.fullband_erle_estimator.specs.declared.settings.FullBandSettings.{FullBandSettings}
use Rattle.fullband_erle_estimator.specs.declared.FullBandErleEstimator.{FullBandErleEstimator}
use Rattle.fullband_erle_estimator.specs.FullBand.{settings_refusal, state_ok, state_refusal, update_refusal, min_log2, started, reset_answer, no_channel, channel_at, updated, update_answer}
use Rattle.fullband_erle_estimator.specs.Runs.{answer, run, NeverBadState}

-- the sum of a channel's values is one point
one-point : (n : ℕ) (xs : List Float) (ch : ℕ) → length xs ≡ n * 65 → values_ok xs ≡ true → ch < n → SumOf 1 (sum (part xs ch))
one-point n xs ch long ok h =
    let size : length (part xs ch) ≡ 65 = part_length xs ch (omega arith) in
    subst (λ (m : ℕ). UpTo ((0 + m) * 2 ^ 100) (sum (part xs ch))) size
    (sum-up-to 0 (part xs ch) no-sum (part-list_all (within greatest_value) xs ch ok) (omega arith))

-- ---- a state

-- What a state keeps: its settings, and what each of its channels keeps.
pub record Kept (g : FullBandSettings) (s : FullBandErleEstimator) : Type 0 where
  pub settings : s.settings ≡ g
  pub channels : (ch : ℕ) → ch < g.num_capture_channels → ChannelKept (min_log2 g) (channel_at s ch)

pub min-number : (g : FullBandSettings) → T (number (min_log2 g))
unfolding min_log2
min-number g = log2-number (add binary32 g.limits.min epsilon)

pub min-sized : (g : FullBandSettings) → FigureSized (min_log2 g)
unfolding min_log2
min-sized g = log2-above-figure g.limits.min

module _ (g : FullBandSettings) (passed : settings_refusal g ≡ accepted) where
  few : g.num_capture_channels ≤ 4
  unfolding settings_refusal
  few = few-channels g.limits.min g.limits.max_l g.limits.max_h g.num_capture_channels passed

  pub started-kept : Kept g (started g)
  unfolding started
  started-kept =
      record {
        settings = refl;
        channels = λ ch h.
            subst (ChannelKept (min_log2 g)) (sym (get_or-tab 4 (λ c. fresh_channel (min_log2 g)) ch no_channel (omega (arith, few))))
            (fresh_kept (min_log2 g) (min-number g) (min-sized g));
      }

  pub updated-kept :
      (s : FullBandErleEstimator) (converged : List Bool) (render capture residual : List Float) → Kept g s
      → UpdateOk (state_ok s) s.settings.num_capture_channels converged render capture residual
      → Kept g (updated s converged render capture residual)
  unfolding updated
  updated-kept s converged render capture residual kept ok =
      let given = rw kept.settings at ok in
      let n = g.num_capture_channels in
      let next : ℕ → FullBandChannel = λ ch.
      channel_after (min_log2 g) (get_or converged ch false) render (part capture ch) (part residual ch) (channel_at s ch) in
      record {
        settings = kept.settings;
        channels = λ ch h.
            rw kept.settings
            (subst (ChannelKept (min_log2 g)) (sym (get_or-tab-first 4 n next (channel_at s) ch no_channel few h))
            (after_kept (min_log2 g) (min-number g) (min-sized g) (get_or converged ch false) render (part capture ch) (part residual ch) (channel_at s ch)
            (one-point n capture ch given.long_capture given.capture_ok h)
            (one-point n residual ch given.long_residual given.residual_ok h)
            (kept.channels ch h)));
      }

  answer-kept : (s : FullBandErleEstimator) (c : Call) → Kept g s → Kept g (answer s c).state
  unfolding answer update_answer update_refusal reset_answer
  answer-kept s (update channels converged render capture residual) kept =
      let n = update_refusal s channels converged render capture residual in
      let count = s.settings.num_capture_channels in
      cond_has (Kept g) (eqb n accepted)
      (λ e. updated-kept s converged render capture residual kept (update-ok (state_ok s) count channels converged render capture residual (eqb-true n accepted e)))
      (λ e. kept)
  answer-kept s reset kept = cond_has (Kept g) (eqb (state_refusal s) accepted) (λ e. rw kept.settings started-kept) (λ e. kept)

  pub run-kept : {start : FullBandErleEstimator} → start ≡ started g → (calls : List Call) → Kept g (run start calls)
  unfolding run
  run-kept same calls = run-keeps (Kept g) (λ s c. (answer s c).state) answer-kept calls _ (rw same started-kept)

-- ---- never refused under 20

pub state-ok : (g : FullBandSettings) (s : FullBandErleEstimator) → settings_refusal g ≡ accepted → Kept g s → state_ok s ≡ true
unfolding state_ok
state-ok g s passed kept =
    rw (kept.settings, passed)
    (list_all_first channel_ok g.num_capture_channels s.channels no_channel
    (λ ch h. channel-ok (channel_at s ch) (kept.channels ch h)))

answer-not-20 : (s : FullBandErleEstimator) (c : Call) → state_ok s ≡ true → (answer s c).refused ≡ bad_state → ⊥
unfolding answer update_answer update_refusal reset_answer state_refusal
answer-not-20 s (update channels converged render capture residual) ok e =
    update-not-20 s.settings.num_capture_channels channels converged render capture residual (rw ok at e)
answer-not-20 s reset ok e = let never : ◌≡◌ {A = ℕ} 0 20 = rw ok at e in omega arith

pub never-bad-state : (g : FullBandSettings) {start : FullBandErleEstimator} → start ≡ started g → settings_refusal g ≡ accepted → NeverBadState start
unfolding NeverBadState state_refusal
never-bad-state g same passed calls =
    let s = run _ calls in
    let ok = state-ok g s passed (run-kept g passed same calls) in
    record { calls = λ next. answer-not-20 s next ok; readings = rw ok }
