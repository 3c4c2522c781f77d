-- What a state keeps over any list of calls.
use mathlib.Core.Path.{◌≡◌, refl, sym, subst}
use mathlib.Core.Bool.{Bool, true}
use mathlib.Core.List.{List}
use Prim.Native.Nat.{ℕ, ◌≤◌, ◌<◌}
use native.Mathlib.Omega.{arith}
use borrow.Author.Tests.{eqb-true}
use lib.Dec.{eqb}
use lib.Ieee.{Float}
use Rattle.aec3_common.specs.Calls.{Call, update, reset}
use Rattle.aec3_common.specs.Refusal.{accepted}
use Rattle.aec3_common.proofs.Calls.{UpdateOk, limits-passed, few-channels, update-ok, run-keeps}
use Rattle.aec3_common.proofs.Choices.{cond_has}
use Rattle.aec3_common.proofs.Tables.{get_or-tab, get_or-tab-first}
use Rattle.aec3_common.proofs.Limits.{InBinary32}
use Rattle.filter_sections.proofs.Limits.{AllInOrder, all-in-order}
use Rattle.subband_erle_estimator.specs.declared.settings.SubbandSettings.{SubbandSettings}
use Rattle.subband_erle_estimator.specs.declared.SubbandErleEstimator.{SubbandErleEstimator}
use Rattle.subband_erle_estimator.specs.Channel.{fresh, channel_after}
use Rattle.subband_erle_estimator.specs.Subband.{settings_refusal, state_ok, update_refusal, state_refusal, started, reset_answer, no_channel, channel_at, block_of, updated, update_answer}
use Rattle.subband_erle_estimator.specs.Resting.{answer, run}
use Rattle.subband_erle_estimator.proofs.Sums.{block-ok, state-ok}
use Rattle.subband_erle_estimator.proofs.Channels.{ChannelKept, fresh_kept, after_kept}

-- ---- settings

-- every band has a minimum and a maximum, and there are at most four channels
pub record SettingsOk (g : SubbandSettings) : Type 0 where
  pub limits : AllInOrder g.limits.min g.limits.max_l g.limits.max_h
  pub channels : g.num_capture_channels ≤ 4

-- settings that pass
pub settings-ok : (g : SubbandSettings) → InBinary32 g.limits.min g.limits.max_l g.limits.max_h → settings_refusal g ≡ accepted → SettingsOk g
unfolding settings_refusal
settings-ok g in_binary32 e =
    record {
      limits = all-in-order g.limits.min g.limits.max_l g.limits.max_h in_binary32 (limits-passed g.limits.min g.limits.max_l g.limits.max_h g.num_capture_channels e);
      channels = few-channels g.limits.min g.limits.max_l g.limits.max_h g.num_capture_channels e;
    }

-- ---- a state

-- an accepted update
pub passed-update :
    (s : SubbandErleEstimator) (channels : ℕ) (converged : List Bool) (render capture residual : List Float)
    → update_refusal s channels converged render capture residual ≡ accepted
    → UpdateOk (state_ok s) s.settings.num_capture_channels converged render capture residual
unfolding update_refusal
passed-update s channels converged render capture residual e =
    update-ok (state_ok s) s.settings.num_capture_channels channels converged render capture residual e

-- What a state keeps: its settings, and what each of its channels keeps.
pub record Kept (g : SubbandSettings) (s : SubbandErleEstimator) : Type 0 where
  pub settings : s.settings ≡ g
  pub channels : (ch : ℕ) → ch < g.num_capture_channels → ChannelKept g (channel_at s ch)

module _ (g : SubbandSettings) (ok : SettingsOk g) where
  pub started-kept : Kept g (started g)
  unfolding started
  started-kept =
      record {
        settings = refl;
        channels = λ ch h.
            subst (ChannelKept g) (sym (get_or-tab 4 (λ c. fresh g.limits.min) ch no_channel (omega (arith, ok.channels)))) (fresh_kept g ok.limits);
      }

  -- a channel after an accepted update
  pub updated-channel :
      (s : SubbandErleEstimator) (converged : List Bool) (render capture residual : List Float)
      → Kept g s → (ch : ℕ) → ch < g.num_capture_channels
      → channel_at (updated s converged render capture residual) ch
      ≡ channel_after g (block_of converged render capture residual ch) (channel_at s ch)
  unfolding updated
  updated-channel s converged render capture residual kept ch h =
      rw kept.settings
      (get_or-tab-first 4 g.num_capture_channels (λ j. channel_after g (block_of converged render capture residual j) (channel_at s j)) (channel_at s) ch
      no_channel ok.channels h)

-- ---- an accepted update

module _ (g : SubbandSettings) (ok : SettingsOk g) where
  pub updated-kept :
      (s : SubbandErleEstimator) (converged : List Bool) (render capture residual : List Float) → Kept g s
      → UpdateOk (state_ok s) s.settings.num_capture_channels converged render capture residual
      → Kept g (updated s converged render capture residual)
  unfolding updated
  updated-kept s converged render capture residual kept lent =
      let given = rw kept.settings at lent in
      record {
        settings = kept.settings;
        channels = λ ch h.
            subst (ChannelKept g) (sym (updated-channel g ok s converged render capture residual kept ch h))
            (after_kept g (block_of converged render capture residual ch) (channel_at s ch) ok.limits (block-ok given ch h) (kept.channels ch h));
      }

  answer-kept : (s : SubbandErleEstimator) (c : Call) → Kept g s → Kept g (answer s c).state
  unfolding answer update_answer reset_answer
  answer-kept s (update channels converged render capture residual) kept =
      cond_has (Kept g) (eqb (update_refusal s channels converged render capture residual) accepted)
      (λ e. updated-kept s converged render capture residual kept (passed-update s channels converged render capture residual (eqb-true _ accepted e)))
      (λ e. kept)
  answer-kept s reset kept = cond_has (Kept g) (eqb (state_refusal s) accepted) (λ e. rw kept.settings (started-kept g ok)) (λ e. kept)

  pub run-kept : (calls : List Call) (s : SubbandErleEstimator) → Kept g s → Kept g (run s calls)
  unfolding run
  run-kept = run-keeps (Kept g) (λ s c. (answer s c).state) answer-kept

-- number 20 lets such a state pass
pub kept-ok : {g : SubbandSettings} (s : SubbandErleEstimator) → settings_refusal g ≡ accepted → Kept g s → state_ok s ≡ true
kept-ok s passed kept = state-ok s (rw kept.settings passed) (λ ch h. (kept.channels ch (rw kept.settings at h)).sums)
