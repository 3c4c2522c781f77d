-- The claim: the range over any list of calls, and the rest after 500 updates of an unconverged channel.
use mathlib.Core.Path.{◌≡◌, refl, sym, ap, ◌∙◌, subst}
use mathlib.Core.Bool.{Bool, true, false, cond, false≢true, true≢false}
use mathlib.Core.List.{List, [], ◌∷◌}
use Prim.Native.Nat.{ℕ, zero, suc, ◌<◌}
use borrow.Author.Tests.{eqb-true, not-true}
use lib.Dec.{eqb}
use lib.ListN.{length, get_or}
use Rattle.aec3_common.specs.Calls.{Call, update, reset, run_by}
use Rattle.std.specs.List.{list_all}
use Rattle.aec3_common.specs.Refusal.{accepted}
use Rattle.aec3_common.proofs.Calls.{run-append}
use Rattle.aec3_common.proofs.Choices.{and_left, and_right}
use Rattle.aec3_common.proofs.Limits.{InBinary32, number-from}
use Rattle.erle_bands.specs.Band.{Streams}
use Rattle.erle_bands.proofs.Rest.{resting-start}
use Rattle.subband_erle_estimator.specs.declared.settings.SubbandSettings.{SubbandSettings}
use Rattle.subband_erle_estimator.specs.declared.SubbandErleEstimator.{SubbandErleEstimator}
use Rattle.subband_erle_estimator.specs.Subband.{settings_refusal, started, reset_answer, update_answer, channel_at, block_of}
use Rattle.subband_erle_estimator.specs.Resting.{answer, run, accepted_of, unconverged, AtRest, RangeAndRest}
use Rattle.subband_erle_estimator.proofs.Quiet.{ChannelResting, after-resting, rest-compensated, rest-waits}
use Rattle.subband_erle_estimator.proofs.Calls.{SettingsOk, settings-ok, Kept, started-kept, run-kept, passed-update, updated-channel, updated-kept}

-- a refused call passes on the state that it got
refused-stays : (s : SubbandErleEstimator) (c : Call) → eqb (answer s c).refused accepted ≡ false → (answer s c).state ≡ s
unfolding answer update_answer reset_answer
refused-stays s (update channels converged render capture residual) e = rw e
refused-stays s reset e = rw e

-- ---- a channel at rest

-- with r updates to go channel ch rests, beside what it showed before
record StateResting (g : SubbandSettings) (ch r : ℕ) (before s : SubbandErleEstimator) : Type 0 where
  kept : Kept g s
  channel : ChannelResting r (channel_at before ch) (channel_at s ch)

-- a flag that is given and not set
flag_off : (flags : List Bool) (ch : ℕ) → get_or flags ch true ≡ false → get_or flags ch false ≡ false
flag_off [] ch e = absurd (true≢false e)
flag_off (x ∷ xs) zero e = e
flag_off (x ∷ xs) (suc ch) e = flag_off xs ch e

module _ (g : SubbandSettings) (ok : SettingsOk g) (on : g.onset_detection ≡ true) (ch : ℕ) (h : ch < g.num_capture_channels) where
  -- an accepted update in which the channel stands unconverged leaves one less to go
  call-resting :
      {r : ℕ} {before : SubbandErleEstimator} (s : SubbandErleEstimator) (c : Call)
      → (answer s c).refused ≡ accepted → unconverged ch c ≡ true
      → StateResting g ch (suc r) before s → StateResting g ch r before (answer s c).state
  unfolding answer update_answer unconverged
  call-resting {r} {before} s (update channels converged render capture residual) e quiet resting =
      let off = flag_off converged ch (not-true (get_or converged ch true) quiet) in
      rw e
      (record {
        kept = updated-kept g ok s converged render capture residual resting.kept (passed-update s channels converged render capture residual e);
        channel =
            subst (ChannelResting r (channel_at before ch)) (sym (updated-channel g ok s converged render capture residual resting.kept ch h))
            (after-resting g ok.limits (channel_at s ch) (resting.kept.channels ch h) (block_of converged render capture residual ch) on off resting.channel);
      })
  call-resting s reset e quiet resting = absurd (false≢true quiet)

  -- and so a list of calls whose accepted ones are such updates
  run-resting :
      (cs : List Call) {before : SubbandErleEstimator} (s : SubbandErleEstimator) → list_all (unconverged ch) (accepted_of s cs) ≡ true
      → StateResting g ch (length (accepted_of s cs)) before s → StateResting g ch 0 before (run s cs)
  unfolding accepted_of run run_by
  run-resting [] s quiet resting = resting
  run-resting (c ∷ cs) {before} s quiet resting =
      go (eqb (answer s c).refused accepted) refl quiet resting (λ still more. run-resting cs (answer s c).state still more)
    where
      others : List Call
      others = accepted_of (answer s c).state cs

      Later : Type 0
      Later =
          list_all (unconverged ch) others ≡ true → StateResting g ch (length others) before (answer s c).state
          → StateResting g ch 0 before (run (answer s c).state cs)

      go :
          (t : Bool) → eqb (answer s c).refused accepted ≡ t
          → list_all (unconverged ch) (cond t (c ∷ others) others) ≡ true
          → StateResting g ch (length (cond t (c ∷ others) others)) before s
          → Later → StateResting g ch 0 before (run (answer s c).state cs)
      go true e quiet resting later =
          later (and_right (unconverged ch c) (list_all (unconverged ch) others) quiet)
          (call-resting s c (eqb-true (answer s c).refused accepted e) (and_left (unconverged ch c) (list_all (unconverged ch) others) quiet) resting)
      go false e quiet resting later =
          later quiet (subst (StateResting g ch (length others) before) (sym (refused-stays s c e)) resting)

-- ---- the claim

module _ (g : SubbandSettings) (in_binary32 : InBinary32 g.limits.min g.limits.max_l g.limits.max_h) (e : settings_refusal g ≡ accepted) where
  start : SubbandErleEstimator
  start = started g

  ok : SettingsOk g
  ok = settings-ok g in_binary32 e

  first : Kept g start
  unfolding start
  first = started-kept g ok

  -- after 500 updates in which a channel stands unconverged it is at rest
  at_rest :
      (before s : SubbandErleEstimator) (ch : ℕ) → ch < g.num_capture_channels → StateResting g ch 0 before s
      → (k : ℕ) → k < 65 → AtRest g before s ch k
  at_rest before s ch h end k l =
      let channel = channel_at s ch in
      let held = end.kept.channels ch h in
      record {
        compensated = rest-compensated g ok.limits channel held end.channel k l;
        waits = rest-waits g ok.limits channel held end.channel k l;
        plain = ap (λ (z : Streams). z.plain) (end.channel.streams k l);
        uncapped = ap (λ (z : Streams). z.uncapped) (end.channel.streams k l);
      }

  -- before them it has 500 to go
  resting-first : (s : SubbandErleEstimator) (ch : ℕ) → ch < g.num_capture_channels → Kept g s → StateResting g ch 500 s s
  resting-first s ch h kept =
      record {
        kept = kept;
        channel = record { onset = λ j b inner. resting-start ((kept.channels ch h).onset j b); streams = λ j b. refl };
      }

  pub figures-in-range-and-at-rest : (calls : List Call) → RangeAndRest g calls
  unfolding start run
  figures-in-range-and-at-rest calls =
      record {
        in_range = λ ch k h l.
            let kept = (run-kept g ok calls start first).channels ch h in
            record {
              plain = number-from (kept.streams k l).plain;
              compensated = number-from (kept.onset k l).compensated;
              uncapped = number-from (kept.streams k l).uncapped;
            };
        at_rest = λ earlier later split ch h on many quiet k l.
            let before = run start earlier in
            let resting : StateResting g ch (length (accepted_of before later)) before before =
            subst (λ (r : ℕ). StateResting g ch r before before) (sym many) (resting-first before ch h (run-kept g ok earlier start first)) in
            let whole : run before later ≡ run start calls =
            sym (run-append (λ t c. (answer t c).state) earlier later start) ∙ ap (run start) split in
            subst (λ (z : SubbandErleEstimator). AtRest g before z ch k) whole
            (at_rest before (run before later) ch h (run-resting g ok on ch h later before quiet resting) k l);
      }
