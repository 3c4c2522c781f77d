-- After any list of calls no figure is below log2 of (the minimum plus 0.001), and figures, extremes and qualities are numbers.
use mathlib.Core.Path.{◌≡◌, refl}
use mathlib.Core.Bool.{Bool, true}
use mathlib.Core.List.{List, [], ◌∷◌}
use Prim.Native.Nat.{ℕ, ◌^◌, ◌<◌}
use native.Mathlib.Nat.{le_trans, mul-le-mul_left}
use lib.Dec.{eqb, ltb, lit≤}
use lib.IntN.{pos}
use lib.Ieee.{Float, of_bits, le}
use Rattle.aec3_common.specs.Answers.{answer_case}
use Rattle.aec3_common.specs.Binary32.{zero32, one32, smaller, is_finite, number_from}
use Rattle.std.specs.List.{list_all}
use Rattle.aec3_common.specs.Refusal.{accepted}
use Rattle.aec3_common.proofs.Choices.{and_left, and_right, cond_has}
use Rattle.aec3_common.proofs.Every.{list_all_first}
use Rattle.aec3_common.proofs.Floats.{not-below-itself, smaller-has}
use Rattle.aec3_common.proofs.Grid.{held-power, sized}
use Rattle.aec3_common.proofs.Sizes.{product-of, sized-finite}
use Rattle.fullband_channel.specs.declared.channel.FullBandChannel.{FullBandChannel}
use Rattle.fullband_channel.specs.declared.instantaneous.OptionalNumber.{OptionalNumber}
use Rattle.fullband_channel.specs.Instantaneous.{optional_values}
use Rattle.fullband_channel.proofs.Bounded.{FigureSized}
use Rattle.fullband_channel.proofs.Qualities.{quality-finite, quality-from-0-to-1}
use Rattle.fullband_erle_estimator.specs.declared.settings.FullBandSettings.{FullBandSettings}
use Rattle.fullband_erle_estimator.specs.declared.FullBandErleEstimator.{FullBandErleEstimator}
use Rattle.fullband_erle_estimator.specs.FullBand.{settings_refusal, state_refusal, min_log2, started, no_channel, channel_at, least_from, least_or, fullband_log2, decibels, quality_answer, quality_values}
use Rattle.fullband_erle_estimator.specs.Runs.{figure_of, NotBelowMinimum, FiguresNotBelowMinimum, ChannelNumbers, AreNumbers, FiguresAreNumbers}
use Rattle.fullband_erle_estimator.proofs.Runs.{Kept, min-number, min-sized, run-kept, never-bad-state}

-- ---- the least figure

-- what the figure of each channel has, the least has
least-from-has :
    (p : Float → Bool) (x : Float) (cs : List FullBandChannel)
    → p x ≡ true → list_all (λ (c : FullBandChannel). p c.erle_time_domain_log2) cs ≡ true → p (least_from x cs) ≡ true
least-from-has p x [] h all = h
least-from-has p x (c ∷ cs) h all =
    let figure = c.erle_time_domain_log2 in
    least-from-has p (smaller x figure) cs
    (smaller-has (λ (z : Float). p z ≡ true) h (and_left (p figure) _ all))
    (and_right (p figure) _ all)

least-has :
    (p : Float → Bool) (none : Float) (cs : List FullBandChannel)
    → p none ≡ true → list_all (λ (c : FullBandChannel). p c.erle_time_domain_log2) cs ≡ true → p (least_or none cs) ≡ true
unfolding least_or
least-has p none [] h all = h
least-has p none (c ∷ cs) h all =
    least-from-has p c.erle_time_domain_log2 cs (and_left (p c.erle_time_domain_log2) _ all) (and_right (p c.erle_time_domain_log2) _ all)

-- what log2 of the minimum has and the figure of each channel, the fullband figure has
fullband-has :
    (p : Float → Bool) (g : FullBandSettings) (s : FullBandErleEstimator) → Kept g s → p (min_log2 g) ≡ true
    → ((ch : ℕ) → ch < g.num_capture_channels → p (figure_of s ch) ≡ true) → p (fullband_log2 s) ≡ true
unfolding fullband_log2
fullband-has p g s kept least each =
    rw kept.settings
    (least-has p (min_log2 g) _ least
    (list_all_first (λ (c : FullBandChannel). p c.erle_time_domain_log2) g.num_capture_channels s.channels no_channel each))

pub not-below-minimum : (g : FullBandSettings) (s : FullBandErleEstimator) → Kept g s → NotBelowMinimum g s
not-below-minimum g s kept =
    let min = min_log2 g in
    let each : (ch : ℕ) → ch < g.num_capture_channels → le min (figure_of s ch) ≡ true = λ ch h. (kept.channels ch h).figure in
    record { channels = each; least = fullband-has (le min) g s kept (not-below-itself min (min-number g)) each }

pub figures-not-below-minimum :
    (g : FullBandSettings) {start : FullBandErleEstimator} → start ≡ started g → settings_refusal g ≡ accepted → FiguresNotBelowMinimum g start
unfolding FiguresNotBelowMinimum
figures-not-below-minimum g same passed calls = not-below-minimum g _ (run-kept g passed same calls)

-- ---- numbers

decibels-finite : (x : Float) → FigureSized x → is_finite (decibels x) ≡ true
unfolding decibels of_bits
decibels-finite x (sized s q few m) =
    let p = product-of 3 (pos 0) (2 ^ 160) (held-power 160 (lit≤ tt)) m (le_trans (mul-le-mul_left 3 few) (lit≤ tt)) in
    sized-finite (sized s p.size p.most p.is)

-- what a state keeps tells that its figures, extremes and qualities are numbers
module _ (g : FullBandSettings) (s : FullBandErleEstimator) (kept : Kept g s) where
  channel-numbers : (ch : ℕ) → ch < g.num_capture_channels → ChannelNumbers g s ch
  unfolding quality_answer
  channel-numbers ch h =
      let c = kept.channels ch h in
      let i = (channel_at s ch).instantaneous_erle in
      let here = ltb ch s.settings.num_capture_channels in
      let values : (Float → Bool) → OptionalNumber → Type 0 = λ p o. list_all p (optional_values o) ≡ true in
      let answered : (p : Float → Bool) → OptionalNumber → Type 0 = λ p o. list_all p (quality_values (answer_case (state_refusal s) o)) ≡ true in
      let answers : (p : Float → Bool) (o : OptionalNumber) → values p o → answered p o =
      λ p o has. cond_has (λ answer. list_all p (quality_values answer) ≡ true) (eqb (state_refusal s) accepted) (λ e. has) (λ e. refl) in
      record {
        figure = sized-finite c.sized;
        greatest = sized-finite c.bounded.greatest;
        least = sized-finite c.bounded.least;
        quality = answers is_finite _ (cond_has (values is_finite) here (λ e. quality-finite i c.bounded _ _) (λ e. refl));
        clamped = λ zero one.
            let to_zero : s.settings.clamps.to_zero ≡ true = rw kept.settings zero in
            let to_one : s.settings.clamps.to_one ≡ true = rw kept.settings one in
            answers (number_from zero32 one32) _ (cond_has (values (number_from zero32 one32)) here (λ e. rw (to_zero, to_one) (quality-from-0-to-1 i c.bounded)) (λ e. refl));
      }

  pub are-numbers : AreNumbers g s
  are-numbers =
      let min = min-sized g in
      record {
        channels = channel-numbers;
        log2 = fullband-has is_finite g s kept (sized-finite min) (λ ch h. sized-finite (kept.channels ch h).sized);
        decibels =
            fullband-has (λ (x : Float). is_finite (decibels x)) g s kept (decibels-finite (min_log2 g) min)
            (λ ch h. decibels-finite (figure_of s ch) (kept.channels ch h).sized);
      }

pub figures-are-numbers :
    (g : FullBandSettings) {start : FullBandErleEstimator} → start ≡ started g → settings_refusal g ≡ accepted → FiguresAreNumbers g start
unfolding FiguresAreNumbers
figures-are-numbers g same passed calls = are-numbers g _ (run-kept g passed same calls)

-- what an accepted start promises of the state that it answers with
pub ruleset promises = (never-bad-state, figures-not-below-minimum, figures-are-numbers)
