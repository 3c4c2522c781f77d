-- What a channel keeps: active sections below the section count, streams in range, and what it has learnt.
use mathlib.Core.Path.{◌≡◌, sym, ◌∙◌, subst}
use mathlib.Core.Bool.{true}
use mathlib.Core.List.{List}
use Prim.Native.Nat.{ℕ, ◌*◌, ◌≤◌, ◌<◌}
use native.Mathlib.Omega.{arith}
use borrow.Author.Tests.{lt-ltb}
use lib.Dec.{ltb}
use lib.Ieee.{Float, nan}
use lib.ListN.{length, get_or}
use Rattle.aec3_common.specs.Binary32.{greatest_value, within, values_ok}
use Rattle.std.specs.List.{list_all}
use Rattle.aec3_common.specs.Lists.{tab}
use Rattle.aec3_common.specs.Spectra.{part}
use Rattle.aec3_common.proofs.Bands.{part_length, part-list_all}
use Rattle.aec3_common.proofs.Choices.{cond_has}
use Rattle.aec3_common.proofs.Every.{list_all-by}
use Rattle.aec3_common.proofs.Fitting.{Between}
use Rattle.aec3_common.proofs.Limits.{min-between, number-from}
use Rattle.aec3_common.proofs.Tables.{length-tab, get_or-tab}
use Rattle.filter_sections.specs.Subbands.{max_erle}
use Rattle.filter_sections.proofs.Limits.{AllInOrder}
use Rattle.correction_factors.specs.declared.CorrectionFactors.{CorrectionFactors}
use Rattle.correction_factors.specs.Factors.{subband_sums}
use Rattle.correction_factors.specs.Streams.{own_or_63, corrected, last_copied}
use Rattle.correction_factors.proofs.Corrected.{own-max, own-inside}
use Rattle.correction_factors.proofs.Range.{LearntKept, fresh-kept, learnt-kept, learnt-in-range}
use Rattle.correction_factors.proofs.StreamsKept.{corrected-kept}
use Rattle.correction_factors.proofs.Taught.{lesson-plus}
use Rattle.signal_dependent_erle_estimator.specs.declared.settings.SignalDependentSettings.{SignalDependentSettings}
use Rattle.signal_dependent_erle_estimator.specs.declared.channel.SignalDependentChannel.{SignalDependentChannel}
use Rattle.signal_dependent_erle_estimator.specs.Channel.{Lent, fresh_channel, learnt_if, channel_after}
use Rattle.signal_dependent_erle_estimator.specs.SignalDependent.{channel_ok}
use Rattle.signal_dependent_erle_estimator.specs.Range.{ChannelInRange}
use Rattle.signal_dependent_erle_estimator.proofs.Judged.{one-of-eight}

-- a stream of 65 bands, each within its limits
pub record StreamKept (g : SignalDependentSettings) (stream : List Float) : Type 0 where
  pub long : length stream ≡ 65
  pub bands : (k : ℕ) → k < 65 → Between g.limits.min (max_erle g.limits.max_l g.limits.max_h k) (get_or stream k nan)

pub record ChannelKept (g : SignalDependentSettings) (c : SignalDependentChannel) : Type 0 where
  pub sections : channel_ok g.layout.num_sections c ≡ true
  pub plain : StreamKept g c.erle
  pub compensated : StreamKept g c.erle_onset_compensated
  pub learnt : LearntKept g.limits.min g.limits.max_l g.limits.max_h c.corrections

-- a spectrum of values from 0 to 2^100
pub record SpectrumOk (spectrum : List Float) : Type 0 where
  pub long : length spectrum ≡ 65
  pub values : values_ok spectrum ≡ true

-- one of n in a list of such values
pub spectrum-part :
    (n : ℕ) (spectra : List Float) (ch : ℕ) → length spectra ≡ n * 65 → values_ok spectra ≡ true → ch < n → SpectrumOk (part spectra ch)
spectrum-part n spectra ch long ok h =
    record { long = part_length spectra ch (omega arith); values = part-list_all (within greatest_value) spectra ch ok }

-- what an accepted update lends one channel
pub record LentOk (l : Lent) : Type 0 where
  pub capture : SpectrumOk l.capture
  pub average : SpectrumOk l.average
  pub compensated : SpectrumOk l.average_compensated

module _ (g : SignalDependentSettings) (some : 1 ≤ g.layout.num_sections) (few : g.layout.num_sections ≤ 8) (limits : AllInOrder g.limits.min g.limits.max_l g.limits.max_h) where
  pub fresh_kept : ChannelKept g (fresh_channel g.limits.min)
  unfolding channel_ok fresh_channel
  fresh_kept =
      record {
        sections =
            list_all-by (λ n. ltb n g.layout.num_sections) (tab 65 (λ k. 0)) 0
            (λ k h.
            let b : k < 65 = omega (arith, length-tab {A = ℕ} 65 (λ j. 0)) in
            rw (get_or-tab {A = ℕ} 65 (λ j. 0) k 0 b) (lt-ltb 0 g.layout.num_sections some));
        plain = least;
        compensated = least;
        learnt = fresh-kept g.limits.min g.limits.max_l g.limits.max_h limits;
      }
    where
      least : StreamKept g (tab 65 (λ k. g.limits.min))
      least =
          record {
            long = length-tab 65 _;
            bands = λ k h. subst (Between g.limits.min (max_erle g.limits.max_l g.limits.max_h k)) (sym (get_or-tab 65 (λ k. g.limits.min) k nan h)) (min-between (limits k));
          }

  module _
      (active : List ℕ) (below : list_all (λ n. ltb n g.layout.num_sections) active ≡ true)
      (render : List Float) (l : Lent) (lent : LentOk l) (c : SignalDependentChannel) (kept : ChannelKept g c)
    where
      learning : CorrectionFactors
      learning = learnt_if g active (subband_sums render) l.converged l.capture l.residual c.corrections

      learning-kept : LearntKept g.limits.min g.limits.max_l g.limits.max_h learning
      unfolding learning learnt_if
      learning-kept =
          cond_has (LearntKept g.limits.min g.limits.max_l g.limits.max_h) l.converged
          (λ e.
          learnt-kept g.limits.min g.limits.max_l g.limits.max_h limits _
          (lesson-plus g.layout.num_sections active render l.capture l.residual lent.capture.long lent.capture.values)
          kept.learnt)
          (λ e. kept.learnt)

      follow : (average : List Float) → SpectrumOk average → StreamKept g (corrected g.limits.min g.limits.max_l g.limits.max_h learning.correction_factors active average)
      unfolding corrected
      follow average ok =
          record {
            long = length-tab 65 _;
            bands =
                corrected-kept g.limits.min g.limits.max_l g.limits.max_h limits learning-kept active average (λ k h. one-of-eight g.layout.num_sections active few below k)
                ok.long ok.values;
          }

      -- a stream that is not corrected stays
      copied : (stream : List Float) → StreamKept g stream → StreamKept g (last_copied stream)
      unfolding last_copied
      copied stream s =
          record {
            long = length-tab _ _ ∙ s.long;
            bands = λ k h.
                subst (Between g.limits.min (max_erle g.limits.max_l g.limits.max_h k)) (sym (get_or-tab (length stream) (λ j. get_or stream (own_or_63 j) nan) k nan (omega (arith, s.long))))
                (rw (← own-max g.limits.max_l g.limits.max_h k) (s.bands (own_or_63 k) (own-inside k h)));
          }

      pub after_kept : ChannelKept g (channel_after g active (subband_sums render) l c)
      unfolding channel_ok channel_after learning
      after_kept =
          record {
            sections = below;
            plain = follow l.average lent.average;
            compensated =
                cond_has (StreamKept g) g.onset_detection
                (λ on. follow l.average_compensated lent.compensated)
                (λ off. copied c.erle_onset_compensated kept.compensated);
            learnt = learning-kept;
          }

pub channel-in-range :
    {g : SignalDependentSettings} {c : SignalDependentChannel} → AllInOrder g.limits.min g.limits.max_l g.limits.max_h → ChannelKept g c → ChannelInRange g c
channel-in-range limits kept =
    record {
      plain = λ k h. number-from (kept.plain.bands k h);
      compensated = λ k h. number-from (kept.compensated.bands k h);
      learnt = learnt-in-range limits kept.learnt;
    }
