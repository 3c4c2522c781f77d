-- A channel's record after an update, made of what its steps give.
use mathlib.Core.Path.{◌≡◌, sym, ◌∙◌}
use mathlib.Core.Bool.{true, false, false≢true}
use mathlib.Core.List.{List}
use Prim.Native.Nat.{ℕ}
use lib.Ieee.{Float}
use Rattle.aec3_common.proofs.Choices.{cond-by}
use Rattle.correction_factors.specs.declared.CorrectionFactors.{CorrectionFactors}
use Rattle.correction_factors.specs.Steps.{factors_of, corrected_by}
use Rattle.correction_factors.specs.Streams.{corrected, last_copied}
use Rattle.correction_factors.proofs.Corrected.{corrected-is}
use Rattle.signal_dependent_erle_estimator.specs.declared.settings.SignalDependentSettings.{SignalDependentSettings}
use Rattle.signal_dependent_erle_estimator.specs.declared.channel.SignalDependentChannel.{SignalDependentChannel}
use Rattle.signal_dependent_erle_estimator.specs.Channel.{Lent, learnt_if, channel_after}

module _
    (g : SignalDependentSettings) (active : List ℕ) (renders : List Float) (l : Lent) (c : SignalDependentChannel)
    {learning : CorrectionFactors} (learns : learning ≡ learnt_if g active renders l.converged l.capture l.residual c.corrections)
    {factors : List Float} (chooses : factors ≡ factors_of learning.correction_factors active)
  where
    -- a stream, corrected
    stream-is :
        {stream : List Float} (average : List Float)
        → stream ≡ last_copied (corrected_by g.limits.min g.limits.max_l g.limits.max_h factors average)
        → stream ≡ corrected g.limits.min g.limits.max_l g.limits.max_h (learnt_if g active renders l.converged l.capture l.residual c.corrections).correction_factors active average
    stream-is average e = e ∙ rw (chooses, learns) (corrected-is g.limits.min g.limits.max_l g.limits.max_h _ active average)

    module _
        {plain : List Float} (corrects : plain ≡ last_copied (corrected_by g.limits.min g.limits.max_l g.limits.max_h factors l.average))
        {compensated : List Float}
      where
        -- the record, once the compensated stream is what it shall be
        record_is :
            compensated ≡ (channel_after g active renders l c).erle_onset_compensated
            → ◌≡◌ {A = SignalDependentChannel}
            (record { erle = plain; erle_onset_compensated = compensated; corrections = learning; n_active_sections = active })
            (channel_after g active renders l c)
        unfolding channel_after
        record_is e =
            λ i. record {
              erle = stream-is l.average corrects i;
              erle_onset_compensated = e i;
              corrections = learns i;
              n_active_sections = active;
            }

        pub after_on :
            g.onset_detection ≡ true
            → compensated ≡ last_copied (corrected_by g.limits.min g.limits.max_l g.limits.max_h factors l.average_compensated)
            → ◌≡◌ {A = SignalDependentChannel}
            (record { erle = plain; erle_onset_compensated = compensated; corrections = learning; n_active_sections = active })
            (channel_after g active renders l c)
        unfolding channel_after
        after_on on e =
            record_is (cond-by g.onset_detection compensated _ _ (λ q. stream-is l.average_compensated e) (λ q. absurd (false≢true (sym q ∙ on))))

        pub after-off :
            g.onset_detection ≡ false → compensated ≡ last_copied c.erle_onset_compensated
            → ◌≡◌ {A = SignalDependentChannel}
            (record { erle = plain; erle_onset_compensated = compensated; corrections = learning; n_active_sections = active })
            (channel_after g active renders l c)
        unfolding channel_after
        after-off off e = record_is (cond-by g.onset_detection compensated _ _ (λ q. absurd (false≢true (sym off ∙ q))) (λ q. e))
