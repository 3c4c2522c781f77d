-- One channel of the signal-dependent estimator: its streams, its active sections, and what it has learnt.
use Rattle.std.specs.Prelude.{Bool, cond, List, ℕ, Float}
use Rattle.aec3_common.specs.Lists.{tab}
use Rattle.correction_factors.specs.Factors.{subband_sums, fresh_factors, lesson_of, learnt}
use Rattle.correction_factors.specs.Streams.{corrected, last_copied}
use Rattle.correction_factors.specs.declared.CorrectionFactors.{CorrectionFactors}
use Rattle.signal_dependent_erle_estimator.specs.declared.settings.SignalDependentSettings.{SignalDependentSettings}
use Rattle.signal_dependent_erle_estimator.specs.declared.channel.ChannelBlock.{ChannelBlock}
use Rattle.signal_dependent_erle_estimator.specs.declared.channel.SignalDependentChannel.{SignalDependentChannel}

-- a start, and a reset
unfoldable pub fresh_channel : Float → SignalDependentChannel
fresh_channel min =
    record {
      erle = tab 65 (λ k. min);
      erle_onset_compensated = tab 65 (λ k. min);
      corrections = fresh_factors min;
      n_active_sections = tab 65 (λ k. 0);
    }

-- ---- updates

-- what one channel is lent in an update: whether it is converged, its capture and residual power, and the subband estimator's plain
-- and compensated streams
pub record Lent : Type 0 where
  pub converged : Bool
  pub capture : List Float
  pub residual : List Float
  pub average : List Float
  pub average_compensated : List Float

-- as it is lent
abbrev pub lent_by : ChannelBlock → Lent
lent_by own =
    record {
      converged = own.converged;
      capture = own.y2.now;
      residual = own.e2.now;
      average = own.average.now;
      average_compensated = own.average_compensated.now;
    }

-- A converged channel learns, by the active section of each band and the subband sums of render, capture and residual.
unfoldable pub learnt_if : SignalDependentSettings → List ℕ → List Float → Bool → List Float → List Float → CorrectionFactors → CorrectionFactors
learnt_if g active render_sums converged capture residual c =
    cond converged
    (learnt g.limits.min g.limits.max_l g.limits.max_h
    (lesson_of g.layout.num_sections active render_sums (subband_sums capture) (subband_sums residual))
    c)
    c

-- Every channel has new active sections and new streams, the compensated one only with onset detection on. The subband sums of the
-- render power are the same for every channel.
unfoldable pub channel_after : SignalDependentSettings → List ℕ → List Float → Lent → SignalDependentChannel → SignalDependentChannel
channel_after g active render_sums l c =
    let learning = learnt_if g active render_sums l.converged l.capture l.residual c.corrections in
    let factors = learning.correction_factors in
    record {
      erle = corrected g.limits.min g.limits.max_l g.limits.max_h factors active l.average;
      erle_onset_compensated =
          cond g.onset_detection
          (corrected g.limits.min g.limits.max_l g.limits.max_h factors active l.average_compensated)
          (last_copied c.erle_onset_compensated);
      corrections = learning;
      n_active_sections = active;
    }
