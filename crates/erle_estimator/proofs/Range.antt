-- What every channel shows lies within its limits, whatever the number of sections; the fullband figures are finite and not below their minimum.
use mathlib.Core.Path.{◌≡◌}
use mathlib.Core.Bool.{Bool, true, false, cond, ◌&&◌}
use mathlib.Core.List.{List}
use Prim.Native.Nat.{ℕ, ◌<◌}
use lib.Ieee.{Float, nan}
use lib.ListN.{get_or}
use Rattle.aec3_common.specs.declared.settings.ErleSettings.{ErleSettings}
use Rattle.aec3_common.specs.Settings.{greatest_erle}
use Rattle.aec3_common.specs.Streams.{erle_of}
use Rattle.aec3_common.proofs.Choices.{cond_has}
use Rattle.aec3_common.proofs.Fitting.{Between}
use Rattle.aec3_common.proofs.Limits.{InOrder, uncapped-in-order, number-from}
use Rattle.filter_sections.specs.Subbands.{max_erle}
use Rattle.filter_sections.proofs.Limits.{AllInOrder}
use Rattle.erle_estimator.specs.declared.ErleEstimator.{ErleEstimator}
use Rattle.erle_estimator.specs.Erle.{sectioned, erle_shown, streams_shown, streams_of}
use Rattle.fullband_erle_estimator.proofs.Figures.{not-below-minimum, are-numbers}
use Rattle.erle_estimator.specs.Parts.{fullband_settings, subband_part, signal_part, fullband_part}
use Rattle.subband_erle_estimator.specs.Subband.{channel_at as Subband·channel_at}
use Rattle.signal_dependent_erle_estimator.specs.SignalDependent.{channel_at as SignalDependent·channel_at}
use Rattle.erle_estimator.specs.Range.{uncapped_max_at, InRange, AllInRange}
use Rattle.erle_estimator.proofs.Good.{Good, subband-settings-ok}

module _ (s : ErleEstimator) (good : Good s) where
  abbrev g : ErleSettings
  g = s.settings

  limits : AllInOrder g.limits.min g.limits.max_l g.limits.max_h
  limits = (subband-settings-ok g good.held good.settings).limits

  module _ (k : ℕ) where
    pub limits-at : InOrder g.limits.min (max_erle g.limits.max_l g.limits.max_h k)
    limits-at = limits k

    pub uncapped-limits-at : InOrder g.limits.min (uncapped_max_at g k)
    uncapped-limits-at = cond_has (InOrder g.limits.min) (sectioned g) (λ many. limits k) (λ one. uncapped-in-order (limits k))

  module _ (ch k : ℕ) (h : ch < g.num_capture_channels) (l : k < 65) where
    abbrev Within : Float → List Float → Type 0
    Within max stream = Between g.limits.min max (get_or stream k nan)

    -- what `erle` answers, whether the compensated stream is asked for or not
    shown : (asked : Bool) → Within (max_erle g.limits.max_l g.limits.max_h k) (erle_shown g (Subband·channel_at (subband_part s) ch) (SignalDependent·channel_at (signal_part s) ch) asked)
    unfolding erle_shown erle_of
    shown asked =
        let subband = good.subband.channels ch h in
        let signal = good.signal.channels ch h in
        let compensated = asked && g.onset_detection in
        cond_has (Within (max_erle g.limits.max_l g.limits.max_h k)) (sectioned g)
        (λ many. cond_has (Within (max_erle g.limits.max_l g.limits.max_h k)) compensated (λ on. signal.compensated.bands k l) (λ off. signal.plain.bands k l))
        (λ one. cond_has (Within (max_erle g.limits.max_l g.limits.max_h k)) compensated (λ on. (subband.onset k l).compensated) (λ off. (subband.streams k l).plain))

    pub plain-within : Within (max_erle g.limits.max_l g.limits.max_h k) (streams_of s ch).plain
    unfolding streams_shown
    plain-within = shown false

    pub compensated-within : Within (max_erle g.limits.max_l g.limits.max_h k) (streams_of s ch).compensated
    unfolding streams_shown
    compensated-within = shown true

    pub uncapped-within : Within (uncapped_max_at g k) (streams_of s ch).unbounded
    unfolding streams_shown
    uncapped-within = either (sectioned g)
      where
        either :
            (many : Bool)
            → Within (cond many (max_erle g.limits.max_l g.limits.max_h k) greatest_erle)
            (cond many (SignalDependent·channel_at (signal_part s) ch).erle (Subband·channel_at (subband_part s) ch).erle_unbounded)
        either true = (good.signal.channels ch h).plain.bands k l
        either false = ((good.subband.channels ch h).streams k l).uncapped

    onset-is : get_or (streams_of s ch).onsets k nan ≡ g.limits.min
    unfolding streams_shown
    onset-is = (good.subband.channels ch h).onset_min k l

    in-range : InRange g (streams_of s ch) k
    in-range =
        record {
          plain = number-from plain-within;
          compensated = number-from compensated-within;
          uncapped = number-from uncapped-within;
          onset = onset-is;
        }

  pub all-in-range : AllInRange g s
  all-in-range =
      record {
        bands = in-range;
        fullband = are-numbers (fullband_settings g) (fullband_part s) good.fullband;
        fullband_minimum = not-below-minimum (fullband_settings g) (fullband_part s) good.fullband;
      }
