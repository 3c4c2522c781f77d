-- Log2 is asked of positive numbers alone, so that number 7 does not arise inside the estimator.
use Rattle.std.specs.Prelude.{◌≡◌, true, List, Float, length}
use Rattle.std.specs.Float.{binary32}
use Rattle.std.specs.Float.Ieee.{add, div, lt}
use Rattle.aec3_common.specs.Binary32.{zero32, values_ok}
use Rattle.aec3_common.specs.Spectra.{sum}
use Rattle.fullband_channel.specs.declared.channel.FullBandChannel.{FullBandChannel}
use Rattle.fullband_channel.specs.declared.instantaneous.ErleInstantaneous.{ErleInstantaneous}
use Rattle.fullband_channel.specs.Instantaneous.{epsilon, capture_with, residual_with}
use Rattle.fullband_channel.specs.Channel.{channel_ok}

-- wherever the residual is above 0, the ratio plus 0.001 is
abbrev pub PositiveRatio : Float → Float → ErleInstantaneous → Type 0
PositiveRatio capture residual i =
    lt zero32 (residual_with capture residual i) ≡ true
    → lt zero32 (add binary32 (div binary32 (capture_with capture residual i) (residual_with capture residual i)) epsilon) ≡ true

-- Claim: so it is for a record that number 20 lets pass and captures that numbers 5 and 6 let pass.
unfoldable pub RatiosArePositive : Type 0
RatiosArePositive =
    (c : FullBandChannel) (capture : List Float) (residual : Float)
    → channel_ok c ≡ true → length capture ≡ 65 → values_ok capture ≡ true
    → PositiveRatio (sum capture) residual c.instantaneous_erle
