-- Log2 of the minimum is asked of a positive number too.
use Rattle.std.specs.Prelude.{◌≡◌, true}
use Rattle.std.specs.Float.{binary32}
use Rattle.std.specs.Float.Ieee.{add, lt}
use Rattle.aec3_common.specs.Binary32.{zero32}
use Rattle.aec3_common.specs.Refusal.{accepted}
use Rattle.fullband_channel.specs.Instantaneous.{epsilon}
use Rattle.fullband_erle_estimator.specs.declared.settings.FullBandSettings.{FullBandSettings}
use Rattle.fullband_erle_estimator.specs.FullBand.{settings_refusal}

-- Claim: the minimum plus 0.001 is above 0 wherever the settings break neither 1 nor 2.
unfoldable pub MinimumIsPositive : Type 0
MinimumIsPositive = (s : FullBandSettings) → settings_refusal s ≡ accepted → lt zero32 (add binary32 s.limits.min epsilon) ≡ true
