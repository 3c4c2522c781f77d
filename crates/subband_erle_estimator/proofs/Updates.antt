-- An update channel by channel.
use mathlib.Core.Path.{◌≡◌, ap}
use mathlib.Core.Bool.{Bool}
use mathlib.Core.List.{List}
use Prim.Native.Nat.{ℕ, ◌+◌, ◌≤◌, ◌<◌}
use lib.Ieee.{Float}
use lib.ListN.{set}
use Rattle.aec3_common.proofs.Calls.{UpdateOk}
use Rattle.aec3_common.proofs.Tables.{Stored, stored_more, stored-firsts}
use Rattle.subband_erle_estimator.specs.declared.channel.SubbandChannel.{SubbandChannel}
use Rattle.subband_erle_estimator.specs.declared.SubbandErleEstimator.{SubbandErleEstimator}
use Rattle.subband_erle_estimator.specs.Channel.{channel_after}
use Rattle.subband_erle_estimator.specs.Subband.{state_ok, no_channel, channel_at, block_of, updated}

-- a channel after the update
module _ (s : SubbandErleEstimator) (converged : List Bool) (x y e : List Float) where
  unfoldable pub channel_of : ℕ → SubbandChannel
  channel_of ch = channel_after s.settings (block_of converged x y e ch) (channel_at s ch)

  pub stepped-channel :
      (ch : ℕ) (c : SubbandChannel) → c ≡ channel_at s ch
      → channel_after s.settings (block_of converged x y e ch) c ≡ channel_of ch
  unfolding channel_of
  stepped-channel ch c same = ap (channel_after s.settings (block_of converged x y e ch)) same

  -- what the loop has done at ch
  pub record Updating (r : SubbandErleEstimator) (ch : ℕ) : Type 0 where
    pub ok : UpdateOk (state_ok s) s.settings.num_capture_channels converged x y e
    pub settings : r.settings ≡ s.settings
    pub stored : Stored 4 no_channel 0 s.settings.num_capture_channels channel_of s.channels r.channels ch

  pub updating-more :
      (r : SubbandErleEstimator) (ch : ℕ) (v : SubbandChannel)
      → Updating r ch → ch < s.settings.num_capture_channels → s.settings.num_capture_channels ≤ 4 → v ≡ channel_of ch
      → Updating (record { settings = r.settings; channels = set r.channels ch v }) (ch + 1)
  updating-more r ch v u h few e =
      record { ok = u.ok; settings = u.settings; stored = stored_more v u.stored h few e }

  pub updating-all : (r : SubbandErleEstimator) (ch : ℕ) → Updating r ch → s.settings.num_capture_channels ≤ ch → r ≡ updated s converged x y e
  unfolding updated channel_of
  updating-all r ch u h = λ i. record { settings = u.settings i; channels = stored-firsts u.stored h i }
