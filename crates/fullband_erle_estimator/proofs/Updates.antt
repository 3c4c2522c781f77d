-- An update channel by channel.
use mathlib.Core.Path.{◌≡◌, refl, sym, ap, ◌∙◌}
use mathlib.Core.Bool.{Bool, true, false, cond, not, ◌&&◌}
use mathlib.Core.List.{List}
use Prim.Native.Nat.{ℕ, ◌+◌, ◌≤◌, ◌<◌}
use borrow.Author.Tests.{not-true}
use lib.Ieee.{Float, lt}
use lib.ListN.{length, get_or, set}
use Rattle.aec3_common.specs.Binary32.{sum_threshold}
use Rattle.std.specs.List.{list_all}
use Rattle.aec3_common.specs.Spectra.{part, sum}
use Rattle.aec3_common.proofs.Calls.{UpdateOk}
use Rattle.aec3_common.proofs.Choices.{and_comm}
use Rattle.aec3_common.proofs.Every.{list_all-at}
use Rattle.aec3_common.proofs.Tables.{Stored, stored_more, stored-firsts}
use Rattle.fullband_channel.specs.declared.channel.FullBandChannel.{FullBandChannel}
use Rattle.fullband_channel.specs.Channel.{with_point, one_block_less, channel_after}
use Rattle.fullband_erle_estimator.specs.declared.FullBandErleEstimator.{FullBandErleEstimator}
use Rattle.fullband_erle_estimator.specs.FullBand.{state_ok, min_log2, no_channel, channel_at, updated}
use Rattle.fullband_erle_estimator.specs.Steps.{loud_for}

module _ (s : FullBandErleEstimator) (converged : List Bool) (x y e : List Float) where
  -- a channel after the update
  unfoldable pub channel_of : ℕ → FullBandChannel
  channel_of ch = channel_after (min_log2 s.settings) (get_or converged ch false) x (part y ch) (part e ch) (channel_at s ch)

  -- whether it accumulates, as the code asks
  abbrev pub heard : ℕ → Bool
  heard ch = loud_for converged x && get_or converged ch false

  heard-is : (ch : ℕ) → ch < length converged → heard ch ≡ get_or converged ch false && lt sum_threshold (sum x)
  unfolding loud_for
  heard-is ch h = go (list_all not converged) refl
    where
      go :
          (none : Bool) → list_all not converged ≡ none
          → cond none false (lt sum_threshold (sum x)) && get_or converged ch false ≡ get_or converged ch false && lt sum_threshold (sum x)
      go true e = let off = not-true (get_or converged ch false) (list_all-at not converged false ch e h) in rw off
      go false e = and_comm (lt sum_threshold (sum x)) (get_or converged ch false)

  -- what the code makes of a channel is what the update asks for
  pub after-is :
      (ch : ℕ) (c : FullBandChannel) → ch < length converged
      → cond (heard ch) (one_block_less (with_point (min_log2 s.settings) (sum (part y ch)) (sum (part e ch)) c)) (one_block_less c)
      ≡ channel_after (min_log2 s.settings) (get_or converged ch false) x (part y ch) (part e ch) c
  unfolding channel_after
  after-is ch c h = go (heard ch) (heard-is ch h)
    where
      go :
          (on : Bool) → on ≡ get_or converged ch false && lt sum_threshold (sum x)
          → cond on (one_block_less (with_point (min_log2 s.settings) (sum (part y ch)) (sum (part e ch)) c)) (one_block_less c)
          ≡ one_block_less (cond (get_or converged ch false && lt sum_threshold (sum x)) (with_point (min_log2 s.settings) (sum (part y ch)) (sum (part e ch)) c) c)
      go true on = rw (sym on)
      go false off = rw (sym off)

  -- and so of the state's own
  pub own-after :
      (ch : ℕ) (c : FullBandChannel) → ch < length converged → c ≡ channel_at s ch
      → cond (heard ch) (one_block_less (with_point (min_log2 s.settings) (sum (part y ch)) (sum (part e ch)) c)) (one_block_less c)
      ≡ channel_of ch
  unfolding channel_of
  own-after ch c h same =
      after-is ch c h ∙ ap (channel_after (min_log2 s.settings) (get_or converged ch false) x (part y ch) (part e ch)) same

  -- what the loop has done at ch
  pub record Updating (r : FullBandErleEstimator) (ch : ℕ) : Type 0 where
    pub ok : UpdateOk (state_ok s) s.settings.num_capture_channels converged x y e
    pub settings : r.settings ≡ s.settings
    pub stored : Stored 4 no_channel 0 s.settings.num_capture_channels channel_of s.channels r.channels ch

  pub updating-more :
      (r : FullBandErleEstimator) (ch : ℕ) (v : FullBandChannel)
      → Updating r ch → ch < s.settings.num_capture_channels → s.settings.num_capture_channels ≤ 4 → v ≡ channel_of ch
      → Updating (record { settings = r.settings; channels = set r.channels ch v }) (ch + 1)
  updating-more r ch v u h few e =
      record { ok = u.ok; settings = u.settings; stored = stored_more v u.stored h few e }

  pub updating-all :
      (r : FullBandErleEstimator) (ch : ℕ) → Updating r ch → s.settings.num_capture_channels ≤ ch → r ≡ updated s converged x y e
  unfolding updated channel_of
  updating-all r ch u h = λ i. record { settings = u.settings i; channels = stored-firsts u.stored h i }
