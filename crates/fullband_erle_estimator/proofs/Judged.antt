-- What the judging of a state tells; the claim that log2 of the minimum is asked of a positive number.
use mathlib.Core.Path.{◌≡◌, refl}
use mathlib.Core.Bool.{Bool, true, false, cond, ◌&&◌}
use Prim.Native.Nat.{ℕ, ◌≤◌, ◌<◌}
use native.Mathlib.Omega.{arith}
use borrow.Author.Tests.{eqb-true, ltb-true}
use lib.Dec.{T, eqb, ltb}
use lib.Ieee.{Float, nan, inf, fin, of_bits, le}
use lib.Ieee.Positive.{above, above_of_le}
use lib.ListN.{length, take}
use lib.Seq.{get_or-take, length-take-le}
use Rattle.std.proofs.lemmas.List.{get_or_past, length-take}
use Rattle.aec3_common.specs.Binary32.{one32}
use Rattle.std.specs.List.{list_all}
use Rattle.aec3_common.specs.Refusal.{accepted}
use Rattle.aec3_common.proofs.Calls.{limits-passed, some-channels, few-channels}
use Rattle.aec3_common.proofs.Choices.{and_left, and_right, each-of-four}
use Rattle.aec3_common.proofs.Every.{list_all-at}
use Rattle.aec3_common.proofs.Rounding.{holds, Signed, infinite, finite}
use Rattle.fullband_channel.specs.declared.instantaneous.OptionalNumber.TheVariants.{Absent}
use Rattle.fullband_channel.specs.Instantaneous.{quality_of}
use Rattle.fullband_channel.specs.Channel.{channel_ok}
use Rattle.fullband_channel.proofs.Judged.{epsilon-above}
use Rattle.fullband_erle_estimator.specs.declared.FullBandErleEstimator.{FullBandErleEstimator}
use Rattle.fullband_erle_estimator.specs.FullBand.{settings_refusal, state_ok, no_channel, channel_at}
use Rattle.fullband_erle_estimator.specs.Positive.{MinimumIsPositive}

-- ---- numbers above zero

first-of-five : (a b c d e : Bool) → a && b && c && d && e ≡ true → a ≡ true
first-of-five a b c d e t = (each-of-four a b c d (and_left (a && b && c && d) e t)).0

-- what is above zero has a plus sign
above-signed : (x : Float) → T (above x) → Signed false x
above-signed nan p = absurd p
above-signed (inf true) p = absurd p
above-signed (inf false) p = infinite
above-signed (fin true m e) p = absurd p
above-signed (fin false m e) p = finite m e

-- the claim
pub minimum-is-positive : MinimumIsPositive
unfolding MinimumIsPositive settings_refusal of_bits
minimum-is-positive s ok =
    let limits = limits-passed s.limits.min s.limits.max_l s.limits.max_h s.num_capture_channels ok in
    epsilon-above (above-signed s.limits.min (above_of_le one32 s.limits.min tt (holds (first-of-five (le one32 s.limits.min) _ _ _ _ limits))))

-- ---- a state

module _ (s : FullBandErleEstimator) (ok : state_ok s ≡ true) where
  pub settings-passed : settings_refusal s.settings ≡ accepted
  unfolding state_ok
  settings-passed = eqb-true _ _ (and_left (eqb (settings_refusal s.settings) accepted) _ ok)

  pub state-some : 1 ≤ s.settings.num_capture_channels
  unfolding settings_refusal
  state-some = let g = s.settings in some-channels g.limits.min g.limits.max_l g.limits.max_h g.num_capture_channels settings-passed

  pub state-few : s.settings.num_capture_channels ≤ 4
  unfolding settings_refusal
  state-few = let g = s.settings in few-channels g.limits.min g.limits.max_l g.limits.max_h g.num_capture_channels settings-passed

  -- each of its channels passes
  pub channel-passed :
      (ch : ℕ) → length s.channels ≡ 4 → ch < s.settings.num_capture_channels → channel_ok (channel_at s ch) ≡ true
  unfolding state_ok
  channel-passed ch long h =
      let n = s.settings.num_capture_channels in
      let records = take n s.channels in
      let all = and_right (eqb (settings_refusal s.settings) accepted) (list_all channel_ok records) ok in
      let few = state-few in
      let size = length-take-le n s.channels (omega arith) in
      let one = list_all-at channel_ok records no_channel ch all (omega arith) in
      rw (get_or-take n s.channels ch no_channel h) at one

-- a channel that the state does not have shows no quality
pub no_quality :
    (s : FullBandErleEstimator) (ch : ℕ) (to_zero to_one : Bool) → length (take s.settings.num_capture_channels s.channels) ≤ ch
    → cond (ltb ch s.settings.num_capture_channels) (quality_of to_zero to_one (channel_at s ch).instantaneous_erle) Absent ≡ Absent
unfolding quality_of
no_quality s ch to_zero to_one past = go (ltb ch s.settings.num_capture_channels) refl
  where
    go : (here : Bool) → ltb ch s.settings.num_capture_channels ≡ here
        → cond here (quality_of to_zero to_one (channel_at s ch).instantaneous_erle) Absent ≡ Absent
    go true e =
        let below : ch < s.settings.num_capture_channels = ltb-true ch s.settings.num_capture_channels e in
        let beyond : length s.channels ≤ ch = omega (arith, length-take s.settings.num_capture_channels s.channels) in
        rw (get_or_past s.channels ch no_channel beyond)
    go false e = refl
