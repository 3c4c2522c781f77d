-- What the judging of a state tells.
use mathlib.Core.Path.{◌≡◌}
use mathlib.Core.Bool.{true}
use Prim.Native.Nat.{ℕ, ◌≤◌, ◌<◌}
use native.Mathlib.Omega.{arith}
use borrow.Author.Tests.{eqb-true, leb-true}
use lib.Dec.{leb, eqb}
use lib.ListN.{length, get_or, take}
use lib.Seq.{get_or-take, length-take-le}
use Rattle.aec3_common.specs.Binary32.{sums_ok}
use Rattle.std.specs.List.{list_all}
use Rattle.aec3_common.specs.Refusal.{accepted}
use Rattle.aec3_common.proofs.Calls.{few-channels}
use Rattle.aec3_common.proofs.Choices.{and_left, and_right, each-of-three}
use Rattle.aec3_common.proofs.Every.{list_all-at}
use Rattle.subband_erle_estimator.specs.declared.settings.SubbandSettings.{SubbandSettings}
use Rattle.subband_erle_estimator.specs.declared.SubbandErleEstimator.{SubbandErleEstimator}
use Rattle.subband_erle_estimator.specs.Channel.{all_points}
use Rattle.subband_erle_estimator.specs.Subband.{settings_refusal, channel_ok, state_ok, no_channel, channel_at}

-- settings that pass have at most four channels
pub settings-few : (s : SubbandSettings) → eqb (settings_refusal s) accepted ≡ true → s.num_capture_channels ≤ 4
unfolding settings_refusal
settings-few s ok = few-channels s.limits.min s.limits.max_l s.limits.max_h s.num_capture_channels (eqb-true _ _ ok)

-- a state that passes has at most four channels
pub state-few : (s : SubbandErleEstimator) → state_ok s ≡ true → s.settings.num_capture_channels ≤ 4
unfolding state_ok
state-few s ok =
    settings-few s.settings
    (and_left (eqb (settings_refusal s.settings) accepted) (list_all channel_ok (take s.settings.num_capture_channels s.channels)) ok)

-- a record of a state that passes holds at most six points
pub points-few :
    (s : SubbandErleEstimator) (ch : ℕ) → state_ok s ≡ true → length s.channels ≡ 4 → ch < s.settings.num_capture_channels
    → (channel_at s ch).num_points ≤ 6
unfolding state_ok channel_ok
points-few s ch ok long h =
    let n = s.settings.num_capture_channels in
    let records = take n s.channels in
    let all = and_right (eqb (settings_refusal s.settings) accepted) (list_all channel_ok records) ok in
    let few = state-few s ok in
    let size = length-take-le n s.channels (omega arith) in
    let one = list_all-at channel_ok records no_channel ch all (omega arith) in
    let c = get_or records ch no_channel in
    let points = leb-true c.num_points all_points (each-of-three (leb c.num_points all_points) (sums_ok c.y2) (sums_ok c.e2) one).0 in
    rw (get_or-take n s.channels ch no_channel h) at points
