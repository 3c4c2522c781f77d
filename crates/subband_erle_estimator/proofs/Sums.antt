-- What the sums of a state keep, whatever its limits and its streams are: after n of at most 6 points a sum is at most n times 2^100. So
-- number 20 lets the state pass.
use mathlib.Core.Path.{◌≡◌, refl, sym, subst}
use mathlib.Core.Bool.{Bool, true, false, cond}
use mathlib.Core.List.{List}
use Prim.Native.Nat.{ℕ, suc, ◌*◌, ◌^◌, ◌≤◌, ◌<◌}
use native.Mathlib.Nat.{le_trans, mul-le-mul_right}
use native.Mathlib.Omega.{arith}
use borrow.Author.Tests.{eqb-false, le-leb}
use lib.Dec.{eqb, lit≤}
use lib.Ieee.{Float, nan}
use lib.ListN.{length, get_or}
use Rattle.aec3_common.specs.Binary32.{greatest_value, greatest_sum, within, values_ok, sums_ok}
use Rattle.aec3_common.specs.Refusal.{accepted}
use Rattle.aec3_common.specs.Spectra.{part}
use Rattle.aec3_common.proofs.Bands.{part_length, part-list_all}
use Rattle.aec3_common.proofs.Calls.{UpdateOk}
use Rattle.aec3_common.proofs.Every.{list_all-at, list_all-by, list_all_first}
use Rattle.aec3_common.proofs.Numbers.{UpTo, Value, no-sum, up-to-within, value-within}
use Rattle.aec3_common.proofs.Tables.{length-tab}
use Rattle.erle_bands.specs.Band.{Sums, fresh_sums, added, Streams, fresh_streams, Onset, fresh_onset}
use Rattle.erle_bands.proofs.Range.{SumsUpTo, added-up-to}
use Rattle.subband_erle_estimator.specs.declared.settings.SubbandSettings.{SubbandSettings}
use Rattle.subband_erle_estimator.specs.declared.channel.SubbandChannel.{SubbandChannel}
use Rattle.subband_erle_estimator.specs.declared.SubbandErleEstimator.{SubbandErleEstimator}
use Rattle.subband_erle_estimator.specs.Channel.{sums_at, channel_from, fresh, Block, all_points, points_with, points_after, sums_after, channel_after}
use Rattle.subband_erle_estimator.specs.Subband.{settings_refusal, channel_ok, state_ok, no_channel, channel_at, block_of}
use Rattle.subband_erle_estimator.proofs.Parts.{sums-from}

-- ---- a channel

-- a count of at most 6 points stays one
points-stay-few : (converged : Bool) (n : ℕ) → n ≤ 6 → cond converged (points_with n) n ≤ 6
points-stay-few true n few = go (eqb n all_points) refl
  where
    go : (full : Bool) → eqb n 6 ≡ full → suc (cond full 0 n) ≤ 6
    go true e = lit≤ tt
    go false e = omega (arith, few, eqb-false n 6 e)
points-stay-few false n few = few

-- what a channel's sums keep
pub record ChannelSums (c : SubbandChannel) : Type 0 where
  pub few : c.num_points ≤ 6
  pub sums : (k : ℕ) → k < 65 → SumsUpTo c.num_points (sums_at c k)
  pub long_capture : length c.y2 ≡ 65
  pub long_residual : length c.e2 ≡ 65

-- a record that is put together keeps it if its sums do
sums-of :
    (n : ℕ) (sums : ℕ → Sums) (streams : ℕ → Streams) (onset : ℕ → Onset)
    → n ≤ 6 → ((k : ℕ) → k < 65 → SumsUpTo n (sums k)) → ChannelSums (channel_from n sums streams onset)
unfolding channel_from
sums-of n sums streams onset few each =
    record {
      few = few;
      sums = λ k h. subst (SumsUpTo n) (sym (sums-from n sums streams onset k h)) (each k h);
      long_capture = length-tab 65 _;
      long_residual = length-tab 65 _;
    }

pub fresh-sums : (min : Float) → ChannelSums (fresh min)
unfolding fresh
fresh-sums min = sums-of 0 (λ k. fresh_sums) (λ k. fresh_streams min) (λ k. fresh_onset min) (lit≤ tt) (λ k h. record { capture = no-sum; residual = no-sum })

-- what an update may bring a channel: captures and residuals from 0 to 2^100
pub record BlockOk (b : Block) : Type 0 where
  pub capture : (k : ℕ) → k < 65 → Value (2 ^ 100) (get_or b.capture k nan)
  pub residual : (k : ℕ) → k < 65 → Value (2 ^ 100) (get_or b.residual k nan)

module _ (g : SubbandSettings) (b : Block) (c : SubbandChannel) (ok : BlockOk b) (kept : ChannelSums c) where
  -- a band's sums after a block
  pub sums-after : (k : ℕ) → k < 65 → SumsUpTo (points_after g b c) (sums_after g b c k)
  unfolding sums_after
  sums-after k h = go b.converged
    where
      n : ℕ
      n = c.num_points

      go :
          (converged : Bool)
          → SumsUpTo (cond converged (points_with n) n)
          (cond converged (added (eqb n all_points) (get_or b.render k nan) (get_or b.capture k nan) (get_or b.residual k nan) (sums_at c k)) (sums_at c k))
      go true =
          added-up-to (eqb n all_points) (get_or b.render k nan) (λ e. omega (arith, kept.few, eqb-false n 6 e)) (ok.capture k h) (ok.residual k h)
          (kept.sums k h)
      go false = kept.sums k h

  pub after-sums : ChannelSums (channel_after g b c)
  unfolding channel_after
  after-sums = sums-of (points_after g b c) (sums_after g b c) _ _ (points-stay-few b.converged c.num_points kept.few) sums-after

-- number 20 lets the sums of up to six points pass
sums-ok : (n : ℕ) (xs : List Float) → n ≤ 6 → length xs ≡ 65 → ((k : ℕ) → k < 65 → UpTo (n * 2 ^ 100) (get_or xs k nan)) → sums_ok xs ≡ true
sums-ok n xs few long each =
    list_all-by (within greatest_sum) xs nan
    (λ k h. up-to-within (each k (omega arith)) (le_trans (mul-le-mul_right (2 ^ 100) few) (lit≤ tt)))

channel-ok : (c : SubbandChannel) → ChannelSums c → channel_ok c ≡ true
unfolding channel_ok
channel-ok c sums =
    let n = c.num_points in
    simp (
      le-leb n all_points sums.few,
      sums-ok n c.y2 sums.few sums.long_capture (λ k h. (sums.sums k h).capture),
      sums-ok n c.e2 sums.few sums.long_residual (λ k h. (sums.sums k h).residual),
    )

-- ---- a state

-- the values that an update lends one channel
values-at :
    (n : ℕ) (xs : List Float) → length xs ≡ n * 65 → values_ok xs ≡ true
    → (ch k : ℕ) → ch < n → k < 65 → Value (2 ^ 100) (get_or (part xs ch) k nan)
values-at n xs long ok ch k h l =
    value-within (get_or (part xs ch) k nan)
    (list_all-at (within greatest_value) (part xs ch) nan k (part-list_all (within greatest_value) xs ch ok) (omega (arith, part_length xs ch (omega arith))))

pub block-ok :
    {ok : Bool} {n : ℕ} {converged : List Bool} {render capture residual : List Float} → UpdateOk ok n converged render capture residual
    → (ch : ℕ) → ch < n → BlockOk (block_of converged render capture residual ch)
block-ok {n = n} {capture = capture} {residual = residual} ok ch h =
    record {
      capture = λ k l. values-at n capture ok.long_capture ok.capture_ok ch k h l;
      residual = λ k l. values-at n residual ok.long_residual ok.residual_ok ch k h l;
    }

-- settings that pass, and sums of each channel as they are kept
pub state-ok :
    (s : SubbandErleEstimator) → settings_refusal s.settings ≡ accepted
    → ((ch : ℕ) → ch < s.settings.num_capture_channels → ChannelSums (channel_at s ch)) → state_ok s ≡ true
unfolding state_ok
state-ok s passed sums =
    rw passed
    (list_all_first channel_ok s.settings.num_capture_channels s.channels no_channel
    (λ ch h. channel-ok (channel_at s ch) (sums ch h)))
