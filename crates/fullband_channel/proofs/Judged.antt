-- What the judging of a record tells; the claim that log2 is asked of positive numbers alone.
use mathlib.Core.Path.{◌≡◌, subst}
use mathlib.Core.Bool.{true, false}
use mathlib.Core.List.{List}
use Prim.Native.Nat.{◌+◌, ◌*◌, ◌^◌, ◌≤◌}
use native.Mathlib.Nat.{add-mul, le_of_eq}
use native.Mathlib.Omega.{arith}
use borrow.Author.Tests.{ltb-true}
use lib.Dec.{ltb}
use lib.Ieee.{Float, binary32, of_bits, add, lt, fits}
use lib.ListN.{length}
use Rattle.aec3_common.specs.Binary32.{zero32, greatest_sum, within, values_ok}
use Rattle.aec3_common.specs.Spectra.{sum}
use Rattle.aec3_common.proofs.Choices.{each-of-three}
use Rattle.aec3_common.proofs.Fitting.{plus-above}
use Rattle.aec3_common.proofs.Numbers.{UpTo, Whole, no-sum, sum-within, add-to-up-to, sum-up-to, whole_multiple, ratio-plus}
use Rattle.aec3_common.proofs.Rounding.{Signed}
use Rattle.fullband_channel.specs.declared.instantaneous.ErleInstantaneous.{ErleInstantaneous}
use Rattle.fullband_channel.specs.declared.channel.FullBandChannel.{FullBandChannel}
use Rattle.fullband_channel.specs.Instantaneous.{epsilon, all_points}
use Rattle.fullband_channel.specs.Channel.{channel_ok}
use Rattle.fullband_channel.specs.Positive.{PositiveRatio, RatiosArePositive}

-- ---- numbers above zero

pub epsilon-above : {x : Float} → Signed false x → lt zero32 (add binary32 x epsilon) ≡ true
unfolding of_bits fits
epsilon-above plus = plus-above plus epsilon tt tt

-- the ratio of sums that pass
positive-ratio :
    (capture : List Float) (residual : Float) (i : ErleInstantaneous)
    → within greatest_sum i.y2_accum ≡ true → length capture ≤ 65 → values_ok capture ≡ true → PositiveRatio (sum capture) residual i
positive-ratio capture residual i held few ok some =
    let n = length capture in
    let added : UpTo ((0 + n) * 2 ^ 100) (sum capture) = sum-up-to 0 capture no-sum ok (omega arith) in
    let total = add-to-up-to (2 ^ 110) ((0 + n) * 2 ^ 100) (sum-within i.y2_accum held) added
    (subst Whole (add-mul 1024 (0 + n) (2 ^ 100)) (whole_multiple (1024 + (0 + n)) (omega arith))) in
    epsilon-above (ratio-plus total _ some)

-- ---- a record

module _ (c : FullBandChannel) (ok : channel_ok c ≡ true) where
  parts :
      let i = c.instantaneous_erle in
      (ltb i.num_points all_points ≡ true) × (within greatest_sum i.y2_accum ≡ true) × (within greatest_sum i.e2_accum ≡ true)
  unfolding channel_ok
  parts =
      let i = c.instantaneous_erle in
      each-of-three (ltb i.num_points all_points) (within greatest_sum i.y2_accum) (within greatest_sum i.e2_accum) ok

  pub few-points : c.instantaneous_erle.num_points ≤ 5
  few-points = omega (arith, ltb-true c.instantaneous_erle.num_points 6 parts.0)

  capture-within : within greatest_sum c.instantaneous_erle.y2_accum ≡ true
  capture-within = parts.1

-- ---- the claim

pub ratios-are-positive : RatiosArePositive
unfolding RatiosArePositive
ratios-are-positive c capture residual ok long values =
    positive-ratio capture residual c.instantaneous_erle (capture-within c ok) (le_of_eq long) values
