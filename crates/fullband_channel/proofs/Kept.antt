-- What one channel keeps from block to block: after n of at most 5 points a sum is at most n times 65 times 2^100; extremes, quality
-- estimate and figure are numbers of bounded size; and the figure is not below the minimum.
use mathlib.Core.Path.{◌≡◌, subst}
use mathlib.Core.Bool.{Bool, true, ◌&&◌}
use mathlib.Core.List.{List}
use Prim.Native.Nat.{ℕ, suc, ◌+◌, ◌*◌, ◌^◌, ◌≤◌}
use native.Mathlib.Nat.{le_trans, mul-le-mul_right, suc-mul, add-mul}
use native.Mathlib.Omega.{arith}
use borrow.Author.Tests.{eqb-false, lt-ltb}
use lib.Dec.{T, eqb, lit≤}
use lib.Ieee.{Float, binary32, add, lt, le}
use Rattle.aec3_common.specs.Binary32.{sum_threshold, greatest_sum, within, moved}
use Rattle.aec3_common.specs.Counts.{fallen, is_zero}
use Rattle.aec3_common.specs.Spectra.{sum}
use Rattle.aec3_common.proofs.Choices.{cond_has}
use Rattle.aec3_common.proofs.Floats.{not-below-itself, larger-not-below}
use Rattle.aec3_common.proofs.Numbers.{number, UpTo, Whole, plain, no-sum, add-up-to, whole_multiple, up-to-within}
use Rattle.fullband_channel.specs.declared.instantaneous.OptionalNumber.{OptionalNumber}
use Rattle.fullband_channel.specs.declared.instantaneous.OptionalNumber.TheVariants.{Absent, Number}
use Rattle.fullband_channel.specs.declared.instantaneous.ErleInstantaneous.{ErleInstantaneous}
use Rattle.fullband_channel.specs.declared.channel.FullBandChannel.{FullBandChannel}
use Rattle.fullband_channel.specs.Instantaneous.{new_log2, holding, accumulated, learnt, cleared, accumulators_reset, fresh}
use Rattle.fullband_channel.specs.Channel.{figure_share, channel_ok, fresh_channel, with_new, with_point, one_block_less, channel_after}
use Rattle.fullband_channel.proofs.Bounded.{FigureSized, Bounded, NewSized, figure-sized, accumulated-bounded, learnt-bounded, reset-bounded, fresh-bounded, new-sized}

-- ---- sums

-- a sum of n points, each of 65 values up to 2^100
abbrev pub SumOf : ℕ → Float → Type 0
SumOf points x = UpTo (points * 65 * 2 ^ 100) x

point-more : (n : ℕ) {x y : Float} → n ≤ 5 → SumOf n x → SumOf 1 y → SumOf (suc n) (add binary32 x y)
point-more n {x} {y} few u v =
    let same : suc n * 65 * 2 ^ 100 ≡ n * 65 * 2 ^ 100 + 65 * 2 ^ 100 = rw suc-mul (add-mul (n * 65) 65 (2 ^ 100)) in
    rw same (add-up-to (n * 65 * 2 ^ 100) (65 * 2 ^ 100) u (plain v) (subst Whole same (whole_multiple (suc n * 65) (omega arith))))

-- the sums of up to five points pass
points-within : (n : ℕ) {x : Float} → n ≤ 5 → SumOf n x → within greatest_sum x ≡ true
points-within n few u =
    let most : n * 65 ≤ 325 = omega arith in
    up-to-within u (le_trans (mul-le-mul_right (2 ^ 100) most) (lit≤ tt))

-- what is kept of a channel's sums and their points
record SumsKept (i : ErleInstantaneous) : Type 0 where
  few : i.num_points ≤ 5
  capture : SumOf i.num_points i.y2_accum
  residual : SumOf i.num_points i.e2_accum

cleared-kept : (greatest least : Float) → SumsKept (cleared greatest least)
unfolding cleared
cleared-kept greatest least = record { few = lit≤ tt; capture = no-sum; residual = no-sum }

fresh-sums : SumsKept fresh
unfolding fresh
fresh-sums = cleared-kept _ _

accumulated-kept :
    (capture residual : Float) (i : ErleInstantaneous) → SumOf 1 capture → SumOf 1 residual → SumsKept i → SumsKept (accumulated capture residual i)
unfolding accumulated holding
accumulated-kept capture residual i c r kept =
    let n = i.num_points in
    cond_has SumsKept (eqb (suc n) 6)
    (λ last. record { few = lit≤ tt; capture = no-sum; residual = no-sum })
    (λ more. record {
      few = omega (arith, kept.few, eqb-false (suc n) 6 more);
      capture = point-more n kept.few kept.capture c;
      residual = point-more n kept.few kept.residual r;
    })

learnt-kept : (value : Float) (i : ErleInstantaneous) → SumsKept i → SumsKept (learnt value i)
unfolding learnt
learnt-kept value i kept = record { few = kept.few; capture = kept.capture; residual = kept.residual }

-- ---- a channel

-- What a channel keeps: its sums, bounded extremes, quality estimate and figure, and a figure that is not below the minimum.
pub record ChannelKept (min : Float) (c : FullBandChannel) : Type 0 where
  sums : SumsKept c.instantaneous_erle
  pub bounded : Bounded c.instantaneous_erle
  pub sized : FigureSized c.erle_time_domain_log2
  pub figure : le min c.erle_time_domain_log2 ≡ true

module _ (min : Float) (some : T (number min)) (sized : FigureSized min) where
  pub fresh_kept : ChannelKept min (fresh_channel min)
  unfolding fresh_channel
  fresh_kept = record { sums = fresh-sums; bounded = fresh-bounded; sized = sized; figure = not-below-itself min some }

  new-kept : (new : OptionalNumber) (c : FullBandChannel) → NewSized new → ChannelKept min c → ChannelKept min (with_new min new c)
  new-kept Absent c new kept = kept
  new-kept (Number value) c new kept =
      record {
        sums = learnt-kept value c.instantaneous_erle kept.sums;
        bounded = learnt-bounded c.instantaneous_erle new kept.bounded;
        sized = figure-sized sized kept.sized new;
        figure = larger-not-below min (moved c.erle_time_domain_log2 value figure_share) some;
      }

  point-kept :
      (capture residual : Float) (c : FullBandChannel) → SumOf 1 capture → SumOf 1 residual → ChannelKept min c
      → ChannelKept min (with_point min capture residual c)
  unfolding with_point
  point-kept capture residual c p q kept =
      let i = c.instantaneous_erle in
      new-kept (new_log2 capture residual i) _ (new-sized capture residual i)
      (record {
        sums = accumulated-kept capture residual i p q kept.sums;
        bounded = accumulated-bounded capture residual i kept.bounded;
        sized = kept.sized;
        figure = kept.figure;
      })

  less-kept : (c : FullBandChannel) → ChannelKept min c → ChannelKept min (one_block_less c)
  unfolding one_block_less accumulators_reset
  less-kept c kept =
      let none = is_zero (fallen c.hold_counter_time_domain) in
      record {
        sums = cond_has SumsKept none (λ e. cleared-kept _ _) (λ e. kept.sums);
        bounded = cond_has Bounded none (λ e. reset-bounded c.instantaneous_erle kept.bounded) (λ e. kept.bounded);
        sized = kept.sized;
        figure = kept.figure;
      }

  pub after_kept :
      (converged : Bool) (render capture residual : List Float) (c : FullBandChannel)
      → SumOf 1 (sum capture) → SumOf 1 (sum residual) → ChannelKept min c
      → ChannelKept min (channel_after min converged render capture residual c)
  unfolding channel_after
  after_kept converged render capture residual c p q kept =
      less-kept _
      (cond_has (ChannelKept min) (converged && lt sum_threshold (sum render))
      (λ e. point-kept (sum capture) (sum residual) c p q kept)
      (λ e. kept))

-- ---- never refused under 20

pub channel-ok : {min : Float} (c : FullBandChannel) → ChannelKept min c → channel_ok c ≡ true
unfolding channel_ok
channel-ok c kept =
    let i = c.instantaneous_erle in
    let n = i.num_points in
    let sums = kept.sums in
    simp (
      lt-ltb n 6 (omega (arith, sums.few)),
      points-within n sums.few sums.capture,
      points-within n sums.few sums.residual,
    )
