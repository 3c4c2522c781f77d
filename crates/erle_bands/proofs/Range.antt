-- The size that a band's sums keep, and the range that its streams keep.
use mathlib.Core.Path.{◌≡◌, refl, sym, subst}
use mathlib.Core.Bool.{Bool, true, false, cond, false≢true}
use Prim.Native.Nat.{ℕ, zero, suc, ◌+◌, ◌*◌, ◌^◌, ◌≤◌, ◌<◌}
use native.Mathlib.Nat.{suc-mul}
use native.Mathlib.Omega.{arith}
use borrow.Author.Tests.{leb-true, le-leb}
use lib.Dec.{T, lit<, lit≤, leb-zero}
use lib.IntN.{ℤ, pos, negsuc, -ℤ_one}
use lib.Signed.{le_z}
use lib.Ieee.{Float, binary32, of_bits, add, mul, lt, le}
use lib.Ieee.Fits.{mul-fits}
use lib.Ieee.Positive.{positive, between, le_trans_positive}
use Rattle.aec3_common.specs.Binary32.{zero32, clamped, larger, moved}
use Rattle.aec3_common.specs.Counts.{fallen}
use Rattle.aec3_common.specs.Settings.{greatest_erle}
use Rattle.aec3_common.proofs.Choices.{cond_has}
use Rattle.aec3_common.proofs.Fitting.{Between, times-at-most}
use Rattle.aec3_common.proofs.Limits.{InOrder, min-positive, max-positive, uncapped-in-order, min-between, between-positive, clamped-moved}
use Rattle.aec3_common.proofs.Numbers.{UpTo, Value, Whole, no-sum, add-up-to, whole_multiple, ratio-plus}
use Rattle.aec3_common.proofs.Rounding.{Signed}
use Rattle.erle_bands.specs.Band.{share_up, share_down, decay_factor, stream_moved, Sums, sum_with, added, has_ratio, ratio, Streams, streams_learnt, Onset, hold_learnt, onset_learnt, hold_less, decayed, compensated_beside, one_block_less}

-- ---- streams

module _ {min max : Float} (limits : InOrder min max) where
  module _ {x : Float} (b : Between min max x) where
    -- a stream that moves towards a ratio keeps its range
    pub moved-between : {new : Float} (low : Bool) → Signed false new → Between min max (stream_moved min max new low x)
    unfolding stream_moved of_bits
    moved-between {new} low plus = go (lt new x) refl low
      where
        go :
            (less : Bool) → lt new x ≡ less → (l : Bool)
            → Between min max (clamped (moved x new (cond less (cond l zero32 share_down) share_up)) min max)
        go true e true = clamped-moved limits b 0 (pos 0) plus (λ z. e)
        go true e false = clamped-moved limits b 13421773 (negsuc 26) plus (λ z. e)
        go false e l = clamped-moved limits b 13421773 (negsuc 27) plus (λ z. absurd (false≢true z))

    -- 0.97 times a number is not above it
    pub decay-at-most : T (le (mul binary32 decay_factor x) x)
    unfolding of_bits
    decay-at-most = times-at-most decay_factor x tt (lit≤ tt) (between-positive limits b) b.held

-- ---- sums

-- after n points each sum is at most n times 2^100
pub record SumsUpTo (n : ℕ) (s : Sums) : Type 0 where
  pub capture : UpTo (n * 2 ^ 100) s.capture
  pub residual : UpTo (n * 2 ^ 100) s.residual

-- a sum of n values with one value more
one_more :
    (n : ℕ) {x y : Float} → n < 6 → UpTo (n * 2 ^ 100) x → Value (2 ^ 100) y → UpTo (suc n * 2 ^ 100) (add binary32 x y)
one_more n few sum value =
    let whole : Whole (n * 2 ^ 100 + 2 ^ 100) = rw suc-mul at (whole_multiple (suc n) (omega arith)) in
    rw suc-mul (add-up-to (n * 2 ^ 100) (2 ^ 100) sum value whole)

pub added-up-to :
    {n : ℕ} {s : Sums} (anew : Bool) (render : Float) {capture residual : Float}
    → (anew ≡ false → n < 6) → Value (2 ^ 100) capture → Value (2 ^ 100) residual
    → SumsUpTo n s → SumsUpTo (suc (cond anew 0 n)) (added anew render capture residual s)
unfolding added sum_with
added-up-to true render few capture residual kept =
    record { capture = one_more 0 (lit< tt) no-sum capture; residual = one_more 0 (lit< tt) no-sum residual }
added-up-to {n} false render few capture residual kept =
    record { capture = one_more n (few refl) kept.capture capture; residual = one_more n (few refl) kept.residual residual }

-- a ratio of sums has a plus sign
pub ratio-signed : {n : ℕ} {s : Sums} → has_ratio s.residual ≡ true → SumsUpTo n s → Signed false (ratio s.capture s.residual)
ratio-signed {s = s} some kept = ratio-plus kept.capture s.residual some

-- ---- streams that only a new ratio moves

pub record StreamsKept (min max : Float) (s : Streams) : Type 0 where
  pub plain : Between min max s.plain
  pub uncapped : Between min greatest_erle s.uncapped

pub streams-learnt-kept :
    {min max new : Float} (low : Bool) {s : Streams} → InOrder min max → Signed false new
    → StreamsKept min max s → StreamsKept min max (streams_learnt min max new low s)
unfolding streams_learnt
streams-learnt-kept low limits plus kept =
    record {
      plain = moved-between limits kept.plain low plus;
      uncapped = moved-between (uncapped-in-order limits) kept.uncapped low plus;
    }

-- ---- what every block moves

-- a hold is at most n
abbrev pub AtMost : ℕ → ℤ → Type 0
AtMost n h = le_z h (pos n) ≡ true

-- compensated ERLE and onset value are in range, and the hold is at most 250
pub record OnsetKept (min max : Float) (o : Onset) : Type 0 where
  pub compensated : Between min max o.compensated
  pub onset : Between min max o.onset
  pub hold : AtMost 250 o.hold

pub onset-learnt-kept :
    {min max new : Float} (low : Bool) {o : Onset} → InOrder min max → Signed false new
    → OnsetKept min max o → OnsetKept min max (onset_learnt min max new low o)
unfolding onset_learnt hold_learnt
onset-learnt-kept low limits plus kept =
    record {
      compensated = moved-between limits kept.compensated low plus;
      onset = kept.onset;
      hold = cond_has (AtMost 250) low (λ e. kept.hold) (λ e. refl);
    }

-- a hold of at most n falls to one less at most
fallen-at-most : (h : ℤ) (n m : ℕ) → AtMost n h → n ≤ suc m → AtMost m (fallen h)
unfolding fallen
fallen-at-most (pos zero) n m e l = refl
fallen-at-most (pos (suc k)) n m e l =
    subst (AtMost m) (sym (-ℤ_one (pos (suc k)))) (le-leb k m (omega (arith, leb-true (suc k) n e)))
fallen-at-most (negsuc k) n m e l = cond_has (AtMost m) (le_z (negsuc k) (negsuc 2147483647)) (λ t. refl) (λ t. refl)

pub less-at-most : (h : ℤ) (n m : ℕ) → AtMost n h → n ≤ suc m → AtMost m (hold_less h)
unfolding hold_less
less-at-most h n m e l = cond_has (AtMost m) (le_z (fallen h) (pos 0)) (λ t. leb-zero m) (λ t. fallen-at-most h n m e l)

below-at-most : (x y : Float) → lt x y ≡ true → T (le x y)
unfolding le
below-at-most x y e = rw e tt

pub decay-positive : T (positive decay_factor)
unfolding of_bits
decay-positive = tt

module _ {min max onset x : Float} (limits : InOrder min max) (o : Between min max onset) (b : Between min max x) where
  -- 0.97 times a number is above zero if it is above the onset value
  pub decay-above : lt onset (mul binary32 decay_factor x) ≡ true → T (positive (mul binary32 decay_factor x))
  decay-above e =
      between onset (mul binary32 decay_factor x) x (between-positive limits o) (between-positive limits b)
      (below-at-most onset (mul binary32 decay_factor x) e) (decay-at-most limits b)

  -- a value that decays keeps its range
  pub decayed-between : Between min max (decayed min onset x)
  unfolding decayed larger
  decayed-between =
      cond_has (Between min max) (lt onset x)
      (λ above. cond_has (Between min max) (lt (larger onset d) min) (λ low. min-between limits) (λ high. cond_has (Between min max) (lt onset d) slower (λ e. o)))
      (λ below. b)
    where
      d : Float
      d = mul binary32 decay_factor x

      slower : lt onset d ≡ true → Between min max d
      slower e =
          let p = decay-above e in
          record {
            least = le_trans_positive min onset d (min-positive limits) (between-positive limits o) p o.least (below-at-most onset d e);
            most = le_trans_positive d x max p (between-positive limits b) (max-positive limits) (decay-at-most limits b) b.most;
            held = mul-fits binary32 decay_factor x;
          }

pub one-block-less-kept : {min max : Float} {o : Onset} → InOrder min max → OnsetKept min max o → OnsetKept min max (one_block_less min o)
unfolding one_block_less compensated_beside
one-block-less-kept {min} {max} {o} limits kept =
    record {
      compensated =
          cond_has (Between min max) (le_z (hold_less o.hold) (pos 150)) (λ e. decayed-between limits kept.onset kept.compensated) (λ e. kept.compensated);
      onset = kept.onset;
      hold = less-at-most o.hold 250 250 kept.hold (lit≤ tt);
    }
