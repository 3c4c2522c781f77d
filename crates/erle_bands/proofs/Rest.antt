-- The rest that a quiet band reaches: within 500 blocks its hold runs out and its compensated ERLE is down at the onset value.
use mathlib.Core.Path.{◌≡◌, refl, sym, subst}
use mathlib.Core.Logic.{◌⊎◌, inl, inr}
use mathlib.Core.Bool.{Bool, true, false, cond, ◌&&◌}
use Prim.Native.Nat.{ℕ, zero, suc, ◌-◌, ◌≤◌, ◌<◌}
use native.Mathlib.Nat.{eq-or-lt_of_le}
use native.Mathlib.Omega.{arith}
use lib.Dec.{T, lit≤}
use lib.IntN.{ℤ, pos}
use lib.Signed.{le_z}
use lib.Ieee.{Float, binary32, of_bits, mul, lt, le}
use lib.Ieee.Fits.{and_l, and_r}
use lib.Ieee.Positive.{positive, le_trans_positive, mul_mono}
use Rattle.aec3_common.specs.Binary32.{one32, larger}
use Rattle.aec3_common.specs.Settings.{greatest_erle}
use Rattle.aec3_common.proofs.Fitting.{Between, level}
use Rattle.aec3_common.proofs.Rounding.{failed, at-most-if-not-above}
use Rattle.erle_bands.specs.Band.{decay_factor, Onset, hold_less, decayed, compensated_beside, waits_beside, one_block_less}
use Rattle.aec3_common.proofs.Limits.{InOrder, one-positive, min-positive, between-positive, between-erle}
use Rattle.erle_bands.proofs.Range.{AtMost, decay-positive, OnsetKept, less-at-most, decay-at-most, decay-above, one-block-less-kept}

-- ---- the compensated value decays

-- n times 0.97 takes b to 1 or less; each product on the way is above zero
unfoldable pub down_to_one : ℕ → Float → Bool
down_to_one zero b = positive b && le b one32
down_to_one (suc n) b = positive b && down_to_one n (mul binary32 decay_factor b)

-- 401 times suffice for 100,000
greatest-down-to-one : T (down_to_one 401 greatest_erle)
unfolding down_to_one of_bits mul le
greatest-down-to-one = tt

-- x is at most the onset value, or at most a number that n times 0.97 takes to 1 or less
pub data Near (onset : Float) (n : ℕ) (x : Float) : Type 0 where
  not_above : T (le x onset) → Near onset n x
  under : (b : Float) → T (down_to_one n b) → T (le x b) → Near onset n x

module _ {min max onset x : Float} (limits : InOrder min max) (o : Between min max onset) (b : Between min max x) where
  -- a block's decay brings x one step nearer
  decayed-near : {n : ℕ} → Near onset (suc n) x → Near onset n (decayed min onset x)
  unfolding decayed larger down_to_one
  decayed-near {n} near = go (lt onset x) refl (lt onset d) refl (lt (larger onset d) min)
    where
      d : Float
      d = mul binary32 decay_factor x

      slower : lt onset d ≡ true → Near onset (suc n) x → Near onset n d
      slower e (not_above h) =
          not_above (le_trans_positive d x onset (decay-above limits o b e) (between-positive limits b) (between-positive limits o) (decay-at-most limits b) h)
      slower e (under c f h) =
          under (mul binary32 decay_factor c) (and_r (positive c) (down_to_one n (mul binary32 decay_factor c)) f)
          (mul_mono binary32 decay_factor decay_factor x c decay-positive decay-positive (between-positive limits b)
          (and_l (positive c) (down_to_one n (mul binary32 decay_factor c)) f) (level decay_factor decay-positive) h)

      go :
          (above : Bool) → lt onset x ≡ above → (c : Bool) → lt onset d ≡ c → (low : Bool)
          → Near onset n (cond above (cond low min (cond c d onset)) x)
      go true e c f true = not_above o.least
      go true e true f false = slower f near
      go true e false f false = not_above (level onset (between-positive limits o))
      go false e c f low = not_above (at-most-if-not-above onset x (between-positive limits o) (between-positive limits b) (failed e))

  -- with no step to go x is at most the onset value
  near-end : Near onset zero x → T (le x onset)
  unfolding down_to_one
  near-end (not_above h) = h
  near-end (under c f h) =
      let p = between-positive limits b in
      let q = and_l (positive c) (le c one32) f in
      let r = min-positive limits in
      let s = between-positive limits o in
      le_trans_positive x min onset p r s
      (le_trans_positive x c min p q r h (le_trans_positive c one32 min q one-positive r (and_r (positive c) (le c one32) f) limits.from))
      o.least

-- ---- the band rests

-- With r blocks to go the hold is at most r - 250; with 401 or less the compensated value is near the onset value, and with
-- 250 or less the band waits.
pub record Resting (r : ℕ) (o : Onset) : Type 0 where
  pub hold : AtMost (r - 250) o.hold
  pub near : r ≤ 401 → Near o.onset r o.compensated
  pub waits : r ≤ 250 → o.waits ≡ true

-- a hold of at most 250 leaves 500 blocks to go
pub resting-start : {min max : Float} {o : Onset} → OnsetKept min max o → Resting 500 o
resting-start kept = record { hold = kept.hold; near = λ h. absurd (omega arith); waits = λ h. absurd (omega arith) }

-- a block without a new ratio leaves one block less
pub one-block-less-resting :
    {min max : Float} {r : ℕ} {o : Onset} → InOrder min max → OnsetKept min max o
    → Resting (suc r) o → Resting r (one_block_less min o)
unfolding one_block_less compensated_beside waits_beside
one-block-less-resting {min} {max} {r} {o} limits kept resting =
    record {
      hold = fell (r - 250) (omega arith);
      near = λ few. near (eq-or-lt_of_le few);
      waits = λ few. rw (fell 0 (omega arith));
    }
  where
    h : ℤ
    h = hold_less o.hold

    fell : (m : ℕ) → suc r - 250 ≤ suc m → AtMost m h
    fell m few = less-at-most o.hold (suc r - 250) m resting.hold few

    near : (r ≡ 401) ⊎ (r < 401) → Near o.onset r (cond (le_z h (pos 150)) (decayed min o.onset o.compensated) o.compensated)
    near (inl e) =
        under greatest_erle (subst (λ (n : ℕ). T (down_to_one n greatest_erle)) (sym e) greatest-down-to-one)
        (between-erle limits (one-block-less-kept limits kept).compensated)
    near (inr few) = rw (fell 150 (omega arith)) (decayed-near limits kept.onset kept.compensated (resting.near few))

-- with none to go the compensated value is at most the onset value, and the band waits
pub resting-end : {min max : Float} {o : Onset} → InOrder min max → OnsetKept min max o → Resting 0 o → T (le o.compensated o.onset) × (o.waits ≡ true)
resting-end limits kept resting = (near-end limits kept.onset kept.compensated (resting.near (lit≤ tt)), resting.waits (lit≤ tt))
