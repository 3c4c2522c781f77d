-- A minimum and a maximum, what lies between them, and what a clamped move keeps.
use Rattle.std.proofs.Common.{◌≡◌, ℕ, true, false, T, eqb, ℤ}
use lib.Ieee.{Float, nan, inf, fin, binary32, of_bits, mul, sub, lt, le, fits}
use lib.Ieee.Bits.{is_true}
use lib.Ieee.Fits.{add-fits}
use lib.Ieee.Positive.{positive, above, above_of_le, between, le_trans_positive}
use Rattle.aec3_common.specs.Binary32.{zero32, one32, greatest_value, clamped, moved, number_from, within}
use Rattle.aec3_common.specs.Settings.{greatest_erle, limits_ok}
use Rattle.aec3_common.proofs.Choices.{and_left, and_right, each-of-four}
use Rattle.aec3_common.proofs.Fitting.{Between, level, clamped-between, above_zero}
use Rattle.aec3_common.proofs.Floats.{not-below-if-above}
use Rattle.aec3_common.proofs.Numbers.{number, moved-number}
use Rattle.aec3_common.proofs.Rounding.{Signed, holds}

-- ---- a minimum and a maximum

-- 1 ≤ min ≤ max ≤ 100,000, and binary32 holds both
pub record InOrder (min max : Float) : Type 0 where
  pub from : T (le one32 min)
  pub order : T (le min max)
  pub to : T (le max greatest_erle)
  pub min_held : T (fits binary32 min)
  pub max_held : T (fits binary32 max)

-- three limits are values of binary32, each in its one form, as every f32 of the code is; without it a number could stand in two
-- forms that are level and not the same
pub record InBinary32 (min max_l max_h : Float) : Type 0 where
  pub min_held : T (fits binary32 min)
  pub max_l_held : T (fits binary32 max_l)
  pub max_h_held : T (fits binary32 max_h)

-- limits that number 1 lets pass are in order
pub limits-in-order :
    (min max_l max_h : Float) → InBinary32 min max_l max_h → limits_ok min max_l max_h ≡ true → InOrder min max_l × InOrder min max_h
limits-in-order min max_l max_h in_binary32 ok =
    let capped = le max_h greatest_erle in
    let (one, min_l, min_h, top_l) = each-of-four (le one32 min) (le min max_l) (le min max_h) (le max_l greatest_erle) (and_left _ capped ok) in (
      record { from = holds one; order = holds min_l; to = holds top_l; min_held = in_binary32.min_held; max_held = in_binary32.max_l_held },
      record {
        from = holds one;
        order = holds min_h;
        to = holds (and_right _ capped ok);
        min_held = in_binary32.min_held;
        max_held = in_binary32.max_h_held;
      },
    )

-- a number above zero that is at most one of at most 100,000 is finite
at-most-finite : (a b : Float) → T (above a) → T (le a b) → T (le b greatest_erle) → T (positive a)
unfolding le of_bits
at-most-finite nan b p h k = p
at-most-finite (inf true) b p h k = p
at-most-finite (inf false) nan p h k = h
at-most-finite (inf false) (inf true) p h k = h
at-most-finite (inf false) (inf false) p h k = k
at-most-finite (inf false) (fin t n d) p h k = h
at-most-finite (fin true m e) b p h k = p
at-most-finite (fin false m e) b p h k = p

pub one-positive : T (positive one32)
unfolding of_bits
one-positive = tt

most-positive : T (positive greatest_erle)
unfolding of_bits
most-positive = tt

module _ {min max : Float} (limits : InOrder min max) where
  pub min-positive : T (positive min)
  min-positive = at-most-finite min max (above_of_le one32 min one-positive limits.from) limits.order limits.to

  pub max-positive : T (positive max)
  max-positive = between min max greatest_erle min-positive most-positive limits.order limits.to

  pub max-value : T (le max greatest_value)
  unfolding of_bits le
  max-value = le_trans_positive max greatest_erle greatest_value max-positive tt tt limits.to tt

  -- with 100,000 for the maximum they are in order too
  pub uncapped-in-order : InOrder min greatest_erle
  unfolding of_bits le fits
  uncapped-in-order =
      record {
        from = limits.from;
        order = le_trans_positive min max greatest_erle min-positive max-positive tt limits.order limits.to;
        to = tt;
        min_held = limits.min_held;
        max_held = tt;
      }

  pub min-between : Between min max min
  min-between = record { least = level min min-positive; most = limits.order; held = limits.min_held }

  -- what is a number is clamped to them
  pub clamped-within : (x : Float) → T (number x) → T (fits binary32 x) → Between min max (clamped x min max)
  clamped-within x some held = clamped-between min max x min-positive max-positive limits.order limits.min_held limits.max_held some held

  module _ {x : Float} (b : Between min max x) where
    pub between-positive : T (positive x)
    between-positive = between min x max min-positive max-positive b.least b.most

    pub between-erle : T (le x greatest_erle)
    between-erle = le_trans_positive x max greatest_erle between-positive max-positive most-positive b.most limits.to

    -- it is a number from 1 to 100,000
    pub between-most : number_from one32 greatest_erle x ≡ true
    between-most =
        simp (
          is_true (le one32 x) (le_trans_positive one32 min x one-positive min-positive between-positive limits.from b.least),
          is_true (le x greatest_erle) between-erle,
        )

    -- number 6 lets it pass
    pub between-value : within greatest_value x ≡ true
    unfolding of_bits le
    between-value =
        simp (
          not-below-if-above zero32 x (above_zero x (above_of_le min x min-positive b.least)),
          is_true (le x greatest_value) (le_trans_positive x greatest_erle greatest_value between-positive most-positive tt between-erle tt),
        )

    -- a number between them that moves by a share of the difference to a number with a plus sign, and is clamped, stays between them;
    -- the share may be zero only towards a smaller one
    pub clamped-moved :
        (k : ℕ) (g : ℤ) {new : Float} → Signed false new → (eqb k 0 ≡ true → lt new x ≡ true)
        → Between min max (clamped (moved x new (fin false k g)) min max)
    unfolding moved
    clamped-moved k g {new} plus less =
        clamped-within _ (moved-number k g x between-positive between-erle plus less) (add-fits binary32 x (mul binary32 (fin false k g) (sub binary32 new x)))

-- ---- what lies between two passes the test of a number between them

pub number-from : {lo hi x : Float} → Between lo hi x → number_from lo hi x ≡ true
number-from {lo} {hi} {x} b = simp (is_true (le lo x) b.least, is_true (le x hi) b.most)
