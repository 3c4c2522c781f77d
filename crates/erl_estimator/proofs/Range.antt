-- Every figure keeps its range. What moves an ERL down lands below zero, and so at 0.01, or at no more than it was; what
-- doubles it stops at 1,000. Neither turns on what the spectra hold.
use mathlib.Core.Path.{◌≡◌, refl, sym, ap, ◌∙◌, subst}
use mathlib.Core.Bool.{Bool, true, false, not, cond, ◌||◌, false≢true}
use mathlib.Core.List.{List}
use Prim.Native.Nat.{ℕ, ◌+◌, ◌-◌, ◌*◌, ◌≤◌, ◌<◌}
use native.Mathlib.Nat.{mul-pos, le_trans, sub-le, mul-one, mul_assoc, mul-le-mul_right, le_of_eq}
use lib.Dec.{T, T_not, ltb, eqb, lit<}
use lib.IntN.{ℤ, pos, negsuc}
use lib.Signed.{le_z}
use lib.Ieee.{Float, nan, inf, fin, binary32, of_bits, up, down, round, add, sub, mul, div, neg, lt, le, is_nan}
use lib.Ieee.{sum as Ieee·sum}
use lib.ListN.{length, get_or}
use lib.Ieee.Bits.{is_true}
use lib.Ieee.Fits.{down_pos}
use lib.Ieee.Order.{round_mono}
use lib.Ieee.Positive.{positive, le→cross, between, le_trans_positive, mul_mono}
use Rattle.aec3_common.specs.Binary32.{energy_threshold, larger, smaller, moved, sum_threshold}
use Rattle.aec3_common.specs.Counts.{one_more, fallen}
use Rattle.aec3_common.specs.Lists.{tab}
use Rattle.aec3_common.specs.Refusal.{accepted}
use Rattle.aec3_common.specs.Spectra.{shown_band, flagged, sum}
use Rattle.aec3_common.proofs.Bands.{shown-below}
use Rattle.aec3_common.proofs.Calls.{run-keeps}
use Rattle.aec3_common.proofs.Choices.{and_left, and_right, cond_has}
use Rattle.aec3_common.proofs.Rounding.{failed, holds, signed-number, Minus, infinite, finite, round-minus, minus-below, round_number, at-least-if-not-below, at-most-if-not-above}
use Rattle.aec3_common.proofs.Tables.{get_or-tab}
use Rattle.erl_bands.specs.declared.figure.Figure.{Figure}
use Rattle.erl_bands.specs.Figure.{min_erl, max_erl, share, two32, learns, learnt_erl, learnt, doubled, rested, after_block}
use Rattle.erl_estimator.specs.declared.ErlEstimator.{ErlEstimator}
use Rattle.erl_estimator.specs.Erl.{band_after, reduced, started, with_count, counted, after_reset, learnt_from, updated, update_refusal, update_answer}
use Rattle.erl_estimator.specs.Range.{Call, update, reset, after, run, in_range, AllInRange, FiguresInRange}

-- ---- a figure in range

in-range : (x : Float) → T (le min_erl x) → T (le x max_erl) → in_range x ≡ true
in-range x p q = simp (is_true (le min_erl x) p, is_true (le x max_erl) q)

module _ (x : Float) (ok : in_range x ≡ true) where
  least : T (le min_erl x)
  least = holds (and_left (le min_erl x) (le x max_erl) ok)

  most : T (le x max_erl)
  most = holds (and_right (le min_erl x) (le x max_erl) ok)

  above_zero : T (positive x)
  unfolding of_bits
  above_zero = between min_erl x max_erl tt tt least most

least-positive : T (positive min_erl)
unfolding of_bits
least-positive = tt

most-positive : T (positive max_erl)
unfolding of_bits
most-positive = tt

most-in-range : in_range max_erl ≡ true
unfolding of_bits le
most-in-range = refl

two-positive : T (positive two32)
unfolding of_bits
two-positive = tt

two-level : T (le two32 two32)
unfolding of_bits le
two-level = tt

twice-least-positive : T (positive (mul binary32 two32 min_erl))
unfolding of_bits mul
twice-least-positive = tt

twice-most-positive : T (positive (mul binary32 two32 max_erl))
unfolding of_bits mul
twice-most-positive = tt

twice-least : T (le min_erl (mul binary32 two32 min_erl))
unfolding of_bits mul le
twice-least = tt

-- 1,000, as a whole number rounded
thousand : (y : Float) → T (le y (round binary32 false 1000 1)) → T (le y max_erl)
unfolding of_bits round
thousand y t = t

-- ---- moving down

-- what a share of a number with a minus sign is
times-minus : (k : ℕ) (g : ℤ) (m : ℕ) (e : ℤ) → Minus (mul binary32 (fin false k g) (fin true m e))
unfolding mul
times-minus k g m e = round-minus binary32 (k * up g * (m * up e)) (down g * down e)

share-minus : {y : Float} → Minus y → Minus (mul binary32 share y)
unfolding mul of_bits
share-minus infinite = infinite
share-minus (finite m e) = times-minus 13421773 (negsuc 26) m e

-- the difference to a smaller number
less-minus : (m : ℕ) (e : ℤ) (new : Float) → lt new (fin false m e) ≡ true → Minus (sub binary32 new (fin false m e))
unfolding sub add neg Ieee·sum lt
less-minus m e nan h = absurd (false≢true h)
less-minus m e (inf true) h = infinite
less-minus m e (inf false) h = absurd (false≢true h)
less-minus m e (fin true n d) h = round-minus binary32 (n * up d * down e + m * up e * down d) (down d * down e)
less-minus m e (fin false n d) h = rw h (round-minus binary32 (m * up e * down d - n * up d * down e) (down d * down e))

-- a number below zero, or a fraction of at most 1,000 rounded
data Lands : Float → Type 0 where
  below : {y : Float} → Minus y → Lands y
  within : (w c : ℕ) → 0 < c → w ≤ 1000 * c → Lands (round binary32 false w c)

-- a number of at most 1,000, and a number with a minus sign added to it
added : (m : ℕ) (e : ℤ) {y : Float} → m * up e ≤ 1000 * down e → Minus y → Lands (add binary32 (fin false m e) y)
unfolding add Ieee·sum
added m e few infinite = below infinite
added m e few (finite n d) = either (ltb (m * up e * down d) (n * up d * down e))
  where
    size : m * up e * down d - n * up d * down e ≤ 1000 * (down e * down d)
    size =
        le_trans (sub-le (m * up e * down d) (n * up d * down e))
        (le_trans (mul-le-mul_right (down d) few) (le_of_eq (mul_assoc 1000 (down e) (down d))))

    either :
        (t : Bool)
        → Lands (cond t (round binary32 true (n * up d * down e - m * up e * down d) (down e * down d)) (round binary32 false (m * up e * down d - n * up d * down e) (down e * down d)))
    either true = below (round-minus binary32 (n * up d * down e - m * up e * down d) (down e * down d))
    either false = within (m * up e * down d - n * up d * down e) (down e * down d) (mul-pos (down_pos e) (down_pos d)) size

-- where an ERL lands that moves towards a smaller number
landed : (x new : Float) → T (positive x) → T (le x max_erl) → lt new x ≡ true → Lands (moved x new share)
unfolding moved of_bits
landed nan new p q h = absurd p
landed (inf s) new p q h = absurd p
landed (fin true m e) new p q h = absurd p
landed (fin false m e) new p q h =
    let few : m * up e ≤ 1000 * down e = subst (λ (n : ℕ). n ≤ 1000 * down e) (mul-one (m * up e)) (le→cross (fin false m e) max_erl p tt q) in
    added m e few (share-minus (less-minus m e new h))

-- the lower end is in range
raised-either :
    (y : Float) (t : Bool) → lt y min_erl ≡ t
    → T (not (is_nan y)) → (t ≡ false → T (le y max_erl)) → in_range (cond t min_erl y) ≡ true
unfolding of_bits le
raised-either y true e n few = refl
raised-either y false e n few = in-range y (at-least-if-not-below min_erl y tt n (failed e)) (few refl)

-- and it is raised to 0.01 from below
raised-in-range : {y : Float} → Lands y → in_range (larger y min_erl) ≡ true
unfolding larger
raised-in-range {y = y} (below s) =
    raised-either y (lt y min_erl) refl (signed-number s)
    (λ e. absurd (T_not (lt y min_erl) (failed e) (minus-below s min_erl least-positive)))
raised-in-range (within w c some few) =
    raised-either (round binary32 false w c) (lt (round binary32 false w c) min_erl) refl (round_number binary32 false w c)
    (λ e. thousand (round binary32 false w c) (round_mono binary32 w c 1000 1 some (lit< tt) (subst (λ (n : ℕ). n ≤ 1000 * c) (sym (mul-one w)) few)))

-- ---- doubling

doubled-either :
    (y : Float) (t : Bool) → lt max_erl y ≡ t
    → T (le min_erl y) → T (positive y) → in_range (cond t max_erl y) ≡ true
unfolding of_bits le
doubled-either y true e few p = refl
doubled-either y false e few p = in-range y few (at-most-if-not-above max_erl y tt p (failed e))

-- twice an ERL in range, at most 1,000
twice-in-range : (x : Float) → in_range x ≡ true → in_range (smaller (mul binary32 two32 x) max_erl) ≡ true
unfolding smaller
twice-in-range x ok =
    let p = above_zero x ok in
    let y = mul binary32 two32 x in
    let lower = mul_mono binary32 two32 two32 min_erl x two-positive two-positive least-positive p two-level (least x ok) in
    let upper = mul_mono binary32 two32 two32 x max_erl two-positive two-positive p most-positive two-level (most x ok) in
    let q : T (positive y) = between (mul binary32 two32 min_erl) y (mul binary32 two32 max_erl) twice-least-positive twice-most-positive lower upper in
    doubled-either y (lt max_erl y) refl
    (le_trans_positive min_erl (mul binary32 two32 min_erl) y least-positive twice-least-positive q twice-least lower) q

-- ---- one figure

learnt-in-range : (threshold render capture : Float) (f : Figure) → in_range f.erl ≡ true → in_range (learnt threshold render capture f).erl ≡ true
unfolding learnt learnt_erl
learnt-in-range threshold render capture f ok = go (learns threshold render capture f.erl) refl
  where
    go :
        (t : Bool) → learns threshold render capture f.erl ≡ t
        → in_range (cond t (larger (moved f.erl (div binary32 capture render) share) min_erl) f.erl) ≡ true
    go true e =
        raised-in-range
        (landed f.erl (div binary32 capture render) (above_zero f.erl ok) (most f.erl ok)
        (and_right (lt threshold render) (lt (div binary32 capture render) f.erl) e))
    go false e = ok

doubled-in-range : (hold : ℤ) (x : Float) → in_range x ≡ true → in_range (doubled hold x) ≡ true
unfolding doubled
doubled-in-range hold x ok = go (le_z hold (pos 0))
  where
    go : (t : Bool) → in_range (cond t (smaller (mul binary32 two32 x) max_erl) x) ≡ true
    go true = twice-in-range x ok
    go false = ok

after-in-range : (threshold render capture : Float) (f : Figure) → in_range f.erl ≡ true → in_range (after_block threshold render capture f).erl ≡ true
unfolding after_block rested
after-in-range threshold render capture f ok =
    doubled-in-range (fallen (learnt threshold render capture f).hold) (learnt threshold render capture f).erl
    (learnt-in-range threshold render capture f ok)

-- ---- the whole estimator

started-kept : (startup : ℕ) → AllInRange (started startup)
unfolding started
started-kept startup =
    record {
      bands = λ k h. ap in_range (get_or-tab 65 (λ j. max_erl) k nan h) ∙ most-in-range;
      time = most-in-range;
    }

count_kept : (s : ErlEstimator) (n : ℕ) → AllInRange s → AllInRange (with_count s n)
count_kept s n k = record { bands = k.bands; time = k.time }

learnt-kept : (s : ErlEstimator) (render capture : List Float) → AllInRange s → AllInRange (learnt_from s render capture)
unfolding learnt_from band_after
learnt-kept s render capture kept =
    record {
      bands = λ k h.
          ap in_range (get_or-tab 65 (λ j. (band_after render capture s.erl s.hold_counters (shown_band j)).erl) k nan h)
          ∙ after-in-range energy_threshold (get_or render (shown_band k) nan) (get_or capture (shown_band k) nan)
          (record { erl = get_or s.erl (shown_band k) nan; hold = get_or s.hold_counters (shown_band k - 1) (pos 0) })
          (kept.bands (shown_band k) (shown-below k h));
      time =
          after-in-range sum_threshold (sum render) (sum capture)
          (record { erl = s.erl_time_domain; hold = s.hold_counter_time_domain }) kept.time;
    }

updated-kept :
    (s : ErlEstimator) (renders : ℕ) (converged : List Bool) (render capture : List Float)
    → AllInRange s → AllInRange (updated s renders converged render capture)
unfolding updated
updated-kept s renders converged render capture kept =
    let same = count_kept s (one_more s.blocks_since_reset) kept in
    cond_has AllInRange (eqb (length (flagged 0 converged)) 0 || ltb (counted s).blocks_since_reset s.startup_phase_length_blocks)
    (λ e. same)
    (λ e. learnt-kept (counted s) (reduced render (tab renders (λ ch. ch))) (reduced capture (flagged 0 converged)) same)

after_kept : (s : ErlEstimator) (c : Call) → AllInRange s → AllInRange (after s c)
unfolding after after_reset update_answer
after_kept s (update captures renders converged render capture) kept =
    cond_has AllInRange (eqb (update_refusal captures renders converged render capture) accepted)
    (λ e. updated-kept s renders converged render capture kept)
    (λ e. kept)
after_kept s reset kept = count_kept s 0 kept

pub figures-in-range : (startup : ℕ) → FiguresInRange (started startup)
unfolding FiguresInRange run
figures-in-range startup calls = run-keeps AllInRange after after_kept calls (started startup) (started-kept startup)
