-- What a channel learns stays in range.
use Rattle.std.proofs.Common.{◌≡◌, ℕ, ◌<◌, Bool, true, false, ◌&&◌, T, eqb, ltb, List, get_or, pos, negsuc, sym, refl, subst, arith, lit≤}
use Rattle.std.proofs.lemmas.Bool.{false≢true}
use lib.Ieee.{Float, nan, of_bits, lt}
use lib.Ieee.Positive.{between, positive, above_of_le}
use Rattle.aec3_common.specs.Binary32.{zero32, one32, clamped, moved}
use Rattle.aec3_common.proofs.Choices.{cond_has}
use Rattle.aec3_common.proofs.Fitting.{Between, above_zero, positive-above-zero, positive-is-finite}
use Rattle.aec3_common.proofs.Limits.{InOrder, min-positive, min-between, clamped-moved, number-from}
use Rattle.aec3_common.proofs.Quotients.{greatest-quotient-value, least-quotient-positive, greatest-quotient-positive, one-between, quotient-between}
use Rattle.aec3_common.proofs.Rounding.{Signed}
use Rattle.aec3_common.proofs.Staying.{moved-stays}
use Rattle.aec3_common.proofs.Tables.{get_or-tab}
use Rattle.filter_sections.specs.Subbands.{subband_bands}
use Rattle.filter_sections.proofs.Limits.{AllInOrder}
use Rattle.correction_factors.specs.declared.CorrectionFactors.{CorrectionFactors}
use Rattle.correction_factors.specs.Factors.{subband_max, subband_of, section_of, entry_of, Lesson, share, erle_moved, factor_moved, where_learning, erle_after, references_after, estimates_after, factors_after, fresh_factors, learnt}
use Rattle.correction_factors.specs.Range.{least_factor, greatest_factor, factor_ok, LearntInRange}
use Rattle.correction_factors.proofs.Taught.{Taught}
use Rattle.correction_factors.proofs.Entries.{place_of, subband-of-place}

-- ---- one subband

module _ {min max : Float} (limits : InOrder min max) where
  -- An estimate or a reference keeps its range, whatever ratio moves it.
  erle-kept : {x : Float} → Between min max x → (l : Lesson) → Taught l → Between min max (erle_moved min max l.updated l.new x)
  unfolding erle_moved of_bits
  erle-kept {x} b l taught = go l.updated taught.ratio taught.none
    where
      move : Bool → Float → Float
      move updated new = clamped (moved x new (share updated new x)) min max

      go :
          (updated : Bool) → (updated ≡ true → Signed false l.new) → (updated ≡ false → l.new ≡ zero32)
          → Between min max (move updated l.new)
      go true ratio none =
          cond_has (λ g. Between min max (clamped (moved x l.new g) min max)) (lt x l.new)
          (λ more. clamped-moved limits b 13421773 (negsuc 27) (ratio refl) (λ z. absurd (false≢true z)))
          (λ less. clamped-moved limits b 13421773 (negsuc 26) (ratio refl) (λ z. absurd (false≢true z)))
      go false ratio none =
          subst (λ (y : Float). Between min max (move false y)) (sym (none refl))
          (clamped-moved limits b 0 (pos 0) (Signed.finite 0 (pos 0)) (λ z. above_zero x (above_of_le min x (min-positive limits) b.least)))

  -- A factor keeps its range, if estimate and reference do.
  factor-kept :
      {estimate reference factor : Float} → Between min max estimate → Between min max reference
      → Between (least_factor min max) (greatest_factor min max) factor → (updated : Bool) (updates : ℕ)
      → Between (least_factor min max) (greatest_factor min max) (factor_moved updated updates estimate reference factor)
  unfolding factor_moved of_bits
  factor-kept {estimate} {reference} {factor} e r f updated updates =
      cond_has (Between (least_factor min max) (greatest_factor min max)) (updated && ltb 50 updates && lt zero32 reference)
      (λ t.
      moved-stays 13421773 (negsuc 26) (lit≤ tt)
      (least-quotient-positive min max limits) (greatest-quotient-positive min max limits) (greatest-quotient-value min max limits)
      f (quotient-between min max limits e r))
      (λ t. f)

  -- a factor is finite and above zero
  pub factor-positive : {x : Float} → Between (least_factor min max) (greatest_factor min max) x → T (positive x)
  factor-positive {x} b =
      between (least_factor min max) x (greatest_factor min max)
      (least-quotient-positive min max limits) (greatest-quotient-positive min max limits)
      b.least b.most

  pub factor-ok : {x : Float} → Between (least_factor min max) (greatest_factor min max) x → factor_ok min max x ≡ true
  factor-ok {x} b =
      let some = factor-positive b in
      simp (positive-is-finite x some, positive-above-zero x some, number-from b)

-- ---- a channel

-- Each section's estimate in a subband, and the subband's reference, lies within the subband's limits; each section's factor lies
-- between the quotients of these.
pub record LearntKept (min max_l max_h : Float) (c : CorrectionFactors) : Type 0 where
  pub estimates : (j : ℕ) → j < 48 → Between min (subband_max max_l max_h (subband_of j)) (get_or c.erle_estimators j nan)
  pub references : (s : ℕ) → s < 6 → Between min (subband_max max_l max_h s) (get_or c.erle_ref s nan)
  pub factors :
      (j : ℕ) → j < 48
      → let max = subband_max max_l max_h (subband_of j) in
      Between (least_factor min max) (greatest_factor min max) (get_or c.correction_factors j nan)

-- what each entry of a table has, and keeps when it is changed, each entry has where the sections that learn have theirs changed
where-kept :
    (P : ℕ → Float → Type 0) (section : ℕ → ℕ) (f : ℕ → Float → Float) (table : List Float)
    → ((j : ℕ) → j < 48 → P j (get_or table j nan)) → ((j : ℕ) → j < 48 → (x : Float) → P j x → P j (f j x))
    → (j : ℕ) → j < 48 → P j (get_or (where_learning section f table) j nan)
unfolding where_learning
where-kept P section f table each changed j h =
    subst (P j) (sym (get_or-tab 48 _ j nan h))
    (cond_has (P j) (eqb (section_of j) (section (subband_of j))) (λ e. changed j h (get_or table j nan) (each j h)) (λ e. each j h))

module _ (min max_l max_h : Float) (limits : AllInOrder min max_l max_h) where
  in-order : (s : ℕ) → InOrder min (subband_max max_l max_h s)
  in-order s = limits (subband_bands s).start

  -- What a fresh channel has is in range.
  pub fresh-kept : LearntKept min max_l max_h (fresh_factors min)
  unfolding fresh_factors
  fresh-kept =
      record {
        estimates = λ j h. subst (Between min _) (sym (get_or-tab 48 (λ j. min) j nan h)) (min-between (in-order (subband_of j)));
        references = λ s h. subst (Between min _) (sym (get_or-tab 6 (λ j. min) s nan h)) (min-between (in-order s));
        factors = λ j h. subst (Between _ _) (sym (get_or-tab 48 (λ j. one32) j nan h)) (one-between min _ (in-order (subband_of j)));
      }

  -- What a channel has learnt stays in range, whatever ratios it is taught.
  pub learnt-kept :
      (lesson : ℕ → Lesson) → ((s : ℕ) → s < 6 → Taught (lesson s)) → {c : CorrectionFactors}
      → LearntKept min max_l max_h c → LearntKept min max_l max_h (learnt min max_l max_h lesson c)
  unfolding learnt estimates_after references_after factors_after erle_after
  learnt-kept lesson taught {c} kept =
      record {
        estimates = estimates;
        references = references;
        factors =
            where-kept
            (λ j f. Between (least_factor min (max j)) (greatest_factor min (max j)) f)
            _ _ c.correction_factors kept.factors
            (λ j h x b. factor-kept (in-order (subband_of j)) (estimates j h) (references (subband_of j) (omega arith)) b _ _);
      }
    where
      max : ℕ → Float
      max j = subband_max max_l max_h (subband_of j)

      estimates : (j : ℕ) → j < 48 → Between min (max j) (get_or (estimates_after min max_l max_h lesson c.erle_estimators) j nan)
      estimates =
          where-kept (λ j x. Between min (max j) x) _ _ c.erle_estimators kept.estimates
          (λ j h x b. erle-kept (in-order (subband_of j)) b (lesson (subband_of j)) (taught (subband_of j) (omega arith)))

      references : (s : ℕ) → s < 6 → Between min (subband_max max_l max_h s) (get_or (references_after min max_l max_h lesson c.erle_ref) s nan)
      references s h =
          subst (Between min _) (sym (get_or-tab 6 (λ s. erle_after min max_l max_h lesson s (get_or c.erle_ref s nan)) s nan h))
          (erle-kept (in-order s) (kept.references s h) (lesson s) (taught s h))

-- ---- what is kept is in range

pub learnt-in-range :
    {min max_l max_h : Float} {c : CorrectionFactors} → AllInOrder min max_l max_h → LearntKept min max_l max_h c → LearntInRange min max_l max_h c
learnt-in-range {min} {max_l} {max_h} {c} limits kept =
    record {
      estimates = λ section subband eight six.
          number-from
          (subst (λ (s : ℕ). Between min (subband_max max_l max_h s) (entry_of c.erle_estimators section subband)) (subband-of-place section subband six)
          (kept.estimates (place_of section subband) (omega arith)));
      references = λ subband six. number-from (kept.references subband six);
      factors = λ section subband eight six.
          factor-ok (limits (subband_bands subband).start)
          (subst
          (λ (s : ℕ).
          let max = subband_max max_l max_h s in
          Between (least_factor min max) (greatest_factor min max) (entry_of c.correction_factors section subband))
          (subband-of-place section subband six)
          (kept.factors (place_of section subband) (omega arith)));
    }
