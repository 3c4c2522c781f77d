-- The parts of an update are those of the definition.
use Rattle.std.proofs.Common.{◌≡◌, cond, ℕ, ◌<◌, List, get_or, ◌∙◌, arith}
use Rattle.std.specs.Float.{nan}
use lib.Ieee.{Float}
use Rattle.aec3_common.specs.Counts.{one_more}
use Rattle.aec3_common.specs.Lists.{tab}
use Rattle.aec3_common.proofs.Tables.{tab-same}
use Rattle.correction_factors.specs.declared.CorrectionFactors.{CorrectionFactors}
use Rattle.correction_factors.specs.Factors.{Lesson, factor_moved, subband_of, where_learning, updates_after, erle_after, references_after, estimates_after, factors_after, learnt}
use Rattle.correction_factors.specs.Steps.{moved_in}
use Rattle.correction_factors.proofs.Entries.{where-same}

-- the lessons of all subbands, as they are held and as they are defined
module _ (held lesson : ℕ → Lesson) (at : (s : ℕ) → s < 6 → held s ≡ lesson s) where
  updates-are : (old : List ℕ) → tab 6 (λ s. cond (held s).updated (one_more (get_or old s 0)) (get_or old s 0)) ≡ updates_after lesson old
  unfolding updates_after
  updates-are old = tab-same 6 0 _ _ (λ s h. rw (at s h))

  factors-are :
      (updates : List ℕ) (estimates references old : List Float)
      → where_learning (λ s. (held s).section)
      (λ j f. factor_moved (held (subband_of j)).updated (get_or updates (subband_of j) 0) (get_or estimates j nan) (get_or references (subband_of j) nan) f)
      old
      ≡ factors_after lesson updates estimates references old
  unfolding factors_after
  factors-are updates estimates references old =
      where-same _ _ _ _ old (λ s h. rw (at s h)) (λ j f. rw (at (subband_of j) (omega arith)))

  module _ (min max_l max_h : Float) where
    references-are :
        (old : List Float)
        → tab 6 (λ s. moved_in min max_l max_h s (held s) (get_or old s nan)) ≡ references_after min max_l max_h lesson old
    unfolding references_after erle_after moved_in
    references-are old = tab-same 6 nan _ _ (λ s h. rw (at s h))

    estimates-are :
        (old : List Float)
        → where_learning (λ s. (held s).section)
        (λ j erle. moved_in min max_l max_h (subband_of j) (held (subband_of j)) erle)
        old
        ≡ estimates_after min max_l max_h lesson old
    unfolding estimates_after erle_after moved_in
    estimates-are old = where-same _ _ _ _ old (λ s h. rw (at s h)) (λ j erle. rw (at (subband_of j) (omega arith)))

    pub learnt_is :
        (c : CorrectionFactors) {updates : List ℕ} {estimates references factors : List Float}
        → updates ≡ tab 6 (λ s. cond (held s).updated (one_more (get_or c.num_updates s 0)) (get_or c.num_updates s 0))
        → estimates ≡ where_learning (λ s. (held s).section)
        (λ j erle. moved_in min max_l max_h (subband_of j) (held (subband_of j)) erle)
        c.erle_estimators
        → references ≡ tab 6 (λ s. moved_in min max_l max_h s (held s) (get_or c.erle_ref s nan))
        → factors ≡ where_learning (λ s. (held s).section)
        (λ j f. factor_moved (held (subband_of j)).updated (get_or updates (subband_of j) 0) (get_or estimates j nan) (get_or references (subband_of j) nan) f)
        c.correction_factors
        → ◌≡◌ {A = CorrectionFactors}
        (record {
          erle_estimators = estimates;
          erle_ref = references;
          correction_factors = factors;
          num_updates = updates;
        })
        (learnt min max_l max_h lesson c)
    unfolding learnt
    learnt_is c {updates} {estimates} {references} count move refer factor =
        let factor' = factor ∙ factors-are updates estimates references c.correction_factors in
        let count' = count ∙ updates-are c.num_updates in
        let move' = move ∙ estimates-are c.erle_estimators in
        let refer' = refer ∙ references-are c.erle_ref in
        simp (factor', count', move', refer')
