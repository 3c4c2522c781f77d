-- What a channel learns about its sections, subband by subband: how many updates it had, the ERLE of each section and of all
-- sections together, and from these the factor by which a section's ERLE is corrected.
use Rattle.std.specs.Prelude.{Bool, cond, ◌&&◌, List, ℕ, ◌+◌, ◌-◌, ◌*◌, ◌/◌, ◌%◌, ltb, eqb, min, fold, Float, get_or}
use Rattle.std.specs.Float.{nan, binary32}
use Rattle.std.specs.Float.Ieee.{of_bits, div, lt}
use Rattle.aec3_common.specs.Binary32.{zero32, one32, energy_threshold, clamped, moved}
use Rattle.aec3_common.specs.Counts.{one_more}
use Rattle.aec3_common.specs.Lists.{tab}
use Rattle.aec3_common.specs.Spectra.{sum}
use Rattle.filter_sections.specs.Subbands.{subband_bands, max_erle}
use Rattle.correction_factors.specs.declared.CorrectionFactors.{CorrectionFactors}

-- ---- subbands

-- how many subbands there are
abbrev pub subbands : ℕ
subbands = 6

-- the entries of a subband's bands, in order
abbrev pub of_subband : {A : Type 0} → A → List A → ℕ → List A
of_subband d xs subband =
    let b = subband_bands subband in
    tab (b.end - b.start) (λ j. get_or xs (b.start + j) d)

-- a spectrum's powers in a subband, added up
unfoldable pub subband_sum : List Float → ℕ → Float
subband_sum spectrum subband = sum (of_subband nan spectrum subband)

-- in each subband
unfoldable pub subband_sums : List Float → List Float
subband_sums spectrum = tab subbands (λ s. subband_sum spectrum s)

-- the least of a number and those after it
abbrev pub least_from : ℕ → List ℕ → ℕ
least_from n ms = fold min n ms

-- the least active section of a subband's bands; none is above the last section
unfoldable pub least_active : ℕ → List ℕ → ℕ → ℕ
least_active sections active subband = least_from (sections - 1) (of_subband 0 active subband)

-- a subband's maximum is that of its bands
abbrev pub subband_max : Float → Float → ℕ → Float
subband_max max_l max_h subband = max_erle max_l max_h (subband_bands subband).start

-- ---- ratios

-- subband sums with render above T and residual above 0 give a ratio: the subband is updated
unfoldable pub is_updated : Float → Float → Bool
is_updated render residual = lt energy_threshold render && lt zero32 residual

-- the ratio, or 0 where there is none
unfoldable pub new_erle : Float → Float → Float → Float
new_erle render capture residual = cond (is_updated render residual) (div binary32 capture residual) zero32

-- ---- one subband

-- 0.05 and 0.1, the shares of the difference by which an ERLE moves upwards and downwards
abbrev pub share_up : Float
share_up = of_bits binary32 0x3d4c_cccd

abbrev pub share_down : Float
share_down = of_bits binary32 0x3dcc_cccd

-- it does not move where the subband is not updated
abbrev pub share : Bool → Float → Float → Float
share updated new erle = cond updated (cond (lt erle new) share_up share_down) zero32

-- A section's estimate and the reference move by 0.05 of the difference upwards or 0.1 downwards, and are clamped.
unfoldable pub erle_moved : Float → Float → Bool → Float → Float → Float
erle_moved min max updated new erle = clamped (moved erle new (share updated new erle)) min max

-- so many updates pass before a factor moves: the 51st is the first to move it
abbrev pub updates_before : ℕ
updates_before = 50

-- 0.1, the share of its distance by which a factor moves
abbrev pub factor_share : Float
factor_share = of_bits binary32 0x3dcc_cccd

-- A factor moves by 0.1 of its distance to estimate/reference, only for a subband updated now, from its 51st update on. The
-- reference is above 0 in every run from a start.
unfoldable pub factor_moved : Bool → ℕ → Float → Float → Float → Float
factor_moved updated updates estimate reference factor =
    cond (updated && ltb updates_before updates && lt zero32 reference)
    (moved factor (div binary32 estimate reference) factor_share)
    factor

-- ---- a channel

-- a table of sections stands section by section, six subbands each
abbrev pub section_of : ℕ → ℕ
section_of j = j / subbands

abbrev pub subband_of : ℕ → ℕ
subband_of j = j % subbands

-- a section's entry in a subband
abbrev pub entry_of : List Float → ℕ → ℕ → Float
entry_of table section subband = get_or table (section * subbands + subband) nan

-- what an update brings to a subband: whether it is updated, its new ratio, and the section that learns
pub record Lesson : Type 0 where
  pub updated : Bool
  pub new : Float
  pub section : ℕ

-- the lesson of a subband, by the render, capture and residual sums of all, and the active section of each band
unfoldable pub lesson_of : ℕ → List ℕ → List Float → List Float → List Float → ℕ → Lesson
lesson_of sections active renders captures residuals subband =
    let x = get_or renders subband nan in
    let e = get_or residuals subband nan in
    record {
      updated = is_updated x e;
      new = new_erle x (get_or captures subband nan) e;
      section = least_active sections active subband;
    }

-- a start, and a reset: ERLEs at the minimum, factors 1, no updates
unfoldable pub fresh_factors : Float → CorrectionFactors
fresh_factors min =
    record {
      erle_estimators = tab 48 (λ j. min);
      erle_ref = tab 6 (λ j. min);
      correction_factors = tab 48 (λ j. one32);
      num_updates = tab 6 (λ j. 0);
    }

-- a table of sections in which, in each subband, the section that learns has its entry changed
unfoldable pub where_learning : (ℕ → ℕ) → (ℕ → Float → Float) → List Float → List Float
where_learning section f table =
    tab 48
    (λ j. cond (eqb (section_of j) (section (subband_of j))) (f j (get_or table j nan)) (get_or table j nan))

-- the count of updates grows in each subband that is updated
unfoldable pub updates_after : (ℕ → Lesson) → List ℕ → List ℕ
updates_after lesson updates = tab 6 (λ s. cond (lesson s).updated (one_more (get_or updates s 0)) (get_or updates s 0))

-- an ERLE of a subband, moved by the subband's lesson
unfoldable pub erle_after : Float → Float → Float → (ℕ → Lesson) → ℕ → Float → Float
erle_after min max_l max_h lesson s erle = erle_moved min (subband_max max_l max_h s) (lesson s).updated (lesson s).new erle

-- the reference of each subband
unfoldable pub references_after : Float → Float → Float → (ℕ → Lesson) → List Float → List Float
references_after min max_l max_h lesson references =
    tab 6 (λ s. erle_after min max_l max_h lesson s (get_or references s nan))

-- the estimate of each subband's least active section
unfoldable pub estimates_after : Float → Float → Float → (ℕ → Lesson) → List Float → List Float
estimates_after min max_l max_h lesson estimates =
    where_learning (λ s. (lesson s).section) (λ j e. erle_after min max_l max_h lesson (subband_of j) e) estimates

-- its factor, by updates, estimates and references
unfoldable pub factors_after : (ℕ → Lesson) → List ℕ → List Float → List Float → List Float → List Float
factors_after lesson updates estimates references factors =
    where_learning (λ s. (lesson s).section)
    (λ j f.
    let s = subband_of j in
    factor_moved (lesson s).updated (get_or updates s 0) (get_or estimates j nan) (get_or references s nan) f)
    factors

-- A converged channel learns. Factors move by the updates, estimates and references after this update.
unfoldable pub learnt : Float → Float → Float → (ℕ → Lesson) → CorrectionFactors → CorrectionFactors
learnt min max_l max_h lesson c =
    let updates = updates_after lesson c.num_updates in
    let estimates = estimates_after min max_l max_h lesson c.erle_estimators in
    let references = references_after min max_l max_h lesson c.erle_ref in
    record {
      erle_estimators = estimates;
      erle_ref = references;
      correction_factors = factors_after lesson updates estimates references c.correction_factors;
      num_updates = updates;
    }
