-- A quality is a number, and clamped both ways it lies in 0 to 1.
use Rattle.std.proofs.Common.{◌≡◌, Bool, true, refl}
use lib.Ieee.{Float, of_bits, le}
use Rattle.aec3_common.specs.Binary32.{zero32, one32, larger, smaller, is_finite, number_from}
use Rattle.std.specs.List.{list_all}
use Rattle.aec3_common.proofs.Choices.{cond_has}
use Rattle.aec3_common.proofs.Floats.{larger-has, smaller-has, larger-not-below-second, smaller-not-above-second}
use Rattle.aec3_common.proofs.Sizes.{sized-finite}
use Rattle.fullband_channel.specs.declared.instantaneous.OptionalNumber.{OptionalNumber}
use Rattle.fullband_channel.specs.declared.instantaneous.ErleInstantaneous.{ErleInstantaneous}
use Rattle.fullband_channel.specs.Instantaneous.{is_present, optional_values, raised_quality, clamped_quality, quality_of}
use Rattle.fullband_channel.proofs.Bounded.{Bounded}

-- ---- one quality

clamped-finite : (to_zero to_one : Bool) (q : Float) → is_finite q ≡ true → is_finite (clamped_quality to_zero to_one q) ≡ true
unfolding clamped_quality of_bits
clamped-finite to_zero to_one q p =
    let P : Float → Type 0 = λ z. is_finite z ≡ true in
    let raised : P (raised_quality to_zero q) = cond_has P to_zero (λ e. larger-has P p refl) (λ e. p) in
    cond_has P to_one (λ e. smaller-has P raised refl) (λ e. raised)

clamped-from-0-to-1 : (q : Float) → is_finite q ≡ true → number_from zero32 one32 (clamped_quality true true q) ≡ true
unfolding clamped_quality of_bits le
clamped-from-0-to-1 q p =
    let raised = larger q zero32 in
    let some : is_finite raised ≡ true = larger-has (λ (z : Float). is_finite z ≡ true) p refl in
    let least : le zero32 (smaller raised one32) ≡ true =
    smaller-has (λ (z : Float). le zero32 z ≡ true) (larger-not-below-second q zero32 p refl) refl in
    simp (least, smaller-not-above-second raised one32 some refl)

-- ---- the quality that is answered

module _ (i : ErleInstantaneous) (bounded : Bounded i) where
  pub quality-finite : (to_zero to_one : Bool) → list_all is_finite (optional_values (quality_of to_zero to_one i)) ≡ true
  unfolding quality_of
  quality-finite to_zero to_one =
      cond_has (λ (o : OptionalNumber). list_all is_finite (optional_values o) ≡ true) (is_present i.erle_log2)
      (λ e. rw (clamped-finite to_zero to_one i.inst_quality_estimate (sized-finite bounded.quality)))
      (λ e. refl)

  pub quality-from-0-to-1 : list_all (number_from zero32 one32) (optional_values (quality_of true true i)) ≡ true
  unfolding quality_of
  quality-from-0-to-1 =
      cond_has (λ (o : OptionalNumber). list_all (number_from zero32 one32) (optional_values o) ≡ true) (is_present i.erle_log2)
      (λ e. rw (clamped-from-0-to-1 i.inst_quality_estimate (sized-finite bounded.quality)))
      (λ e. refl)
