-- Refusals and their numbers.
use Rattle.std.proofs.Common.{◌≡◌, ℕ, ◌<◌, true, false, cond, eqb, ltb, sym, refl, ap, ◌∙◌, arith, ltb-true, Result, Ok, Err, is_ok}
use Rattle.std.proofs.lemmas.Bool.Decides.{nat_tests}
use Rattle.aec3_common.specs.declared.refusal.Refusal.{Refusal}
use Rattle.aec3_common.specs.declared.refusal.Refusal.TheVariants.{BadLimits, BadChannelCount, BadSections, BadRing, BadLength, BadValue, BadLog2Input, BadOffset, BadPlace, BadFrame, UnknownKind, BadRecordLength, BadFlagOrBand, BadState, OtherChannelCount, NoSettings, SecondSettings}
use Rattle.aec3_common.specs.Answers.{number, number_of, NumbersTellRefusals}
use Rattle.aec3_common.specs.Refusal.{accepted}

-- the refusal that has a number
abbrev named : ℕ → Refusal
named n =
    cond (eqb n 1) BadLimits
    (cond (eqb n 2) BadChannelCount
    (cond (eqb n 3) BadSections
    (cond (eqb n 4) BadRing
    (cond (eqb n 5) BadLength
    (cond (eqb n 6) BadValue
    (cond (eqb n 7) BadLog2Input
    (cond (eqb n 8) BadOffset
    (cond (eqb n 9) BadPlace
    (cond (eqb n 10) BadFrame
    (cond (eqb n 11) UnknownKind
    (cond (eqb n 12) BadRecordLength
    (cond (eqb n 13) BadFlagOrBand
    (cond (eqb n 20) BadState
    (cond (eqb n 21) OtherChannelCount
    (cond (eqb n 22) NoSettings SecondSettings)))))))))))))))

named-number : (a : Refusal) → named (number a) ≡ a
named-number BadLimits = refl
named-number BadChannelCount = refl
named-number BadSections = refl
named-number BadRing = refl
named-number BadLength = refl
named-number BadValue = refl
named-number BadLog2Input = refl
named-number BadOffset = refl
named-number BadPlace = refl
named-number BadFrame = refl
named-number UnknownKind = refl
named-number BadRecordLength = refl
named-number BadFlagOrBand = refl
named-number BadState = refl
named-number OtherChannelCount = refl
named-number NoSettings = refl
named-number SecondSettings = refl

positive : (a : Refusal) → ltb 0 (number a) ≡ true
positive BadLimits = refl
positive BadChannelCount = refl
positive BadSections = refl
positive BadRing = refl
positive BadLength = refl
positive BadValue = refl
positive BadLog2Input = refl
positive BadOffset = refl
positive BadPlace = refl
positive BadFrame = refl
positive UnknownKind = refl
positive BadRecordLength = refl
positive BadFlagOrBand = refl
positive BadState = refl
positive OtherChannelCount = refl
positive NoSettings = refl
positive SecondSettings = refl

pub numbers-tell-refusals : NumbersTellRefusals
numbers-tell-refusals =
    record {
      apart = λ a b e. sym (named-number a) ∙ ap named e ∙ named-number b;
      none_accepted = λ a e. let some : 0 < number a = ltb-true 0 (number a) (positive a) in omega arith;
    }

-- so an answer has number 0 where it is no refusal
pub outcome-told : {A : Type 0} (r : Result A Refusal) → eqb (number_of r) accepted ≡ is_ok r
outcome-told (Ok value) = refl
outcome-told (Err a) = some (number a) (positive a)
  where
    some : (n : ℕ) → ltb 0 n ≡ true → eqb n 0 ≡ false
    some n above = grind (arith, nat_tests)
