use Rattle.std.proofs.Common.{rules, ◌≡◌, ℕ, ◌<◌, ◌≤◌, Bool, true, false, cond, if◌then◌else◌, Some, None, List, get_or, refl, sym, ap, ◌∙◌, subst}
use Rattle.std.specs.Float.{nan, binary32}
use Rattle.std.specs.Float.Ieee.{div}
use lib.Ieee.{Float}
use Rattle.aec3_common.specs.Binary32.{zero32}
use Rattle.aec3_common.specs.Lists.{tab}
use Rattle.aec3_common.proofs.Tables.{get_or-tab}
use Rattle.correction_factors.specs.declared.lessons.Lesson.{Lesson as HeldLesson}
use Rattle.correction_factors.specs.Factors.{Lesson, lesson_of, is_updated, new_erle, least_active}
use Rattle.correction_factors.specs.Steps.{EachOfEight, lesson_in, lesson_at}
use Rattle.aec3_common.proofs.Changes.{made-all}
use Rattle.correction_factors.proofs.Bands.{least-of-eight}
use Rattle.correction_factors.proofs.lessons.SubbandBlock.lessons.Goals as goal

-- a lesson as it is held
abbrev held : Bool → Float → ℕ → HeldLesson
held updated ratio section = record { ratio = if updated then Some ratio else None; section = section }

held-is :
    (updated : Bool) (ratio : Float) (section : ℕ)
    → lesson_in (held updated ratio section)
    ≡ record { updated = updated; new = cond updated ratio zero32; section = section }
held-is true ratio section = refl
held-is false ratio section = refl

abbrev none : HeldLesson
none = record { ratio = None; section = 0 }

module _ (sections : ℕ) (active : List ℕ) (x2 y2 e2 : List Float) where
  -- the lesson of a subband, as the code makes it
  abbrev made : ℕ → HeldLesson
  made s = held (is_updated (get_or x2 s nan) (get_or e2 s nan)) (div binary32 (get_or y2 s nan) (get_or e2 s nan)) (least_active sections active s)

  taught : {lessons : List HeldLesson} → lessons ≡ tab 6 made → (s : ℕ) → s < 6 → lesson_at lessons s ≡ lesson_of sections active x2 y2 e2 s
  unfolding lesson_of new_erle
  taught all s h =
      ap (λ (l : List HeldLesson). lesson_at l s) all
      ∙ ap lesson_in (get_or-tab 6 made s none h)
      ∙ held-is (is_updated (get_or x2 s nan) (get_or e2 s nan)) (div binary32 (get_or y2 s nan) (get_or e2 s nan)) (least_active sections active s)

  of-eight : {lessons : List HeldLesson} → sections ≤ 8 → lessons ≡ tab 6 made → EachOfEight lessons
  unfolding lesson_of
  of-eight few all s h = subst (λ (l : Lesson). l.section < 8) (sym (taught all s h)) (least-of-eight sections active s few)

pub invariant_of-result : goal.invariant_of-result
invariant_of-result c =
    let a = c.args.self.now in
    record {
      of_eight =
          of-eight a.num_sections a.active.now a.x2.now a.y2.now a.e2.now a.few_sections
          (made-all _ _ (made a.num_sections a.active.now a.x2.now a.y2.now a.e2.now) (λ k y q called. (search rules, search rules)) 6 c.from_fn-subbands.result none c.from_fn-subbands.ensures.items);
    }

pub returns : goal.returns
returns c =
    let a = c.args.self.now in
    taught a.num_sections a.active.now a.x2.now a.y2.now a.e2.now
    (made-all _ _ (made a.num_sections a.active.now a.x2.now a.y2.now a.e2.now) (λ k y q called. (search rules, search rules)) 6 c.from_fn-subbands.result none c.from_fn-subbands.ensures.items)
