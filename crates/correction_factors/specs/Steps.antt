-- What inner functions of the code promise; no part of the definition.
use Rattle.std.specs.Prelude.{◌≡◌, ◌<◌, cond, None, List, ℕ, eqb, is_some, unwrap_or, Float, get_or}
use Rattle.std.specs.Float.{nan}
use Rattle.aec3_common.specs.Binary32.{zero32}
use Rattle.aec3_common.specs.Lists.{tab}
use Rattle.filter_sections.specs.Subbands.{subband_begin}
use Rattle.correction_factors.specs.declared.lessons.Lesson.{Lesson as HeldLesson}
use Rattle.correction_factors.specs.Factors.{Lesson, erle_moved, subband_max, section_of, subband_of}
use Rattle.correction_factors.specs.Streams.{factor_of, corrected_band}

-- a lesson that the code holds, as the definition's
abbrev pub lesson_in : HeldLesson → Lesson
lesson_in held =
    record {
      updated = is_some held.ratio;
      new = unwrap_or held.ratio zero32;
      section = held.section;
    }

-- of several, a subband's
abbrev pub lesson_at : List HeldLesson → ℕ → Lesson
lesson_at lessons s = lesson_in (get_or lessons s (record { ratio = None; section = 0 }))

-- each of six learns for one of eight sections
abbrev pub EachOfEight : List HeldLesson → Type 0
EachOfEight lessons = (s : ℕ) → s < 6 → (lesson_at lessons s).section < 8

-- of a table of sections: in each subband, the entry of the section that learns was made, by a relation, of the subband, its place and what it was;
-- the others are as they were
pub record LearningChanged (made : ℕ → ℕ → Float → Float → Type 0) (section : ℕ → ℕ) (old new : List Float) : Type 0 where
  pub learning :
      (j : ℕ) → j < 48 → section_of j ≡ section (subband_of j) → made (subband_of j) j (get_or old j nan) (get_or new j nan)
  pub others : (j : ℕ) → j < 48 → (section_of j ≡ section (subband_of j) → ⊥) → get_or new j nan ≡ get_or old j nan

-- an ERLE moved by a lesson, within the limits of a subband
unfoldable pub moved_in : Float → Float → Float → ℕ → Lesson → Float → Float
moved_in min max_l max_h s lesson erle = erle_moved min (subband_max max_l max_h s) lesson.updated lesson.new erle

-- where the bands that map to a subband begin
unfoldable pub first_band : ℕ → ℕ
first_band subband = cond (eqb subband 0) 0 (subband_begin subband)

-- the factor of each band
unfoldable pub factors_of : List Float → List ℕ → List Float
factors_of factors active = tab 65 (λ k. factor_of factors active k)

-- each band of an average stream times its factor, clamped
unfoldable pub corrected_by : Float → Float → Float → List Float → List Float → List Float
corrected_by min max_l max_h factors average =
    tab 65 (λ k. corrected_band min max_l max_h k (get_or average k nan) (get_or factors k nan))
