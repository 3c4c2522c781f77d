-- A loop over the subbands that changes, in each, the entry of the section that learns.
use mathlib.Core.Path.{◌≡◌, refl, sym, ap, ◌∙◌, subst}
use mathlib.Core.Bool.{Bool, true, false, cond}
use mathlib.Core.List.{List}
use Prim.Native.Nat.{ℕ, ◌+◌, ◌*◌, ◌≤◌, ◌<◌}
use native.Mathlib.Omega.{arith}
use borrow.Author.Tests.{eqb-true, eqb-false, ltb-true, ltb-false}
use lib.Dec.{ltb, eqb}
use lib.Ieee.{Float, nan}
use lib.ListN.{length, get_or, set, length-set}
use lib.Seq.{get_or-set_same, get_or-set_other}
use Rattle.aec3_common.proofs.Choices.{cond-by}
use Rattle.aec3_common.proofs.Tables.{tab-is, tab-same}
use Rattle.correction_factors.specs.Factors.{where_learning, section_of, subband_of}
use Rattle.correction_factors.specs.Steps.{LearningChanged}

-- where a section's entry in a subband stands
abbrev pub place_of : ℕ → ℕ → ℕ
place_of section subband = section * 6 + subband

pub subband-of-place : (section subband : ℕ) → subband < 6 → subband_of (place_of section subband) ≡ subband
subband-of-place section subband h = omega arith

-- what the loop knows at subband n: in the subbands before it the entries of the sections that learn are made; the others are as they were
pub record Learning (made : ℕ → ℕ → Float → Float → Type 0) (section : ℕ → ℕ) (old r : List Float) (n : ℕ) : Type 0 where
  pub to : n ≤ 6
  pub long : length r ≡ 48
  pub done :
      (j : ℕ) → j < 48 → subband_of j < n → section_of j ≡ section (subband_of j)
      → made (subband_of j) j (get_or old j nan) (get_or r j nan)
  pub others : (j : ℕ) → (subband_of j < n → section_of j ≡ section (subband_of j) → ⊥) → get_or r j nan ≡ get_or old j nan

pub learning-begun :
    (made : ℕ → ℕ → Float → Float → Type 0) (section : ℕ → ℕ) (old : List Float) → length old ≡ 48 → Learning made section old old 0
learning-begun made section old long =
    record { to = omega arith; long = long; done = λ j b h p. absurd (omega arith); others = λ j out. refl }

module _
    {made : ℕ → ℕ → Float → Float → Type 0} {section : ℕ → ℕ} {old r : List Float} {n : ℕ} (l : Learning made section old r n)
  where
    pub learning-more :
        (v : Float) → n < 6 → section n < 8 → made n (place_of (section n) n) (get_or r (place_of (section n) n) nan) v
        → Learning made section old (set r (place_of (section n) n) v) (n + 1)
    learning-more v h some m =
        record {
          to = omega arith;
          long = length-set r place v ∙ l.long;
          done = λ j b under p. at j b under p (ltb (subband_of j) n) refl;
          others = λ j out.
              kept j (λ q. out (omega arith) (there j q))
              ∙ l.others j (λ under. out (omega arith));
        }
      where
        place : ℕ
        place = place_of (section n) n

        there : (j : ℕ) → j ≡ place → section_of j ≡ section (subband_of j)
        there j q =
            let here : subband_of j ≡ n = omega arith in
            let own : section_of j ≡ section n = omega arith in
            own ∙ ap section (sym here)

        kept : (j : ℕ) → (j ≡ place → ⊥) → get_or (set r place v) j nan ≡ get_or r j nan
        kept j apart = get_or-set_other r place j v nan apart

        now_made : made n place (get_or old place nan) (get_or (set r place v) place nan)
        now_made =
            subst (λ (y : Float). made n place (get_or old place nan) y) (sym (get_or-set_same r place v nan (omega (arith, l.long))))
            (subst (λ (x : Float). made n place x v) (l.others place (λ under p. absurd (omega arith))) m)

        at :
            (j : ℕ) → j < 48 → subband_of j < n + 1 → section_of j ≡ section (subband_of j) → (t : Bool) → ltb (subband_of j) n ≡ t
            → made (subband_of j) j (get_or old j nan) (get_or (set r place v) j nan)
        at j b under p true q =
            let before : subband_of j < n = ltb-true (subband_of j) n q in
            subst (λ (y : Float). made (subband_of j) j (get_or old j nan) y) (sym (kept j (λ e. omega arith))) (l.done j b before p)
        at j b under p false q =
            let here : subband_of j ≡ n = omega (arith, ltb-false (subband_of j) n q) in
            let same : j ≡ place = omega (arith, p ∙ ap section here) in
            subst (λ (s : ℕ). made s j (get_or old j nan) (get_or (set r place v) j nan)) (sym here)
            (subst (λ (i : ℕ). made n i (get_or old i nan) (get_or (set r place v) i nan)) (sym same) now_made)

    pub learning-over : 6 ≤ n → LearningChanged made section old r
    learning-over over =
        record { learning = λ j b p. l.done j b (omega arith) p; others = λ j b out. l.others j (λ under p. out p) }

-- a table of sections in which entries were changed, as the definition says it
pub learning-all :
    {made : ℕ → ℕ → Float → Float → Type 0} {section : ℕ → ℕ} {old r : List Float} (f : ℕ → Float → Float)
    → LearningChanged made section old r → length r ≡ 48
    → ((j : ℕ) (x y : Float) → j < 48 → made (subband_of j) j x y → y ≡ f j x)
    → r ≡ where_learning section f old
unfolding where_learning
learning-all {section = section} {old = old} {r = r} f l long told =
    tab-is 48 nan (λ j. cond (eqb (section_of j) (section (subband_of j))) (f j (get_or old j nan)) (get_or old j nan)) r long
    (λ j b.
    cond-by (eqb (section_of j) (section (subband_of j))) (get_or r j nan) (f j (get_or old j nan)) (get_or old j nan)
    (λ p. told j (get_or old j nan) (get_or r j nan) b (l.learning j b (eqb-true (section_of j) (section (subband_of j)) p)))
    (λ p. l.others j b (eqb-false (section_of j) (section (subband_of j)) p)))

-- the same sections and the same changes
pub where-same :
    (section other : ℕ → ℕ) (f g : ℕ → Float → Float) (table : List Float)
    → ((s : ℕ) → s < 6 → section s ≡ other s) → ((j : ℕ) (x : Float) → f j x ≡ g j x)
    → where_learning section f table ≡ where_learning other g table
unfolding where_learning
where-same section other f g table sections changes =
    tab-same 48 nan
    (λ j. cond (eqb (section_of j) (section (subband_of j))) (f j (get_or table j nan)) (get_or table j nan))
    (λ j. cond (eqb (section_of j) (other (subband_of j))) (g j (get_or table j nan)) (get_or table j nan))
    (λ j b. rw (sections (subband_of j) (omega arith), changes j (get_or table j nan)))
