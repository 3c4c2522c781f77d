-- A channel's active sections, made of what the functions give one another.
use mathlib.Core.Path.{◌≡◌, refl, ap, ◌∙◌}
use mathlib.Core.Bool.{Bool, cond}
use mathlib.Core.List.{List, []}
use Prim.Native.Nat.{ℕ, zero, suc, ◌-◌, ◌≤◌, ◌<◌}
use native.Mathlib.Nat.{le_refl}
use native.Mathlib.Omega.{arith}
use borrow.Author.Tests.{lt-ltb}
use lib.Dec.{ltb}
use lib.Ieee.{Float, nan}
use lib.ListN.{length, get_or, take}
use Rattle.std.proofs.lemmas.List.{length-take-le, get_or-take}
use Rattle.aec3_common.specs.Binary32.{zero32}
use Rattle.aec3_common.proofs.Tables.{get_or-tab, tab-same}
use Rattle.section_echoes.specs.declared.RenderRing.{RenderRing}
use Rattle.section_echoes.specs.Echoes.{section_render, section_echo, echo_sum, reached, least_reached, active_section, active_sections}
use Rattle.section_echoes.specs.Steps.{bands, first_sections, render_sums, sum_at, echo_sums}

-- what stands at one of the sections
pub first-at : (sections : ℕ) (f : ℕ → ℕ → Float) (s k : ℕ) → sections ≤ 8 → s < sections → k < 65 → sum_at (first_sections sections f) s k ≡ f s k
unfolding first_sections
first-at sections f s k few h b =
    ap (λ (l : List Float). get_or l k nan) (get_or-tab 8 (λ t. bands (λ j. cond (ltb t sections) (f t j) zero32)) s [] (omega arith))
    ∙ get_or-tab 65 (λ j. cond (ltb s sections) (f s j) zero32) k nan b
    ∙ rw (lt-ltb s sections h)

-- an echo sum reads the sections up to its own
echo-same : (echo other : ℕ → Float) (s : ℕ) → ((t : ℕ) → t ≤ s → echo t ≡ other t) → echo_sum echo s ≡ echo_sum other s
unfolding echo_sum
echo-same echo other zero same = same zero (le_refl zero)
echo-same echo other (suc s) same = rw (same (suc s) (le_refl (suc s)), echo-same echo other s (λ t h. same t (omega arith)))

-- the walk reads the sections below its end
least-same : (p q : ℕ → Bool) (n : ℕ) → ((t : ℕ) → t < n → p t ≡ q t) → least_reached p n ≡ least_reached q n
unfolding least_reached
least-same p q zero same = refl
least-same p q (suc n) same = rw (same n (le_refl (suc n)), least-same p q n (λ t h. same t (omega arith)))

active-same :
    (sections : ℕ) (sums others : ℕ → Float) → 1 ≤ sections → ((s : ℕ) → s < sections → sums s ≡ others s)
    → active_section sections sums ≡ active_section sections others
unfolding active_section
active-same sections sums others some same =
    rw (least-same (reached sections sums) (reached sections others) sections
    (λ s h. rw (same (sections - 1) (omega arith), same s h)))

-- the sums of the sections alone tell as much
pub active-lent :
    (sections : ℕ) (sums : List (List Float)) → 1 ≤ sections → sections ≤ length sums
    → bands (λ k. active_section (length (take sections sums)) (λ s. sum_at (take sections sums) s k)) ≡ bands (λ k. active_section sections (λ s. sum_at sums s k))
active-lent sections sums some long =
    ap (λ (n : ℕ). bands (λ k. active_section n (λ s. sum_at (take sections sums) s k))) (length-take-le sections sums long)
    ∙ tab-same 65 0 _ _ (λ k b. active-same sections _ _ some (λ s h. ap (λ (l : List Float). get_or l k nan) (get_or-take sections sums s [] h)))

module _ (ring : RenderRing) (spectra : List Float) (headroom : ℕ) (boundaries : List ℕ) (sections count : ℕ) (responses : List Float) where
  -- the echo sums of the render sums are those of the definition
  echo-is :
      (s k : ℕ) → sections ≤ 8 → s < sections → k < 65
      → sum_at (echo_sums (render_sums ring spectra headroom boundaries sections count) responses boundaries sections count) s k
      ≡ echo_sum (λ t. section_echo ring spectra headroom boundaries count responses t k) s
  unfolding echo_sums render_sums section_echo
  echo-is s k few h b =
      first-at sections _ s k few h b
      ∙ echo-same _ _ s
      (λ t below. rw (first-at sections (section_render ring spectra headroom boundaries count) t k few (omega arith) b))

  -- what active_sections makes of echo_sums, and that of render_sums, is the definition's
  pub active-sections-are :
      1 ≤ sections → sections ≤ 8
      → bands (λ k. active_section sections (λ s. sum_at (echo_sums (render_sums ring spectra headroom boundaries sections count) responses boundaries sections count) s k))
      ≡ active_sections ring spectra headroom boundaries sections count responses
  unfolding active_sections
  active-sections-are some few = tab-same 65 0 _ _ (λ k b. active-same sections _ _ some (λ s h. echo-is s k few h b))
