-- Sections by their sums.
use mathlib.Core.Path.{◌≡◌, refl, ap, ◌∙◌}
use mathlib.Core.Bool.{Bool, true, false, cond}
use mathlib.Core.List.{List, []}
use Rattle.std.proofs.lemmas.Bool.Decides.{nat_tests}
use Rattle.std.proofs.Common.{min}
use Prim.Native.Nat.{ℕ, zero, suc, ◌+◌, ◌-◌, ◌≤◌, ◌<◌}
use native.Mathlib.Omega.{arith}
use lib.Dec.{ltb}
use lib.Ieee.{Float, nan, binary32, add, mul}
use lib.ListN.{get_or}
use Rattle.aec3_common.specs.Binary32.{zero32}
use Rattle.aec3_common.specs.Lists.{tab}
use Rattle.aec3_common.proofs.Tables.{length-tab, get_or-tab, tab-same, Stored, stored-none, stored-firsts}
use Rattle.section_echoes.specs.declared.RenderRing.{RenderRing}
use Rattle.section_echoes.specs.Echoes.{fewer, render_sum, section_render, response_sum, section_response, echo_sum}
use Rattle.section_echoes.specs.Steps.{bands, first_sections, sum_at}
use Rattle.section_echoes.proofs.Sums.{band-at}

-- a table of zeros: what a loop over sections begins with
abbrev pub no_sums : List (List Float)
no_sums = tab 8 (λ s. bands (λ k. zero32))

pub sections-begun : (sections : ℕ) (f : ℕ → ℕ → Float) → Stored 8 [] 0 sections (λ t. bands (f t)) no_sums no_sums 0
sections-begun sections f = stored-none [] 0 sections (λ t. bands (f t)) no_sums (omega arith) (length-tab 8 (λ s. bands (λ k. zero32)))

-- the loop over the sections has ended
pub sections-over :
    (sections : ℕ) (f : ℕ → ℕ → Float) {r : List (List Float)} {s : ℕ}
    → Stored 8 [] 0 sections (λ t. bands (f t)) no_sums r s → sections ≤ s → r ≡ first_sections sections f
unfolding first_sections
sections-over sections f stored over =
    stored-firsts stored over ∙ tab-same 8 [] _ _ (λ t b. go t b (ltb t sections))
  where
    go : (t : ℕ) → t < 8 → (within : Bool) → cond within (bands (f t)) (get_or no_sums t []) ≡ bands (λ k. cond within (f t k) zero32)
    go t b true = refl
    go t b false = get_or-tab 8 (λ j. bands (λ k. zero32)) t [] b

-- ---- a section's sums

module _ (boundaries : List ℕ) (count s : ℕ) {to : ℕ} (least : to ≡ min (get_or boundaries (s + 1) 0) count) where
  end : to ≡ fewer (get_or boundaries (s + 1) 0) count
  end = grind (arith, nat_tests)

  pub section-render-is :
      (ring : RenderRing) (spectra : List Float) (headroom : ℕ) {r : List Float}
      → r ≡ bands (render_sum ring spectra headroom (get_or boundaries s 0) (to - get_or boundaries s 0))
      → r ≡ bands (section_render ring spectra headroom boundaries count s)
  unfolding section_render
  section-render-is ring spectra headroom e =
      e ∙ ap (λ (n : ℕ). bands (render_sum ring spectra headroom (get_or boundaries s 0) (n - get_or boundaries s 0))) end

  pub section-response-is :
      (responses : List Float) {r : List Float} → r ≡ bands (response_sum responses (get_or boundaries s 0) (to - get_or boundaries s 0))
      → r ≡ bands (section_response responses boundaries count s)
  unfolding section_response
  section-response-is responses e =
      e ∙ ap (λ (n : ℕ). bands (response_sum responses (get_or boundaries s 0) (n - get_or boundaries s 0))) end

-- ---- echoes

module _ (render : List (List Float)) (responses : List Float) (boundaries : List ℕ) (count : ℕ) where
  -- the echo sum of a section in a band
  abbrev pub echo_at : ℕ → ℕ → Float
  echo_at s k = echo_sum (λ t. mul binary32 (sum_at render t k) (section_response responses boundaries count t k)) s

  pub echo-first :
      {response r : List Float} → response ≡ bands (section_response responses boundaries count 0)
      → r ≡ bands (λ k. mul binary32 (sum_at render 0 k) (get_or response k nan)) → r ≡ bands (echo_at 0)
  unfolding echo_sum
  echo-first {response = response} at stored =
      stored ∙ tab-same 65 nan _ _ (λ k b. rw (band-at nan (section_response responses boundaries count 0) response k at b))

  echo-suc :
      (s : ℕ) (response before : List Float)
      → response ≡ bands (section_response responses boundaries count (suc s)) → before ≡ bands (echo_at s)
      → bands (λ k. add binary32 (mul binary32 (sum_at render (suc s) k) (get_or response k nan)) (get_or before k nan)) ≡ bands (echo_at (suc s))
  unfolding echo_sum
  echo-suc s response before at e =
      tab-same 65 nan _ _
      (λ k b. rw (band-at nan (section_response responses boundaries count (suc s)) response k at b, band-at nan (echo_at s) before k e b))

  pub echo-next :
      (s : ℕ) {response before r : List Float} → 1 ≤ s
      → response ≡ bands (section_response responses boundaries count s) → before ≡ bands (echo_at (s - 1))
      → r ≡ bands (λ k. add binary32 (mul binary32 (sum_at render s k) (get_or response k nan)) (get_or before k nan))
      → r ≡ bands (echo_at s)
  echo-next zero some at e stored = absurd (omega arith)
  echo-next (suc s) {response = response} {before = before} some at e stored =
      let same : suc s - 1 ≡ s = omega arith in
      stored ∙ echo-suc s response before at (e ∙ ap (λ (t : ℕ). bands (echo_at t)) same)
