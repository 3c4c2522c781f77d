-- The walk up over the sections that finds the active one.
use mathlib.Core.Path.{◌≡◌, ◌∙◌}
use mathlib.Core.Bool.{cond}
use mathlib.Core.List.{List}
use Prim.Native.Nat.{ℕ, ◌+◌, ◌-◌, ◌≤◌, ◌<◌}
use native.Mathlib.Numerals.{add-one}
use borrow.Author.Tests.{ltb-true}
use lib.Dec.{ltb}
use lib.Ieee.{Float, nan, binary32, mul, le}
use lib.ListN.{get_or}
use Rattle.aec3_common.proofs.Choices.{cond_has}
use Rattle.aec3_common.proofs.Tables.{tab-same}
use Rattle.section_echoes.specs.Echoes.{active_share, reached, least_reached, active_section}
use Rattle.section_echoes.specs.Steps.{bands, sum_at}
use Rattle.section_echoes.proofs.Sums.{band-at}

-- the active section is one of the sections
pub active-below : (sections : ℕ) (sums : ℕ → Float) → 1 ≤ sections → active_section sections sums < sections
unfolding active_section
active-below sections sums some =
    let least : ℕ = least_reached (reached sections sums) sections in
    cond_has (λ n. n < sections) (ltb least sections) (λ e. ltb-true least sections e) (λ e. some)

-- in each band, the least section reached without a gap from below s down
abbrev pub least_from : List (List Float) → ℕ → ℕ → List ℕ
least_from sums sections s = bands (λ k. least_reached (reached sections (λ t. sum_at sums t k)) s)

module _ (sums : List (List Float)) (sections : ℕ) (active : List ℕ) (s : ℕ) (at : active ≡ least_from sums sections s) where
  least_at : (k : ℕ) → k < 65 → get_or active k 0 ≡ least_reached (reached sections (λ t. sum_at sums t k)) s
  least_at k b = band-at 0 (λ j. least_reached (reached sections (λ t. sum_at sums t j)) s) active k at b

  -- one section more
  pub least_more :
      {targets : List Float} {r : List ℕ} → targets ≡ bands (λ k. mul binary32 active_share (sum_at sums (sections - 1) k))
      → r ≡ bands (λ k. cond (le (get_or targets k nan) (sum_at sums s k)) (get_or active k 0) (s + 1)) → r ≡ least_from sums sections (s + 1)
  unfolding least_reached
  least_more {targets = targets} shares stored =
      stored
      ∙ rw add-one
      (tab-same 65 0 _ _
      (λ k b. rw (band-at nan (λ j. mul binary32 active_share (sum_at sums (sections - 1) j)) targets k shares b, least_at k b)))

  -- all of them
  pub least-all :
      {r : List ℕ} → s ≡ sections → r ≡ bands (λ k. cond (ltb (get_or active k 0) sections) (get_or active k 0) 0)
      → r ≡ bands (λ k. active_section sections (λ t. sum_at sums t k))
  unfolding active_section
  least-all all kept = kept ∙ tab-same 65 0 _ _ (λ k b. rw (least_at k b, all))
