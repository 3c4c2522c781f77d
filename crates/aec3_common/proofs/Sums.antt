-- A loop that adds up a list in order.
use Rattle.std.proofs.Common.{◌≡◌, ℕ, ◌+◌, ◌<◌, ◌≤◌, List, length, get_or, drop, sym, refl, ap, ◌∙◌, add-one, arith, drop_of_length-le, drop-cons}
use lib.Ieee.{Float, nan, binary32, add}
use Rattle.aec3_common.specs.Binary32.{zero32}
use Rattle.aec3_common.specs.Spectra.{sum_from, sum}

-- what the loop knows at k: with the numbers from k on its total becomes the whole sum
pub record Summed (xs : List Float) (k : ℕ) (total : Float) : Type 0 where
  pub to : k ≤ length xs
  pub rest : sum_from total (drop k xs) ≡ sum xs

pub summed-none : (xs : List Float) → Summed xs 0 zero32
summed-none xs = record { to = omega arith; rest = refl }

pub summed-more :
    {xs : List Float} {k : ℕ} {total : Float}
    → Summed xs k total → k < length xs → Summed xs (k + 1) (add binary32 total (get_or xs k nan))
summed-more {xs = xs} {k = k} {total = total} s h =
    record { to = omega arith; rest = rw add-one (sym (ap (sum_from total) (drop-cons xs k nan h)) ∙ s.rest) }

pub summed-all : {xs : List Float} {k : ℕ} {total : Float} → Summed xs k total → length xs ≤ k → total ≡ sum xs
summed-all {xs = xs} {k = k} {total = total} s h = sym (ap (sum_from total) (drop_of_length-le xs h)) ∙ s.rest
