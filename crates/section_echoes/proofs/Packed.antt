-- Responses packed channel by channel: where each channel's begin and end.
use mathlib.Core.Path.{◌≡◌}
use mathlib.Core.Bool.{true}
use mathlib.Core.List.{List, [], ◌∷◌}
use Prim.Native.Nat.{ℕ, zero, suc, ◌+◌, ◌*◌, ◌≤◌, ◌<◌}
use native.Mathlib.Nat.{le_of_suc-le-suc, not-suc-le-zero}
use native.Mathlib.Numerals.{add-one}
use native.Mathlib.Omega.{arith}
use borrow.Author.Tests.{leb-true, le-leb}
use lib.Dec.{leb}
use lib.Ieee.{Float}
use lib.ListN.{length, get_or, take}
use Rattle.std.specs.List.{list_all}
use Rattle.aec3_common.proofs.Every.{list_all-at, list_all-by}
use Rattle.section_echoes.specs.Packed.{total}

-- one channel more
total-on : (counts : List ℕ) (ch : ℕ) → ch < length counts → total (take (suc ch) counts) ≡ total (take ch counts) + get_or counts ch 0
unfolding total
total-on [] ch h = absurd (not-suc-le-zero h)
total-on (n ∷ ns) zero h = omega arith
total-on (n ∷ ns) (suc ch) h = omega (arith, total-on ns ch (le_of_suc-le-suc h))

pub total-more : (counts : List ℕ) (ch : ℕ) → ch < length counts → total (take (ch + 1) counts) ≡ total (take ch counts) + get_or counts ch 0
total-more counts ch h = rw add-one (total-on counts ch h)

-- some channels have no more blocks than all
pub total-part : (counts : List ℕ) (n : ℕ) → total (take n counts) ≤ total counts
unfolding total
total-part counts zero = omega arith
total-part [] (suc n) = omega arith
total-part (m ∷ ms) (suc n) = omega (arith, total-part ms n)

-- a lower limit keeps a higher one
pub each-at-most : (most more : ℕ) (counts : List ℕ) → most ≤ more → list_all (λ n. leb n most) counts ≡ true → list_all (λ n. leb n more) counts ≡ true
each-at-most most more counts up ok =
    list_all-by (λ n. leb n more) counts 0
    (λ k h. le-leb (get_or counts k 0) more (omega (arith, leb-true (get_or counts k 0) most (list_all-at (λ n. leb n most) counts 0 k ok h))))

-- a channel's responses end within the whole
pub packed-end :
    (counts : List ℕ) (responses : List Float) (ch : ℕ) → length responses ≡ total counts * 65 → ch < length counts
    → total (take ch counts) * 65 + get_or counts ch 0 * 65 ≤ length responses
packed-end counts responses ch long h = omega (arith, long, total-more counts ch h, total-part counts (ch + 1))
