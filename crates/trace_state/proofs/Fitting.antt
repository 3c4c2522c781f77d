-- As many lines as find room.
use mathlib.Core.Path.{◌≡◌, refl, ap}
use mathlib.Core.List.{List, [], ◌∷◌, ◌++◌, map}
use Prim.Native.Nat.{ℕ, ◌+◌, ◌-◌, ◌≤◌, ◌<◌}
use native.Mathlib.Omega.{arith}
use borrow.Author.Tests.{le-leb, lt-leb}
use lib.ListN.{length, length-append}
use Rattle.trace_text.specs.Text.{Item, line, lines}
use Rattle.trace_state.specs.Listing.{fitting}

-- the first items, which all find room, and one that finds none behind them
pub fitting-cut :
    (size : ℕ) (is : List Item) (i : Item) (others : List Item) → length (lines is) ≤ size → size < length (lines is) + length (line i)
    → fitting size (map line (is ++ (i ∷ others))) ≡ lines is
unfolding fitting lines
fitting-cut size [] i others h over = rw (lt-leb (length (line i)) size (omega arith))
fitting-cut size (j ∷ is) i others h over =
    let long = length-append (line j) (lines is) in
    rw (le-leb (length (line j)) size (omega arith))
    (ap (λ (l : List ℕ). line j ++ l) (fitting-cut (size - length (line j)) is i others (omega arith) (omega arith)))

-- all find room
pub fitting-all : (size : ℕ) (is : List Item) → length (lines is) ≤ size → fitting size (map line is) ≡ lines is
unfolding fitting lines
fitting-all size [] h = refl
fitting-all size (j ∷ is) h =
    let long = length-append (line j) (lines is) in
    rw (le-leb (length (line j)) size (omega arith)) (ap (λ (l : List ℕ). line j ++ l) (fitting-all (size - length (line j)) is (omega arith)))
