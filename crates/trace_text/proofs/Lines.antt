-- Lines after lines, and how long a line is.
use mathlib.Core.Path.{◌≡◌, refl}
use mathlib.Core.List.{List, [], ◌∷◌, ◌++◌, append_assoc, append-nil}
use Prim.Native.Nat.{◌≤◌}
use native.Mathlib.Omega.{arith}
use lib.Ieee.{Float, binary32, to_bits}
use lib.ListN.{length, length-append}
use Rattle.encoding.proofs.Digits.{length-decimal, length-hex8}
use Rattle.trace_text.specs.Text.{Item, row, refused, figure, spaced, line_of, line, lines}

pub length-figure : (x : Float) → length (figure x) ≡ 8
unfolding figure
length-figure x = length-hex8 (to_bits binary32 x)

pub lines-append : (a b : List Item) → lines (a ++ b) ≡ lines a ++ lines b
unfolding lines
lines-append [] b = refl
lines-append (i ∷ a) b = rw (lines-append a b, append_assoc)

pub lines-one : (i : Item) → lines (i ∷ []) ≡ line i
unfolding lines
lines-one i = append-nil (line i)

-- no line has more than 49 bytes
pub line-short : (i : Item) → length (line i) ≤ 49
unfolding line line_of spaced
line-short (row block channel plain compensated uncapped) =
    simp length-append (omega (arith, length-decimal block, length-decimal channel, length-figure plain, length-figure compensated, length-figure uncapped))
line-short (refused number record_number) = simp length-append (omega (arith, length-decimal number, length-decimal record_number))

-- and each has its line feed at least
pub line-some : (i : Item) → 1 ≤ length (line i)
unfolding line line_of
line-some (row block channel plain compensated uncapped) = simp length-append (omega arith)
line-some (refused number record_number) = simp length-append (omega arith)
