-- The lines of a listing, in ASCII.
use Rattle.std.specs.Prelude.{ℕ, List, [], ◌∷◌, ◌++◌, Float}
use Rattle.std.specs.Float.{binary32}
use Rattle.std.specs.Float.Ieee.{to_bits}
use Rattle.encoding.specs.Text.{ascii, decimal, hex8}

-- What a line says: a channel's figures after a block, with the block's number, the channel, and the plain, compensated and uncapped
-- figure; or that a record is refused, with the refusal's number and the record's number in the trace.
pub data Item : Type 0 where
  row : (block channel : ℕ) (plain compensated uncapped : Float) → Item
  refused : (number record_number : ℕ) → Item

-- a figure: its bits as eight capital hexadecimal digits
unfoldable pub figure : Float → List ℕ
figure x = hex8 (to_bits binary32 x)

-- fields with one space between two
unfoldable pub spaced : List (List ℕ) → List ℕ
spaced [] = []
spaced (f ∷ []) = f
spaced (f ∷ g ∷ fs) = f ++ (32 ∷ spaced (g ∷ fs))

-- a line of fields, which a line feed ends
unfoldable pub line_of : List (List ℕ) → List ℕ
line_of fields = spaced fields ++ (10 ∷ [])

-- the first line of a listing
unfoldable pub header : List ℕ
header = line_of (ascii "block" ∷ ascii "channel" ∷ ascii "plain" ∷ ascii "compensated" ∷ ascii "uncapped" ∷ [])

-- the line of an item
unfoldable pub line : Item → List ℕ
line (row block channel plain compensated uncapped) =
    line_of (decimal block ∷ decimal channel ∷ figure plain ∷ figure compensated ∷ figure uncapped ∷ [])
line (refused number record_number) = line_of (ascii "refused" ∷ decimal number ∷ ascii "at" ∷ decimal record_number ∷ [])

-- the lines of items, one after the other
unfoldable pub lines : List Item → List ℕ
lines [] = []
lines (i ∷ is) = line i ++ lines is
