-- Spectra of several channels in one list, channel by channel, 65 bands each.
use Rattle.std.specs.Prelude.{ℕ, suc, ◌*◌, Bool, cond, ◌&&◌, List, [], ◌∷◌, length, get_or, take, drop, ◌==◌, nat_lt, slice_index_or, fold, Float}
use Rattle.std.specs.Float.{nan, binary32}
use Rattle.std.specs.Float.Ieee.{add}
use Rattle.aec3_common.specs.Lists.{tab}
use Rattle.aec3_common.specs.Binary32.{zero32, larger}

-- a channel's 65 numbers: a part of the list that begins in the middle
unfoldable pub part : List Float → ℕ → List Float
part spectra ch = take 65 (drop (ch * 65) spectra)

-- a channel's number in a band
abbrev pub band_of : List Float → ℕ → ℕ → Float
band_of spectra ch k = slice_index_or (part spectra ch) k nan

-- bands 1 to 63
abbrev pub inner_band : ℕ → Bool
inner_band k = nat_lt 0 k && nat_lt k 64

-- the band whose figure a band shows: its own, but bands 0 and 64 copy 1 and 63
abbrev pub shown_band : ℕ → ℕ
shown_band k = cond (k == 0) 1 (cond (k == 64) 63 k)

-- a spectrum with bands 0 and 64 overwritten by 1 and 63
unfoldable pub ends_copied : List Float → List Float
ends_copied s = tab (length s) (λ k. get_or s (shown_band k) nan)

-- the channels whose flag is set, counted from ch on
unfoldable pub flagged : ℕ → List Bool → List ℕ
flagged ch [] = []
flagged ch (flag ∷ flags) = cond flag (ch ∷ flagged (suc ch) flags) (flagged (suc ch) flags)

-- the numbers added up in order, each sum rounded
abbrev pub sum_from : Float → List Float → Float
sum_from from xs = fold (add binary32) from xs

-- beginning at plus zero
abbrev pub sum : List Float → Float
sum xs = sum_from zero32 xs

-- the greatest of a number and those after it; an earlier one stays unless a later one is above it
unfoldable pub greatest_from : Float → List Float → Float
greatest_from x [] = x
greatest_from x (y ∷ ys) = greatest_from (larger x y) ys
