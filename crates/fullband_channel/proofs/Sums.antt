-- Two lists added up in one walk.
use Rattle.std.proofs.Common.{◌≡◌, List, [], ◌∷◌, length, refl, arith}
use Rattle.std.specs.List.{fold, zip}
use lib.Ieee.{Float, binary32, add}
use Rattle.aec3_common.specs.Spectra.{sum_from}
use Rattle.fullband_channel.specs.declared.instantaneous.PowerSums.{PowerSums}

-- a point with one number more of each
abbrev pub with_both : PowerSums → Float × Float → PowerSums
with_both sums both = record { y2 = add binary32 sums.y2 both.0; e2 = add binary32 sums.e2 both.1 }

pub both-sums :
    (sums : PowerSums) (xs ys : List Float) → length xs ≡ length ys
    → fold with_both sums (zip xs ys) ≡ record { y2 = sum_from sums.y2 xs; e2 = sum_from sums.e2 ys }
both-sums sums [] [] same = refl
both-sums sums [] (y ∷ ys) same = absurd (omega arith)
both-sums sums (x ∷ xs) [] same = absurd (omega arith)
both-sums sums (x ∷ xs) (y ∷ ys) same = both-sums (with_both sums (x, y)) xs ys (omega arith)
