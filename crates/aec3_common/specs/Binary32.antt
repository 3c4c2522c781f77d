-- binary32 numbers: constants, and the operations that every estimator shares, each rounded once.
use Rattle.std.specs.Prelude.{Bool, true, false, cond, ◌&&◌, List, from_bits, Float}
use Rattle.std.specs.Float.{nan, inf, fin, binary32}
use Rattle.std.specs.Float.Ieee.{add, sub, mul, lt, le}
use Rattle.std.specs.List.{list_all}

-- plus zero
abbrev pub zero32 : Float
zero32 = from_bits binary32 0

-- 1
abbrev pub one32 : Float
one32 = from_bits binary32 0x3f80_0000

-- T: 44,015,068
abbrev pub energy_threshold : Float
energy_threshold = from_bits binary32 0x4c27_e777

-- T times 65, rounded to 2,860,979,456: the threshold of a sum over all bands
abbrev pub sum_threshold : Float
sum_threshold = from_bits binary32 0x4f2a_8715

-- 2^100, the greatest spectrum or response value
abbrev pub greatest_value : Float
greatest_value = from_bits binary32 0x7180_0000

-- 2^110, the greatest held sum
abbrev pub greatest_sum : Float
greatest_sum = from_bits binary32 0x7680_0000

-- x, or the end of lo to hi that it lies beyond; a NaN stays. For lo ≤ hi this is Rust's f32::clamp.
unfoldable pub clamped : Float → Float → Float → Float
clamped x lo hi = cond (lt x lo) lo (cond (lt hi x) hi x)

-- the larger of two; the first unless the second is above it, so a NaN that stands first stays
unfoldable pub larger : Float → Float → Float
larger a b = cond (lt a b) b a

-- the smaller of two; the first unless the second is below it, so a NaN that stands first stays
unfoldable pub smaller : Float → Float → Float
smaller a b = cond (lt b a) b a

-- old moves towards new by a share of the difference
unfoldable pub moved : Float → Float → Float → Float
moved old new share = add binary32 old (mul binary32 share (sub binary32 new old))

-- neither a NaN nor an infinity
abbrev pub is_finite : Float → Bool
is_finite nan = false
is_finite (inf s) = false
is_finite (fin s m e) = true

-- a number, not below lo nor above hi, which are numbers; a NaN fails
abbrev pub number_from : Float → Float → Float → Bool
number_from lo hi x = le lo x && le x hi

-- a number from 0 to hi: negative zero passes, a NaN does not
abbrev pub within : Float → Float → Bool
within hi x = number_from zero32 hi x

-- number 6: every spectrum or response value lies in 0 to 2^100
abbrev pub values_ok : List Float → Bool
values_ok xs = list_all (within greatest_value) xs

-- every held sum lies in 0 to 2^110
abbrev pub sums_ok : List Float → Bool
sums_ok xs = list_all (within greatest_sum) xs
