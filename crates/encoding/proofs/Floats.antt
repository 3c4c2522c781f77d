-- Which patterns of 32 bits are a NaN's, and which numbers differ from themselves.
use mathlib.Core.Path.{◌≡◌, refl, sym, ◌∙◌, subst}
use mathlib.Core.Bool.{Bool, true, false, not, false≢true}
use Prim.Native.Nat.{ℕ, ◌%◌, ◌≤◌, ◌<◌}
use lib.Dec.{T}
use lib.Ieee.{Float, nan, inf, fin, binary32, of_bits, to_bits, is_nan, nan_bits}
use lib.Ieee.Bits.{nan_bits_is, nan_bits_above}
use borrow.Author.Tests.{lt-ltb, le-ltb}

fails : {t : Bool} → t ≡ false → T (not t)
fails e = subst (λ (t : Bool). T (not t)) (sym e) tt

-- up to infinity's bits no pattern is a NaN's
pub number-bits : (n : ℕ) → n % 0x8000_0000 ≤ 0x7f80_0000 → T (not (nan_bits binary32 n))
number-bits n h = fails (nan_bits_above binary32 n ∙ le-ltb _ _ h)

is-nan : (x : Float) → is_nan x ≡ true → x ≡ nan
unfolding is_nan
is-nan nan e = refl
is-nan (inf s) e = absurd (false≢true e)
is-nan (fin s m z) e = absurd (false≢true e)

-- and above them each is
pub nan-bits : (n : ℕ) → 0x7f80_0000 < n % 0x8000_0000 → nan ≡ of_bits binary32 n
nan-bits n h = sym (is-nan (of_bits binary32 n) (sym (nan_bits_is binary32 n) ∙ nan_bits_above binary32 n ∙ lt-ltb _ _ h))

-- the bits of each are the same
pub bits-nan : (x : Float) → is_nan x ≡ true → 0x7fc0_0000 ≡ to_bits binary32 x
unfolding to_bits
bits-nan x e = rw (is-nan x e)
