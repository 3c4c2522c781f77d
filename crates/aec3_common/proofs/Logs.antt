-- Log2 of any binary32 number is a multiple of 2^-35, and at most 512 in size.
use Rattle.std.proofs.Common.{◌≡◌, ℕ, ◌*◌, ◌^◌, true, false, T, negsuc, refl, ap, ◌∙◌, le_of_lt, mul-le-mul_right, mul_assoc, mul-pos, lit≤, pow_pos}
use mathlib.Core.Bool.{false≢true}
use lib.Ieee.{Float, binary32, up, down, round, mul, to_bits, of_int, fits}
use lib.Ieee.Bits.{to_bits-lt}
use lib.Ieee.Fits.{down_pos}
use lib.Ieee.Scale.{round_same}
use Rattle.aec3_common.specs.Log2.{over, approx_log2}
use Rattle.aec3_common.proofs.Grid.{held-power, Multiple, multiple, Sized, rounded, finer, sub-multiples}
use Rattle.aec3_common.proofs.Sizes.{sum-sized}

-- a whole number times 2^-23
scaled : {r : ℕ} {y : Float} → Multiple 0 false r y → mul binary32 y (over 1 23) ≡ round binary32 false r (2 ^ 23)
unfolding mul
scaled {r = r} (multiple m e h) =
    round_same binary32 false (m * up e * 1) (down e * 2 ^ 23) r (2 ^ 23) (mul-pos (down_pos e) (pow_pos 23)) (pow_pos 23)
    (ap (λ (z : ℕ). z * 2 ^ 23) h ∙ mul_assoc r (down e) (2 ^ 23))

-- log2 of what binary32 holds, whatever it is
pub log2-sized : (x : Float) → T (fits binary32 x) → Sized 35 (2 ^ 44) (approx_log2 x)
unfolding approx_log2 of_int
log2-sized x held =
    let bits = rounded 0 149 (2 ^ 32) refl (held-power 181 (lit≤ tt)) false (to_bits binary32 x) (le_of_lt (to_bits-lt binary32 x held)) in
    let shifted = rounded 23 126 (2 ^ 32) refl (held-power 158 (lit≤ tt)) false bits.size bits.most in
    let less : Multiple 35 false (16638633 * 2 ^ 18) (over 16638633 17) = multiple 16638633 (negsuc 16) refl in
    rw (scaled bits.is, sub-multiples 35 (finer 23 12 shifted.is) less)
    (sum-sized 35 114 (2 ^ 44) refl (held-power 158 (lit≤ tt)) false true (shifted.size * 2 ^ 12) (16638633 * 2 ^ 18)
    (mul-le-mul_right (2 ^ 12) shifted.most) (lit≤ tt) (λ e. absurd (false≢true e)))
