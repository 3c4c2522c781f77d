-- Signed numbers of 32 bits: what is read back, and a hold that falls.
use Rattle.std.proofs.Common.{◌≡◌, zero, suc, ◌^◌, ◌<◌, true, false, ℤ, pos, negsuc, ◌-ℤ◌, sym, refl, ap, ◌∙◌, arith, to_z-of_z, w32, SFits, to_z, of_z, le-ltb, leb-false}
use lib.Dec.{eqb-suc-zero}
use lib.Signed.{mag, le_z}
use Rattle.aec3_common.specs.Counts.{is_zero}

-- a number in range is read back as it was, as a call's `.ok` or an array's element gives its range
pub read_back : (z : ℤ) → mag z < 2 ^ 31 → to_z w32 (of_z w32 z) ≡ z
read_back z h = to_z-of_z {w = w32} {z = z} (record { sfits = h })

mag_less : (z : ℤ) → mag z < 2 ^ 31 → le_z z (negsuc 2147483647) ≡ false → mag (z -ℤ pos 1) < 2 ^ 31
mag_less (pos zero) h e = omega arith
mag_less (pos (suc n)) h e = simp (le-ltb (suc n) 1 (omega arith)) (omega arith)
mag_less (negsuc n) h e = omega (arith, leb-false 2147483647 n e)

-- one less fits, unless the number is the least
pub less-fits : {z : ℤ} → SFits w32 z → le_z (to_z w32 (of_z w32 z)) (negsuc 2147483647) ≡ false → SFits w32 (to_z w32 (of_z w32 z) -ℤ pos 1)
less-fits {z = z} f e =
    let back = to_z-of_z f in
    record { sfits = simp back (mag_less z f.sfits (simp back at e)) }

-- the word of a hold is 0 where the hold is exactly 0
pub word-zero : (z : ℤ) → mag z < 2 ^ 31 → of_z w32 z ≡ 0 → is_zero z ≡ true
word-zero z h e = ap is_zero (sym (read_back z h) ∙ ap (to_z w32) e)

pub word-not-zero : (z : ℤ) → (of_z w32 z ≡ 0 → ⊥) → is_zero z ≡ false
word-not-zero (pos zero) e = absurd (e refl)
word-not-zero (pos (suc n)) e = eqb-suc-zero n
word-not-zero (negsuc n) e = refl
