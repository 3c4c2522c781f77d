use Rattle.std.proofs.Common.{◌≡◌, ◌∙◌, ap, sym, ℕ, ◌+◌, ◌<◌, ◌≤◌, Bool, true, false, nat_le, refl, arith}
use borrow.Author.Tests.{leb-true, leb-false}
use Rattle.filter_sections.specs.Subbands.{subband_begin, subband_bands}
use Rattle.filter_sections.proofs.Claims.{subbands-over}
use Rattle.filter_sections.proofs.subbands.subband_bands.Goals as goal

-- where there is no such subband, there is none after it either
next : (subband n : ℕ) → (subband < 6 → n ≡ subband + 1) → (6 ≤ subband → 6 ≤ n) → subband_begin n ≡ subband_begin (subband + 1)
next subband n near far = go (nat_le 6 subband) (leb-true 6 subband) (leb-false 6 subband)
  where
    go : (t : Bool) → (t ≡ true → 6 ≤ subband) → (t ≡ false → subband < 6) → subband_begin n ≡ subband_begin (subband + 1)
    go true f g =
        let behind = f refl in subbands-over n (far behind) ∙ sym (subbands-over (subband + 1) (omega (arith, behind)))
    go false f g = ap subband_begin (near (g refl))

pub returns : goal.returns
unfolding subband_bands
returns c =
    simp (c.subband_begin.ensures, c.subband_begin-2.ensures, next c.args.subband c.saturating_add.result (λ h. omega arith) (λ h. omega arith))
