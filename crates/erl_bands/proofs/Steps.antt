-- One band by its new ERL, and what stands beside the inner bands.
use mathlib.Core.Path.{◌≡◌, refl, ap}
use mathlib.Core.Bool.{Bool, true, false, cond}
use mathlib.Core.List.{List}
use Prim.Native.Nat.{ℕ}
use lib.IntN.{ℤ}
use lib.Ieee.{Float, nan, inf, fin, binary32, of_bits, div, lt}
use lib.ListN.{get_or}
use Rattle.std.specs.Array.{IsFromFnResult}
use denote.Param.Members.{Mut, Called}
use Rattle.aec3_common.specs.Binary32.{zero32, one32, energy_threshold}
use Rattle.aec3_common.specs.Lists.{tab}
use Rattle.aec3_common.specs.Spectra.{inner_band}
use Rattle.aec3_common.proofs.Changes.{made-all}
use Rattle.aec3_common.proofs.Tables.{tab-same, get_or-tab}
use Rattle.erl_bands.specs.declared.figure.Figure.{Figure}
use Rattle.erl_bands.specs.Figure.{learnt_erl, learnt_hold, learnt, rested, after_block}
use Rattle.erl_bands.specs.Steps.{new_erl, erl_by, hold_by}

-- plus infinity is below nothing
never-below : (x : Float) → lt (inf false) x ≡ false
unfolding lt
never-below nan = refl
never-below (inf s) = refl
never-below (fin s m e) = refl

-- so an infinite new ERL teaches nothing
taught_none : (x : Float) → lt (div binary32 one32 zero32) x ≡ false
unfolding div of_bits
taught_none x = never-below x

-- a band's figure after the block, by its new ERL
abbrev pub figure_by : Float → Float → ℤ → Figure
figure_by new erl hold = record { erl = erl_by new erl (hold_by new erl hold); hold = hold_by new erl hold }

pub figure-by :
    (render capture erl : Float) (hold : ℤ)
    → figure_by (new_erl render capture) erl hold ≡ after_block energy_threshold render capture (record { erl = erl; hold = hold })
unfolding erl_by hold_by new_erl after_block rested learnt learnt_erl learnt_hold
figure-by render capture erl hold = go (lt energy_threshold render) refl (lt (div binary32 capture render) erl) refl
  where
    go :
        (t : Bool) → lt energy_threshold render ≡ t → (u : Bool) → lt (div binary32 capture render) erl ≡ u
        → figure_by (new_erl render capture) erl hold ≡ after_block energy_threshold render capture (record { erl = erl; hold = hold })
    go true e true f = simp (e, f)
    go true e false f = simp (e, f)
    go false e u f = simp (e, taught_none erl)

-- what stands beside the inner bands is one value
pub beside_same :
    (f : ℕ → Float) (v : Float)
    → tab 65 (λ k. cond (inner_band k) (f k) (get_or (tab 65 (λ j. v)) k nan)) ≡ tab 65 (λ k. cond (inner_band k) (f k) v)
beside_same f v = tab-same 65 nan _ _ (λ k b. ap (λ (x : Float). cond (inner_band k) (f k) x) (get_or-tab 65 (λ j. v) k nan b))

-- a table that `array::from_fn` makes; the clause comes first, so that the calls are known where what they give is looked for
pub made_by :
    {F T : Type 0} {g : Mut F (ℕ × Unit {0}) T} {f : F} {n : ℕ} {ys : List T} (d : T) (made : ℕ → T)
    → IsFromFnResult g f ys n → ((k : ℕ) (y : T) (q : F) → Called g f (k, tt) y q → (q ≡ f) × (y ≡ made k)) → ys ≡ tab n made
made_by {g = g} {f = f} {n = n} {ys = ys} d made r told = made-all g f made told n ys d r
