-- Laws of the definitions that the loops over bands and channels go by.
use mathlib.Core.Path.{◌≡◌, refl, sym, ap, ◌∙◌}
use mathlib.Core.Bool.{Bool, true, false, cond}
use mathlib.Core.List.{List, [], ◌∷◌, map}
use Prim.Native.Nat.{ℕ, zero, suc, ◌+◌, ◌-◌, ◌≤◌, ◌<◌}
use native.Mathlib.Numerals.{add-one}
use native.Mathlib.Omega.{arith}
use borrow.Author.Tests.{ltb-true}
use lib.Dec.{ltb}
use lib.IntN.{ℤ, pos}
use lib.Ieee.{Float, nan}
use lib.ListN.{length, get_or, take, drop, drop_of_length-le}
use lib.Seq.{drop-cons}
use Rattle.aec3_common.specs.Binary32.{energy_threshold, larger}
use Rattle.aec3_common.specs.Lists.{tab}
use Rattle.aec3_common.specs.Spectra.{band_of, inner_band, shown_band, ends_copied, flagged, greatest_from}
use Rattle.aec3_common.proofs.Choices.{and_left, and_right}
use Rattle.aec3_common.proofs.Bands.{ends-are, shown-inner}
use Rattle.aec3_common.proofs.Tables.{tab-is, tab-same, get_or-tab, length-tab}
use Rattle.erl_bands.specs.declared.figure.Figure.{Figure}
use Rattle.erl_bands.specs.Figure.{after_block}
use Rattle.erl_bands.specs.Steps.{new_erl, new_erls, erl_by, hold_by, erls_by, holds_by}
use Rattle.erl_bands.proofs.Steps.{figure-by}
use Rattle.std.specs.Prelude.{Some, None}
use Rattle.erl_estimator.specs.Erl.{band_after, greatest_over, reduced}
use Rattle.erl_estimator.specs.First.{first_from}

-- ---- the walk to the first converged channel

-- at ch none below has stood
pub record Walked (flags : List Bool) (ch : ℕ) : Type 0 where
  pub to : ch ≤ length flags
  pub rest : first_from 0 flags ≡ first_from ch (drop ch flags)

module _ {flags : List Bool} {ch : ℕ} (w : Walked flags ch) where
  -- what the walk sees at ch
  seen : ch < length flags → first_from 0 flags ≡ cond (get_or flags ch false) (Some ch) (first_from (suc ch) (drop (suc ch) flags))
  unfolding first_from
  seen h = w.rest ∙ ap (first_from ch) (drop-cons flags ch false h)

  pub walked_more : ch < length flags → get_or flags ch false ≡ false → Walked flags (ch + 1)
  walked_more h e = record { to = omega arith; rest = rw add-one (seen h ∙ simp e) }

  pub walked_to : ch < length flags → get_or flags ch false ≡ true → Some ch ≡ first_from 0 flags
  walked_to h e = sym (seen h ∙ simp e)

  pub walked-past : length flags ≤ ch → None ≡ first_from 0 flags
  unfolding first_from
  walked-past h = sym (w.rest ∙ ap (first_from ch) (drop_of_length-le flags h))

-- ---- the channels from the first converged one on

-- the first channel that stands is so many after ch, and the others that stand come behind it
record FirstOf (ch : ℕ) (flags : List Bool) (first : ℕ) : Type 0 where
  pub after : ℕ
  pub is : first ≡ ch + after
  pub below : after < length flags
  pub all : flagged ch flags ≡ first ∷ flagged (suc first) (drop (suc after) flags)

first_of : (ch : ℕ) (flags : List Bool) (first : ℕ) → first_from ch flags ≡ Some first → FirstOf ch flags first
unfolding first_from flagged
first_of ch [] first e = absurd cc
first_of ch (true ∷ flags) first e =
    let same : first ≡ ch = cc in
    record {
      after = 0;
      is = omega arith;
      below = omega arith;
      all = ap (λ (f : ℕ). f ∷ flagged (suc f) flags) (sym same);
    }
first_of ch (false ∷ flags) first e =
    let r = first_of (suc ch) flags first e in
    record {
      after = suc r.after;
      is = omega (arith, r.is);
      below = omega (arith, r.below);
      all = r.all;
    }

none_of : (ch : ℕ) (flags : List Bool) → first_from ch flags ≡ None → flagged ch flags ≡ []
unfolding first_from flagged
none_of ch [] e = refl
none_of ch (true ∷ flags) e = absurd cc
none_of ch (false ∷ flags) e = none_of (suc ch) flags e

pub no-channel : (flags : List Bool) → first_from 0 flags ≡ None → flagged 0 flags ≡ []
no-channel flags e = none_of 0 flags e

module _ (flags : List Bool) (first : ℕ) (e : first_from 0 flags ≡ Some first) where
  pub first_below : first < length flags
  first_below = let r = first_of 0 flags first e in omega (arith, r.is, r.below)

  pub from_first : flagged 0 flags ≡ first ∷ flagged (suc first) (drop (suc first) flags)
  from_first =
      let r = first_of 0 flags first e in
      let same : r.after ≡ first = omega (arith, r.is) in
      r.all ∙ ap (λ (n : ℕ). first ∷ flagged (suc first) (drop (suc n) flags)) same

-- ---- the greatest over channels

-- r has been raised by the channels before ch that stand: with those from ch on it becomes the greatest over all
pub record Raised (spectra : List Float) (flags : List Bool) (first : ℕ) (r : List Float) (ch : ℕ) : Type 0 where
  pub to : ch ≤ length flags
  pub long : length r ≡ 65
  pub rest :
      (k : ℕ) → k < 65
      → greatest_from (get_or r k nan) (map (λ c. band_of spectra c k) (flagged ch (drop ch flags)))
      ≡ greatest_over spectra (first ∷ flagged (suc first) (drop (suc first) flags)) k

module _ {spectra : List Float} {flags : List Bool} {first : ℕ} {r : List Float} {ch : ℕ} (s : Raised spectra flags first r ch) where
  -- what is left from ch on, by the flag there
  left :
      (t : Bool) → get_or flags ch false ≡ t → ch < length flags
      → flagged ch (drop ch flags) ≡ cond t (ch ∷ flagged (suc ch) (drop (suc ch) flags)) (flagged (suc ch) (drop (suc ch) flags))
  unfolding flagged
  left t e h = ap (flagged ch) (drop-cons flags ch false h) ∙ simp e

  -- the greatest over them and r, by the flag there
  left-at :
      (t : Bool) → get_or flags ch false ≡ t → ch < length flags → (k : ℕ) → k < 65
      → greatest_from (get_or r k nan) (map (λ c. band_of spectra c k) (cond t (ch ∷ flagged (suc ch) (drop (suc ch) flags)) (flagged (suc ch) (drop (suc ch) flags))))
      ≡ greatest_over spectra (first ∷ flagged (suc first) (drop (suc first) flags)) k
  left-at t e h k b =
      sym (ap (λ (l : List ℕ). greatest_from (get_or r k nan) (map (λ c. band_of spectra c k) l)) (left t e h)) ∙ s.rest k b

  pub raised-more :
      {r' : List Float} → ch < length flags → get_or flags ch false ≡ true
      → r' ≡ tab 65 (λ k. larger (get_or r k nan) (band_of spectra ch k)) → Raised spectra flags first r' (ch + 1)
  unfolding greatest_from
  raised-more {r' = r'} h e same =
      record {
        to = omega arith;
        long = rw same (length-tab 65 (λ k. larger (get_or r k nan) (band_of spectra ch k)));
        rest = λ k b.
            rw (same, add-one, get_or-tab 65 (λ j. larger (get_or r j nan) (band_of spectra ch j)) k nan b) (left-at true e h k b);
      }

  pub raised-same : {r' : List Float} → ch < length flags → get_or flags ch false ≡ false → r' ≡ r → Raised spectra flags first r' (ch + 1)
  raised-same {r' = r'} h e same =
      record { to = omega arith; long = rw same s.long; rest = λ k b. rw (same, add-one) (left-at false e h k b) }

  pub raised_all :
      length flags ≤ ch → r ≡ reduced spectra (first ∷ flagged (suc first) (drop (suc first) flags))
  unfolding reduced greatest_from flagged
  raised_all h =
      tab-is 65 nan (greatest_over spectra (first ∷ flagged (suc first) (drop (suc first) flags))) r s.long
      (λ k b.
      sym (ap (λ (l : List Bool). greatest_from (get_or r k nan) (map (λ c. band_of spectra c k) (flagged ch l))) (drop_of_length-le flags h))
      ∙ s.rest k b)

-- one or two channels, all flagged
pub all-stand :
    (n : ℕ) → 0 < n → n ≤ 2
    → 0 ∷ flagged 1 (drop 1 (take n (true ∷ true ∷ []))) ≡ tab n (λ ch. ch)
unfolding flagged tab
all-stand zero some few = absurd (omega arith)
all-stand (suc zero) some few = refl
all-stand (suc (suc zero)) some few = refl
all-stand (suc (suc (suc n))) some few = absurd (omega arith)

-- ---- the figures of all bands

-- bands 0 and 64 copy 1 and 63, whatever they were
ends-of-inner :
    (f g : ℕ → Float) → ends_copied (tab 65 (λ k. cond (inner_band k) (f k) (g k))) ≡ tab 65 (λ k. f (shown_band k))
ends-of-inner f g =
    let h : ℕ → Float = λ k. cond (inner_band k) (f k) (g k) in
    ends-are (tab 65 h) f (length-tab 65 h) (λ k b e. get_or-tab 65 h k nan b ∙ simp e)

-- a shown band is one of 1 to 63
shown-some : (k : ℕ) → k < 65 → 0 < shown_band k
shown-some k b = ltb-true 0 (shown_band k) (and_left (ltb 0 (shown_band k)) (ltb (shown_band k) 64) (shown-inner k b))

shown-few : (k : ℕ) → k < 65 → shown_band k < 64
shown-few k b = ltb-true (shown_band k) 64 (and_right (ltb 0 (shown_band k)) (ltb (shown_band k) 64) (shown-inner k b))

module _ (render capture erl : List Float) (holds : List ℤ) where
  new-at : (k : ℕ) → k < 65 → get_or (new_erls render capture) k nan ≡ new_erl (get_or render k nan) (get_or capture k nan)
  unfolding new_erls
  new-at k b = get_or-tab 65 (λ j. new_erl (get_or render j nan) (get_or capture j nan)) k nan b

  -- the hold of band k + 1
  hold_at :
      (k : ℕ) → k < 63
      → hold_by (get_or (new_erls render capture) (suc k) nan) (get_or erl (suc k) nan) (get_or holds k (pos 0))
      ≡ (band_after render capture erl holds (suc k)).hold
  unfolding band_after
  hold_at k b =
      let back : k ≡ suc k - 1 = omega arith in
      rw (new-at (suc k) (omega arith))
      (ap (λ (f : Figure). f.hold) (figure-by (get_or render (suc k) nan) (get_or capture (suc k) nan) (get_or erl (suc k) nan) (get_or holds k (pos 0)))
      ∙ ap (λ (j : ℕ). (after_block energy_threshold (get_or render (suc k) nan) (get_or capture (suc k) nan) (record { erl = get_or erl (suc k) nan; hold = get_or holds j (pos 0) })).hold) back)

  pub holds_after : holds_by (new_erls render capture) erl holds ≡ tab 63 (λ k. (band_after render capture erl holds (suc k)).hold)
  unfolding holds_by
  holds_after = tab-same 63 (pos 0) _ _ hold_at

  -- the ERL of an inner band
  erl-at :
      (k : ℕ) → 0 < k → k < 64
      → erl_by (get_or (new_erls render capture) k nan) (get_or erl k nan) (get_or (holds_by (new_erls render capture) erl holds) (k - 1) (pos 0))
      ≡ (band_after render capture erl holds k).erl
  unfolding band_after holds_by
  erl-at k some few =
      let up : suc (k - 1) ≡ k = omega arith in
      let h = get_or-tab 63 (λ j. hold_by (get_or (new_erls render capture) (suc j) nan) (get_or erl (suc j) nan) (get_or holds j (pos 0))) (k - 1) (pos 0) (omega arith) in
      rw (h, up, new-at k (omega arith))
      (ap (λ (f : Figure). f.erl) (figure-by (get_or render k nan) (get_or capture k nan) (get_or erl k nan) (get_or holds (k - 1) (pos 0))))

  pub erls-after :
      ends_copied (erls_by (new_erls render capture) erl (holds_by (new_erls render capture) erl holds))
      ≡ tab 65 (λ k. (band_after render capture erl holds (shown_band k)).erl)
  unfolding erls_by
  erls-after =
      ends-of-inner _ _
      ∙ tab-same 65 nan _ _ (λ k b. erl-at (shown_band k) (shown-some k b) (shown-few k b))
