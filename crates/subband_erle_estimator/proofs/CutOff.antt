-- A list of calls is cut before its last n accepted ones.
use mathlib.Core.Path.{◌≡◌, refl, sym, ap}
use mathlib.Core.Logic.{◌⊎◌, inl, inr}
use mathlib.Core.Bool.{Bool, true, false, cond}
use mathlib.Core.List.{List, [], ◌∷◌, ◌++◌}
use Prim.Native.Nat.{ℕ, ◌≤◌, ◌<◌}
use native.Mathlib.Nat.{eq-or-lt_of_le}
use native.Mathlib.Omega.{arith}
use lib.Dec.{eqb}
use lib.ListN.{length}
use Rattle.aec3_common.specs.Calls.{Call, run_by}
use Rattle.aec3_common.specs.Refusal.{accepted}
use Rattle.subband_erle_estimator.specs.declared.SubbandErleEstimator.{SubbandErleEstimator}
use Rattle.subband_erle_estimator.specs.Resting.{answer, run, accepted_of, CutOff, LastCallsCutOff}

-- a call before a list that is cut
one_earlier : (n : ℕ) (s : SubbandErleEstimator) (c : Call) (cs : List Call) → CutOff n (answer s c).state cs → CutOff n s (c ∷ cs)
unfolding accepted_of run run_by
one_earlier n s c cs cut =
    record {
      earlier = c ∷ cut.earlier;
      later = cut.later;
      whole = ap (λ (z : List Call). c ∷ z) cut.whole;
      many = cut.many;
      last = go (eqb (answer s c).refused accepted);
    }
  where
    next : SubbandErleEstimator
    next = (answer s c).state

    go :
        (t : Bool)
        → cond t (c ∷ accepted_of next cut.earlier) (accepted_of next cut.earlier) ++ accepted_of (run next cut.earlier) cut.later
        ≡ cond t (c ∷ accepted_of next cs) (accepted_of next cs)
    go true = ap (λ (z : List Call). c ∷ z) cut.last
    go false = cut.last

-- a list all of whose accepted calls are wanted
all-later : (n : ℕ) (s : SubbandErleEstimator) (calls : List Call) → n ≡ length (accepted_of s calls) → CutOff n s calls
unfolding run run_by accepted_of
all-later n s calls e = record { earlier = []; later = calls; whole = refl; many = sym e; last = refl }

-- one call more is accepted at most
at-most-one-more : (t : Bool) (c : Call) (cs : List Call) (n : ℕ) → n < length (cond t (c ∷ cs) cs) → n ≤ length cs
at-most-one-more true c cs n h = omega arith
at-most-one-more false c cs n h = omega arith

cut : (calls : List Call) (n : ℕ) (s : SubbandErleEstimator) → n ≤ length (accepted_of s calls) → CutOff n s calls
unfolding accepted_of
cut [] n s few = all-later n s [] (omega arith)
cut (c ∷ cs) n s few = go (eq-or-lt_of_le few) (λ enough. one_earlier n s c cs (cut cs n (answer s c).state enough))
  where
    next : SubbandErleEstimator
    next = (answer s c).state

    go :
        (n ≡ length (accepted_of s (c ∷ cs))) ⊎ (n < length (accepted_of s (c ∷ cs)))
        → (n ≤ length (accepted_of next cs) → CutOff n s (c ∷ cs)) → CutOff n s (c ∷ cs)
    go (inl e) earlier = all-later n s (c ∷ cs) e
    go (inr h) earlier = earlier (at-most-one-more (eqb (answer s c).refused accepted) c (accepted_of next cs) n h)

pub last-calls-cut-off : LastCallsCutOff
unfolding LastCallsCutOff
last-calls-cut-off n s calls enough = cut calls n s enough
