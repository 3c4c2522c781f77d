-- What an update comes to, by the converged channels and the startup count.
use mathlib.Core.Path.{◌≡◌}
use mathlib.Core.Bool.{Bool, false}
use mathlib.Core.List.{List, [], ◌∷◌}
use Prim.Native.Nat.{ℕ, ◌≤◌, ◌<◌}
use native.Mathlib.Omega.{arith}
use borrow.Author.Tests.{lt-ltb, le-ltb, ne_eqb}
use lib.Dec.{eqb}
use lib.Ieee.{Float}
use lib.ListN.{length}
use Rattle.aec3_common.specs.Lists.{tab}
use Rattle.aec3_common.specs.Spectra.{flagged}
use Rattle.erl_estimator.specs.declared.ErlEstimator.{ErlEstimator}
use Rattle.erl_estimator.specs.Erl.{counted, learnt_from, reduced, updated}

module _ (s : ErlEstimator) (renders : ℕ) (flags : List Bool) (render capture : List Float) where
  pub updated_none : flagged 0 flags ≡ [] → counted s ≡ updated s renders flags render capture
  unfolding updated
  updated_none e = simp e

  module _ (first : ℕ) (others : List ℕ) (e : flagged 0 flags ≡ first ∷ others) where
    some : eqb (length (first ∷ others)) 0 ≡ false
    some = ne_eqb (length (first ∷ others)) 0 (λ q. omega arith)

    pub updated-below :
        (counted s).blocks_since_reset < s.startup_phase_length_blocks
        → counted s ≡ updated s renders flags render capture
    unfolding updated
    updated-below h = simp (e, some, lt-ltb _ _ h)

    pub updated-on :
        s.startup_phase_length_blocks ≤ (counted s).blocks_since_reset
        → learnt_from (counted s) (reduced render (tab renders (λ ch. ch))) (reduced capture (first ∷ others))
        ≡ updated s renders flags render capture
    unfolding updated
    updated-on h = simp (e, some, le-ltb _ _ h)
