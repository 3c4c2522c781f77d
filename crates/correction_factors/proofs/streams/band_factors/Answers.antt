use Rattle.std.proofs.Common.{rules, ◌≡◌, ℕ, ◌+◌, ◌<◌, ◌≤◌, arith}
use Rattle.correction_factors.specs.Steps.{first_band}
use Rattle.correction_factors.proofs.Corrected.{chosen_none, chosen_more, chosen-all, first-rises, first-within}
use Rattle.correction_factors.proofs.streams.band_factors.Goals as goal

within : (s : ℕ) {to : ℕ} → s < 6 → to ≡ first_band (s + 1) → to ≤ 65
within s few e = rw e (first-within s few)

pub loop-subband-init : goal.loop-subband-init
loop-subband-init c = chosen_none _ _ _ (search rules)

pub change-requires-clause-ordered : goal.change-requires-clause-ordered
change-requires-clause-ordered c =
    rw (c.first_band-from.ensures, c.first_band-to.ensures) (first-rises c.loop-subband.subband-counter c.loop-subband-test.true)

pub change-requires-clause-within : goal.change-requires-clause-within
change-requires-clause-within c =
    rw c.first_band-to.array_long (within c.loop-subband.subband-counter c.loop-subband-test.true c.first_band-to.ensures)

pub change-requires-clause-callable : goal.change-requires-clause-callable
change-requires-clause-callable c k x from to =
    let inside : k < 65 = omega (arith, within c.loop-subband.subband-counter c.loop-subband-test.true c.first_band-to.ensures) in
    search rules

pub loop-subband-preserved : goal.loop-subband-preserved
loop-subband-preserved c =
    chosen_more c.loop-subband.invariant c.loop-subband-test.true (search rules)
    (rw (c.first_band-from.ensures, c.first_band-to.ensures) at c.change.ensures) (λ k x y r. search rules)

pub returns : goal.returns
returns c = chosen-all c.loop-subband.invariant c.loop-subband-test.false
