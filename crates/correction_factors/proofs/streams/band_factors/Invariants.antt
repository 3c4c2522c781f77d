-- The bands of the subbands before this one have their factors.
use Rattle.correction_factors.proofs.Corrected.{Chosen}
use Rattle.correction_factors.proofs.streams.band_factors.Given as goal

abbrev pub invariant-loop-subband : goal.invariant-loop-subband
invariant-loop-subband l =
    Chosen l.factors l.active l.r l.subband-counter
