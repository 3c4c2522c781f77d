-- So many blocks behind the headroom have their positions.
use Rattle.section_echoes.proofs.Walks.{Walking}
use Rattle.section_echoes.proofs.walk.walked_positions.Given as goal

abbrev pub invariant-loop-position : goal.invariant-loop-position
invariant-loop-position l = Walking l.ring l.headroom l.place l.position-items l.position-index
