-- A hold that falls: what the machine holds of it, and where that is 0.
use Rattle.aec3_common.proofs.Holds.{read_back, word-zero, word-not-zero}

pub ruleset holds = (read_back, word-zero, word-not-zero)
