-- What closes most needs of a loop that stores one entry a turn.
use Rattle.std.proofs.Common.{rules}
use Rattle.aec3_common.proofs.Tables.{stored-none, stored_more, stored-all, stored-inner}

pub ruleset loops = (rules, stored-none, stored_more, stored-all, stored-inner)
