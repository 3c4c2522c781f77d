use Rattle.std.proofs.Common.{length-take-le}
use Rattle.aec3_common.proofs.Lanes.{lanes-told}
use Rattle.aec3_common.proofs.binary32.four_within.Goals as goal

pub returns : goal.returns
returns c = lanes-told c.args.hi _ (length-take-le 4 _ c.requires)
