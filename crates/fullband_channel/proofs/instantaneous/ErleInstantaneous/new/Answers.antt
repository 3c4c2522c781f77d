use Rattle.std.proofs.Common.{refl}
use lib.Ieee.{of_bits, neg}
use Rattle.fullband_channel.specs.Instantaneous.{cleared, fresh}
use Rattle.fullband_channel.proofs.instantaneous.ErleInstantaneous.new.Goals as goal

pub returns : goal.returns
unfolding of_bits neg cleared fresh
returns c = refl
