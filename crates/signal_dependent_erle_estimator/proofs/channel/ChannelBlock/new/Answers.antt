use Rattle.std.proofs.Common.{length, ap, ◌∙◌}
use Rattle.aec3_common.proofs.Bands.{part_length}
use Rattle.signal_dependent_erle_estimator.proofs.channel.ChannelBlock.new.Goals as goal

pub invariant_of-result : goal.invariant_of-result
invariant_of-result c =
    record {
      capture = ap length c.own_y2.ensures ∙ part_length c.args.block.now.y2.now c.args.ch c.requires.powers.0;
      residual = ap length c.own_e2.ensures ∙ part_length c.args.block.now.e2.now c.args.ch c.requires.powers.1;
      plain = c.requires.streams.0;
      compensated = c.requires.streams.1;
    }
