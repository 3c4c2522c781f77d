use Rattle.std.proofs.Common.{rules, None, is_some, false, pos, get_or}
use Rattle.erle_bands.specs.Band.{hold_learnt}
use Rattle.erle_bands.specs.Steps.{all_holds_learnt}
use Rattle.erle_bands.proofs.Bands.{changed-where}
use Rattle.erle_bands.proofs.streams.NewRatios.hold_again.Goals as goal

pub returns : goal.returns
unfolding all_holds_learnt hold_learnt
returns c =
    changed-where (pos 0) (λ k. is_some (get_or c.args.self.now.ratios.now k None)) (λ k hold. hold_learnt (get_or c.args.self.now.low.now k false) hold)
    c.change.ensures (search rules) (λ k x y h r. search rules)
