use Rattle.std.proofs.Common.{rules, None, is_some, false, get_or}
use Rattle.erle_bands.specs.Band.{waits_learnt}
use Rattle.erle_bands.specs.Steps.{all_waits_learnt}
use Rattle.erle_bands.proofs.Bands.{changed-where}
use Rattle.erle_bands.proofs.streams.NewRatios.stop_waiting.Goals as goal

pub returns : goal.returns
unfolding all_waits_learnt waits_learnt
returns c =
    changed-where false (λ k. is_some (get_or c.args.self.now.ratios.now k None)) (λ k wait. waits_learnt (get_or c.args.self.now.low.now k false) wait)
    c.change.ensures (search rules) (λ k x y h r. search rules)
