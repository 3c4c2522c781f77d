use Rattle.std.proofs.Common.{rules, pos}
use Rattle.aec3_common.proofs.Changes.{changed-between}
use Rattle.erle_bands.specs.Band.{hold_less}
use Rattle.erle_bands.specs.Steps.{all_holds_less}
use Rattle.erle_bands.proofs.onsets.lower_all.Goals as goal

pub returns : goal.returns
unfolding all_holds_less
returns c = changed-between {n = 65} (pos 0) (λ k hold. hold_less hold) c.change.ensures (search rules) (λ k x y h r. search rules)
