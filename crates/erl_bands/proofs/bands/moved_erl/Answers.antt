use Rattle.std.proofs.Common.{rules, ℕ, get_or, ◌-◌, pos, ◌∙◌}
use Rattle.std.specs.Float.{nan}
use lib.Ieee.{Float}
use Rattle.aec3_common.specs.Binary32.{zero32}
use Rattle.aec3_common.specs.Lists.{tab}
use Rattle.aec3_common.proofs.Changes.{changed-between}
use Rattle.erl_bands.specs.Steps.{erl_by, erls_by}
use Rattle.erl_bands.proofs.Steps.{beside_same}
use Rattle.erl_bands.proofs.bands.moved_erl.Goals as goal

pub returns : goal.returns
unfolding erls_by tab
returns c =
    let by : ℕ → Float = λ k. erl_by (get_or c.args.new.now k nan) (get_or c.args.erl.now k nan) (get_or c.args.holds.now (k - 1) (pos 0)) in
    changed-between {n = 65} nan (λ k zero. by k) c.change.ensures (search rules) (λ k x y h r. search rules) ∙ beside_same by zero32
