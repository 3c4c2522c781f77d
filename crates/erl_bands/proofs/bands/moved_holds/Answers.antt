use Rattle.std.proofs.Common.{rules, get_or, suc, pos, add-one}
use Rattle.std.specs.Float.{nan}
use Rattle.erl_bands.specs.Steps.{hold_by, holds_by}
use Rattle.erl_bands.proofs.Steps.{made_by}
use Rattle.erl_bands.proofs.bands.moved_holds.Goals as goal

pub returns : goal.returns
unfolding holds_by
returns c =
    made_by (pos 0) (λ k. hold_by (get_or c.args.new.now (suc k) nan) (get_or c.args.erl.now (suc k) nan) (get_or c.args.holds.now k (pos 0)))
    c.from_fn.ensures.items (λ k y q called. (search rules, rw (← add-one) (search rules)))
