use Rattle.std.proofs.Common.{rules, get_or}
use Rattle.std.specs.Float.{nan}
use Rattle.erl_bands.specs.Steps.{new_erl, new_erls}
use Rattle.erl_bands.proofs.Steps.{made_by}
use Rattle.erl_bands.proofs.bands.new_erls.Goals as goal

pub returns : goal.returns
unfolding new_erls
returns c =
    made_by nan (λ k. new_erl (get_or c.args.render.now k nan) (get_or c.args.capture.now k nan))
    c.from_fn.ensures.items (λ k y q called. (search rules, search rules))
