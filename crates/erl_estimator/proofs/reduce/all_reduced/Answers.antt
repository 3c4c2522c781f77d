use Rattle.std.proofs.Common.{◌∙◌, ap}
use Rattle.erl_estimator.specs.Erl.{reduced}
use Rattle.erl_estimator.proofs.Steps.{all-stand}
use Rattle.erl_estimator.proofs.reduce.all_reduced.Goals as goal

pub returns : goal.returns
returns c =
    c.reduced_from.ensures
    ∙ ap (reduced c.args.spectra.now) (all-stand c.args.channels c.requires.channels_nonzero.0 c.requires.channels_nonzero.1)
