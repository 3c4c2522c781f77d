use Rattle.signal_dependent_erle_estimator.proofs.After.{after_on, after-off}
use Rattle.signal_dependent_erle_estimator.proofs.channel.SignalDependentChannel.update.Goals as goal

pub returns-then-settings : goal.returns-then-settings
returns-then-settings c =
    after_on c.args.settings c.args.active.now c.args.x2.now _ c.args.self c.learnt-corrections.ensures c.band_factors-factors.ensures
    c.correct_stream.ensures c.if-settings.true c.correct_stream-then-settings.ensures

pub returns-else-settings : goal.returns-else-settings
returns-else-settings c =
    after-off c.args.settings c.args.active.now c.args.x2.now _ c.args.self c.learnt-corrections.ensures c.band_factors-factors.ensures
    c.correct_stream.ensures c.if-settings.false c.copy_last.ensures
