-- The streams move by the ratios; what onset detection holds moves too, where it is on.
use Rattle.std.proofs.Common.{◌∙◌, rules}
use Rattle.subband_erle_estimator.proofs.Parts.{Long}
use Rattle.subband_erle_estimator.proofs.After.{learnt-on, learnt-off}
use Rattle.subband_erle_estimator.proofs.channel.SubbandChannel.learn.Goals as goal

pub returns-then-settings : goal.returns-then-settings
returns-then-settings c =
    let long : Long c.args.self.now = search rules in
    learnt-on c.args.settings c.args.self.now long c.new_ratios.ensures
    c.move_stream.ensures
    (c.move_stream-2.ensures ∙ simp c.uncapped_limits.ensures)
    c.move_stream-then-settings.ensures
    c.stop_waiting.ensures c.hold_again.ensures c.if-settings.true

pub returns-else-settings : goal.returns-else-settings
returns-else-settings c =
    let long : Long c.args.self.now = search rules in
    learnt-off c.args.settings c.args.self.now long c.new_ratios.ensures
    c.move_stream.ensures
    (c.move_stream-2.ensures ∙ simp c.uncapped_limits.ensures)
    c.if-settings.false
