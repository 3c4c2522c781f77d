-- A hold less where onset detection is on, and nothing learnt.
use Rattle.std.proofs.Common.{◌≡◌, ◌∙◌, rules}
use Rattle.subband_erle_estimator.proofs.Parts.{Long}
use Rattle.subband_erle_estimator.proofs.After.{held_by, held-on, held-off, shown-is, after-unconverged}
use Rattle.subband_erle_estimator.proofs.channel.SubbandChannel.decay_in_place.Goals as goal
use Rattle.subband_erle_estimator.proofs.channel.SubbandChannel.decay_in_place.Goals.{then-settings, else-settings}

pub returns : goal.returns
returns c =
    let s = c.args.settings in
    let r = c.args.self.now in
    let long : Long r = search rules in
    let held : c.if-settings.self ≡ held_by s r =
    elim c.if-settings.branch [
      | then-settings w ↦ w.self-is ∙ held-on s r w.if-settings.true w.lower_all.ensures w.decay_all.ensures w.wait_all.ensures
      | else-settings w ↦ w.self-is ∙ held-off s r w.if-settings.false long
    ] in
    shown-is s r c.if-settings.self long held c.copy_ends.ensures c.copy_ends-2.ensures c.copy_ends-3.ensures ∙ after-unconverged s r
