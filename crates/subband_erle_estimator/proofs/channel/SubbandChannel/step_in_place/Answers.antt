-- The powers are added, on a sixth point the record learns, then the hold falls.
use Rattle.std.proofs.Common.{◌≡◌, cond, eqb, ap, ◌∙◌, eq-eqb, ne_eqb, rules}
use Rattle.subband_erle_estimator.specs.Channel.{all_points, unconverged_block, channel_after}
use Rattle.subband_erle_estimator.specs.Steps.{sums_cleared}
use Rattle.subband_erle_estimator.proofs.Parts.{Long}
use Rattle.subband_erle_estimator.proofs.After.{heard-is, converged-six, converged-few, after-converged, quiet-any}
use Rattle.subband_erle_estimator.proofs.channel.SubbandChannel.step_in_place.Goals as goal
use Rattle.subband_erle_estimator.proofs.channel.SubbandChannel.step_in_place.Goals.{then-self-eq-POINTS_TO_ACCUMULATE, else-self-eq-POINTS_TO_ACCUMULATE, then-converged+then-points-eq-POINTS_TO_ACCUMULATE, then-converged+else-points-eq-POINTS_TO_ACCUMULATE, else-converged}

pub returns : goal.returns
returns c =
    let s = c.args.settings in
    let r = c.args.self.now in
    let x = c.args.x2.now in
    let y = c.args.y2.now in
    let e = c.args.e2.now in
    let long : Long r = search rules in
    c.decay_in_place.ensures
    ∙ elim c.if-converged.branch [
      | then-converged+then-points-eq-POINTS_TO_ACCUMULATE w ↦
          let begun : w.if-self-eq-POINTS_TO_ACCUMULATE.self ≡ cond (eqb r.num_points all_points) (sums_cleared r) r =
          elim w.if-self-eq-POINTS_TO_ACCUMULATE.branch [
            | then-self-eq-POINTS_TO_ACCUMULATE v ↦
                rw (eq-eqb _ _ v.if-self-eq-POINTS_TO_ACCUMULATE.true) (v.self-is ∙ v.clear_sums.ensures)
            | else-self-eq-POINTS_TO_ACCUMULATE v ↦ rw (ne_eqb _ _ v.if-self-eq-POINTS_TO_ACCUMULATE.false) v.self-is
          ] in
          let heard = heard-is x y e r w.if-self-eq-POINTS_TO_ACCUMULATE.self long begun w.accumulate.ensures w.accumulate-then-converged.ensures w.accumulate_low_energy.ensures w.points_with-points.ensures in
          rw w.if-converged.true
          (ap (channel_after s unconverged_block)
          (w.self-is ∙ w.learn.ensures ∙ converged-six x y e r s _ heard (eq-eqb _ _ w.if-points-eq-POINTS_TO_ACCUMULATE.true))
          ∙ after-converged s x y e r)
      | then-converged+else-points-eq-POINTS_TO_ACCUMULATE w ↦
          let begun : w.if-self-eq-POINTS_TO_ACCUMULATE.self ≡ cond (eqb r.num_points all_points) (sums_cleared r) r =
          elim w.if-self-eq-POINTS_TO_ACCUMULATE.branch [
            | then-self-eq-POINTS_TO_ACCUMULATE v ↦
                rw (eq-eqb _ _ v.if-self-eq-POINTS_TO_ACCUMULATE.true) (v.self-is ∙ v.clear_sums.ensures)
            | else-self-eq-POINTS_TO_ACCUMULATE v ↦ rw (ne_eqb _ _ v.if-self-eq-POINTS_TO_ACCUMULATE.false) v.self-is
          ] in
          let heard = heard-is x y e r w.if-self-eq-POINTS_TO_ACCUMULATE.self long begun w.accumulate.ensures w.accumulate-then-converged.ensures w.accumulate_low_energy.ensures w.points_with-points.ensures in
          rw w.if-converged.true
          (ap (channel_after s unconverged_block)
          (w.self-is ∙ converged-few x y e r s _ heard (ne_eqb _ _ w.if-points-eq-POINTS_TO_ACCUMULATE.false))
          ∙ after-converged s x y e r)
      | else-converged w ↦ rw w.if-converged.false (ap (channel_after s unconverged_block) w.self-is ∙ quiet-any s r x y e)
    ]
