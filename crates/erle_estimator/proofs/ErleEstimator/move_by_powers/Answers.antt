use Rattle.std.proofs.Common.{ℕ, ◌<◌, length, ap, sym, ◌∙◌, rules, arith}
use Rattle.aec3_common.proofs.Bands.{part_length}
use Rattle.aec3_common.proofs.Tables.{length-mapped, stored-not-yet}
use Rattle.fullband_erle_estimator.specs.FullBand.{min_log2}
use Rattle.erle_estimator.specs.declared.ErleEstimator.{ErleEstimator}
use Rattle.erle_estimator.proofs.Updates.{powers-none, powers-more, powers-all, subband-is, fullband-is}
use Rattle.erle_estimator.proofs.ErleEstimator.move_by_powers.Goals as goal

pub loop-ch-init : goal.loop-ch-init
loop-ch-init c = powers-none _ _ _ _ _ (search (rules, length-mapped)) (search (rules, length-mapped))

pub step_in_place-requires-clause-num_points_bound : goal.step_in_place-requires-clause-num_points_bound
step_in_place-requires-clause-num_points_bound c =
    rw (stored-not-yet c.loop-ch.invariant.subband) (c.requires.held.points c.loop-ch.ch c.loop-ch-test.true)

pub step_in_place-requires-clause-x2_len : goal.step_in_place-requires-clause-x2_len
step_in_place-requires-clause-x2_len c =
    let fits = c.requires.fits in (
      fits.render,
      ap length c.own_y2-y2.ensures ∙ part_length _ _ (omega (arith, fits.capture)),
      ap length c.own_e2-e2.ensures ∙ part_length _ _ (omega (arith, fits.residual)),
    )

pub after_block-requires : goal.after_block-requires
after_block-requires c =
    let fits = c.requires.fits in
    record {
      room = rw (stored-not-yet c.loop-ch.invariant.fullband) (c.requires.held.points_fullband c.loop-ch.ch c.loop-ch-test.true);
      as_long =
          ap length c.own_y2-y2.ensures ∙ part_length _ _ (omega (arith, fits.capture))
          ∙ sym (ap length c.own_e2-e2.ensures ∙ part_length _ _ (omega (arith, fits.residual)));
    }

pub loop-ch-preserved : goal.loop-ch-preserved
loop-ch-preserved c =
    let a = c.args in
    let done = c.loop-ch.invariant in
    let ch : ℕ = c.loop-ch.ch in
    let s : ErleEstimator = a.self.now in
    let fits = c.requires.fits in
    let b = a.block.now in
    let flags : ch < length b.converged_filters.now = omega (arith, fits.flags) in
    powers-more s b.converged_filters.now b.x2.now b.y2.now b.e2.now done (omega (arith, fits.count)) (omega (arith, fits.count, fits.few))
    (c.step_in_place.ensures
    ∙ subband-is s b.converged_filters.now b.x2.now b.y2.now b.e2.now ch c.from-subband_part.ensures
    c.own_y2-y2.ensures c.own_e2-e2.ensures (stored-not-yet done.subband))
    (c.after_block.ensures
    ∙ fullband-is s b.converged_filters.now b.x2.now b.y2.now b.e2.now ch
    (c.min_erle_log2-min_erle_log2.ensures ∙ ap min_log2 c.from.ensures) c.is_loud-loud.ensures
    c.own_y2-y2.ensures c.own_e2-e2.ensures flags (stored-not-yet done.fullband))

pub returns : goal.returns
returns c = powers-all c.args.self.now _ c.loop-ch.invariant (omega (arith, c.requires.fits.count))
