use Rattle.std.proofs.Common.{◌≡◌, length, ap, ◌∙◌, le-ltb, arith, rules}
use Rattle.aec3_common.specs.Spectra.{part}
use Rattle.aec3_common.proofs.Bands.{part_length}
use Rattle.aec3_common.proofs.Tables.{length-mapped}
use Rattle.signal_dependent_erle_estimator.specs.SignalDependent.{powers_of, update_of, after_block, after_accepted}
use Rattle.signal_dependent_erle_estimator.proofs.Judged.{few-captures, one-section, eight-sections, update-passed}
use Rattle.signal_dependent_erle_estimator.proofs.Updates.{found-asks, found-at, found-within, made-after, block-alone}
use Rattle.signal_dependent_erle_estimator.proofs.SignalDependentErleEstimator.advance.Goals as goal

pub active_sections-active-requires : goal.active_sections-active-requires
active_sections-active-requires c =
    let ok = update-passed _ _ _ _ c.requires in
    record {
      ring_fits = ok.lent.ring;
      delay_headroom_samples_bound = found-asks c.args.self.now _ ok.lent;
      response_blocks_value = (ok.lent.blocks, ok.lent.responses);
    }

pub subband_sums-x2_subbands-requires : goal.subband_sums-x2_subbands-requires
subband_sums-x2_subbands-requires c = (update-passed _ _ _ _ c.requires).lent.render

pub change-requires-clause-within : goal.change-requires-clause-within
change-requires-clause-within c =
    let four : length c.args.self.now.channels ≡ 4 = search (rules, length-mapped) in
    omega (arith, four, few-captures _ (update-passed _ _ _ _ c.requires).lent.state)

pub change-requires-clause-callable : goal.change-requires-clause-callable
change-requires-clause-callable c k d from below =
    let ok = update-passed _ _ _ _ c.requires in
    let lent = ok.lent in
    let few = few-captures _ lent.state in (
      λ κs p values ranges told u v plain compensated l. (
        omega (arith, below, lent.flags, lent.count),
        (
          (omega (arith, below, lent.capture, lent.count), omega (arith, below, lent.residual, lent.count)),
          (
            ap length plain.ensures ∙ part_length _ _ (omega (arith, below, ok.plain, lent.count)),
            ap length compensated.ensures ∙ part_length _ _ (omega (arith, below, ok.compensated, lent.count)),
          ),
        ),
      ),
      λ κs p values ranges told u v plain compensated new w. record { fits = omega (arith, below, few) },
      λ κs p values ranges told u v plain compensated new w. omega (arith, below, few),
      λ κs p values ranges told u v plain compensated new w g l. (
        (one-section _ lent.state, eight-sections _ lent.state),
        found-within c.args.self.now _ lent c.active_sections-active.ensures c.if-settings-gt1.true k (omega (arith, below, lent.count)),
      ),
    )

pub returns-then-settings-gt1 : goal.returns-then-settings-gt1
unfolding after_accepted
returns-then-settings-gt1 c =
    let s = c.args.self.now in
    let lent = (update-passed _ _ _ _ c.requires).lent in
    made-after s (powers_of (update_of c.args.inputs.now)) _ (part c.args.averages.now.plain.now) (part c.args.averages.now.compensated.now)
    c.change.ensures (search (rules, length-mapped)) (λ k x y h r. search rules) c.if-settings-gt1.true
    ∙ block-alone s _ _ _
    (λ many ch h. found-at s _ lent c.active_sections-active.ensures many ch (omega (arith, h, lent.count)))

pub returns-else-settings-gt1 : goal.returns-else-settings-gt1
unfolding after_accepted after_block
returns-else-settings-gt1 c = simp (le-ltb _ _ c.if-settings-gt1.false)
