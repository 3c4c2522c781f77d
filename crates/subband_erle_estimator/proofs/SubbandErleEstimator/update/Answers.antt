use Rattle.std.proofs.Common.{◌≡◌, ℕ, Bool, true, false, length, refl, sym, ap, ◌∙◌, eqb, eqb-true, arith, rules}
use Rattle.aec3_common.specs.declared.block.Block.{Block}
use Rattle.aec3_common.specs.Answers.{number_of}
use Rattle.aec3_common.specs.Blocks.{with_block}
use Rattle.aec3_common.specs.Calls.{call_refusal}
use Rattle.aec3_common.specs.Refusal.{accepted}
use Rattle.aec3_common.proofs.Bands.{part_length}
use Rattle.aec3_common.proofs.Calls.{update-ok}
use Rattle.aec3_common.proofs.Refusals.{outcome-told}
use Rattle.aec3_common.proofs.Tables.{length-mapped, stored-none, stored-not-yet}
use Rattle.subband_erle_estimator.specs.declared.SubbandErleEstimator.{SubbandErleEstimator}
use Rattle.subband_erle_estimator.specs.Subband.{state_ok, update_refusal, update_answer}
use Rattle.subband_erle_estimator.proofs.Judged.{state-few, points-few}
use Rattle.subband_erle_estimator.proofs.Updates.{stepped-channel, updating-more, updating-all}
use Rattle.subband_erle_estimator.proofs.SubbandErleEstimator.update.Goals as goal

-- the state is judged, and the call
refused-by :
    (s : SubbandErleEstimator) (b : Block) {refused : ℕ} {ok : Bool}
    → ok ≡ state_ok s → refused ≡ with_block (call_refusal ok s.settings.num_capture_channels) b
    → refused ≡ with_block (update_refusal s) b
unfolding update_refusal
refused-by s b passes told = told ∙ rw passes refl

pub returns-else-is_ok : goal.returns-else-is_ok
unfolding update_answer
returns-else-is_ok c =
    let refused = refused-by c.args.self c.args.block.now c.ok.ensures c.judge-outcome.ensures in
    let other : eqb (number_of c.judge-outcome.result) accepted ≡ false = outcome-told c.judge-outcome.result ∙ sym c.is_ok.ensures.value ∙ c.if-is_ok.false in
    simp (sym refused, other)

pub loop-ch-init : goal.loop-ch-init
unfolding update_refusal
loop-ch-init c =
    let s = c.args.self in
    let b = c.args.block.now in
    let refused = refused-by s b c.ok.ensures c.judge-outcome.ensures in
    let accept : number_of c.judge-outcome.result ≡ accepted = eqb-true _ accepted (outcome-told c.judge-outcome.result ∙ sym c.is_ok.ensures.value ∙ c.if-is_ok.true) in
    let ok =
    update-ok (state_ok s) s.settings.num_capture_channels b.num_capture_channels b.converged_filters.now b.x2.now b.y2.now b.e2.now
    (sym refused ∙ accept) in
    let few = state-few s ok.state in (
      omega arith,
      few,
      record { ok = ok; settings = refl; stored = stored-none _ _ _ _ _ (omega arith) (search (rules, length-mapped)) },
    )

pub step_in_place-requires-clause-num_points_bound : goal.step_in_place-requires-clause-num_points_bound
step_in_place-requires-clause-num_points_bound c =
    let at = c.loop-ch in
    let u = at.invariant.2 in
    rw (stored-not-yet u.stored)
    (points-few c.args.self at.ch u.ok.state (search (rules, length-mapped)) c.loop-ch-test.true)

pub step_in_place-requires-clause-x2_len : goal.step_in_place-requires-clause-x2_len
step_in_place-requires-clause-x2_len c =
    let at = c.loop-ch in
    let u = at.invariant.2 in
    let h = c.loop-ch-test.true in (
      u.ok.long_render,
      ap length c.own_y2.ensures ∙ part_length c.args.block.now.y2.now at.ch (omega (arith, h, u.ok.long_capture)),
      ap length c.own_e2.ensures ∙ part_length c.args.block.now.e2.now at.ch (omega (arith, h, u.ok.long_residual)),
    )

pub loop-ch-preserved : goal.loop-ch-preserved
loop-ch-preserved c =
    let at = c.loop-ch in
    let few = at.invariant.1 in
    let u = at.invariant.2 in
    let h = c.loop-ch-test.true in
    let held = stored-not-yet u.stored in
    let s = c.args.self in
    let b = c.args.block.now in
    let flags = b.converged_filters.now in
    let x = b.x2.now in
    let y = b.y2.now in
    let e = b.e2.now in (
      omega (arith, h),
      few,
      updating-more s flags x y e at.self at.ch _ u h few
          (c.step_in_place.ensures ∙ rw (c.own_y2.ensures, c.own_e2.ensures) (stepped-channel s flags x y e at.ch _ held)),
    )

pub returns-after-loop-ch : goal.returns-after-loop-ch
unfolding update_answer
returns-after-loop-ch c =
    let s = c.args.self in
    let b = c.args.block.now in
    let at = c.loop-ch in
    let refused = refused-by s b c.ok.ensures c.judge-outcome.ensures in
    let accept : eqb (number_of c.judge-outcome.result) accepted ≡ true = outcome-told c.judge-outcome.result ∙ sym c.is_ok.ensures.value ∙ c.if-is_ok.true in
    let done = updating-all s b.converged_filters.now b.x2.now b.y2.now b.e2.now at.self at.ch at.invariant.2 c.loop-ch-test.false in
    simp (sym refused, accept, done)
