use Rattle.std.proofs.Common.{◌≡◌, ◌+◌, ◌*◌, ◌≤◌, ◌<◌, length, refl, ◌∙◌, arith, rules}
use Rattle.aec3_common.proofs.Bands.{part_length}
use Rattle.aec3_common.proofs.Calls.{update-ok}
use Rattle.aec3_common.proofs.Tables.{length-mapped, stored-none, stored-not-yet}
use Rattle.fullband_channel.proofs.Judged.{few-points}
use Rattle.fullband_erle_estimator.specs.FullBand.{state_ok, update_refusal}
use Rattle.fullband_erle_estimator.proofs.Judged.{state-few, channel-passed}
use Rattle.fullband_erle_estimator.proofs.Updates.{own-after, updating-more, updating-all}
use Rattle.fullband_erle_estimator.proofs.FullBandErleEstimator.updated.Goals as goal

pub loop-ch-init : goal.loop-ch-init
unfolding update_refusal
loop-ch-init c =
    let s = c.args.self in
    let four : length s.channels ≡ 4 = search (rules, length-mapped) in
    let ok = update-ok (state_ok s) s.settings.num_capture_channels _ _ _ _ _ c.requires in
    record {
      few = state-few s ok.state;
      so_far = record { ok = ok; settings = refl; stored = stored-none _ _ _ _ _ (omega arith) four };
    }

pub after_block-requires-clause-room : goal.after_block-requires-clause-room
after_block-requires-clause-room c =
    let s = c.args.self in
    let u = c.loop-ch.invariant.so_far in
    let four : length s.channels ≡ 4 = search (rules, length-mapped) in
    rw (stored-not-yet u.stored) (few-points _ (channel-passed s u.ok.state c.loop-ch.ch four c.loop-ch-test.true))

pub after_block-requires-clause-as_long : goal.after_block-requires-clause-as_long
after_block-requires-clause-as_long c =
    let block = c.args.block.now in
    let ch = c.loop-ch.ch in
    let u = c.loop-ch.invariant.so_far in
    let captures : ch * 65 + 65 ≤ length block.y2.now = omega (arith, c.loop-ch-test.true, u.ok.long_capture) in
    let residuals : ch * 65 + 65 ≤ length block.e2.now = omega (arith, c.loop-ch-test.true, u.ok.long_residual) in
    rw (c.own_y2.ensures, c.own_e2.ensures, part_length block.y2.now ch captures, part_length block.e2.now ch residuals) refl

pub loop-ch-preserved : goal.loop-ch-preserved
loop-ch-preserved c =
    let s = c.args.self in
    let block = c.args.block.now in
    let flags = block.converged_filters.now in
    let ch = c.loop-ch.ch in
    let few = c.loop-ch.invariant.few in
    let u = c.loop-ch.invariant.so_far in
    let h = c.loop-ch-test.true in
    let held = stored-not-yet u.stored in
    let below : ch < length flags = omega (arith, h, u.ok.flags) in
    record {
      few = few;
      so_far =
          updating-more s flags block.x2.now block.y2.now block.e2.now c.loop-ch.self ch _ u h few
          (c.after_block.ensures
          ∙ rw (c.own_y2.ensures, c.own_e2.ensures, c.min_erle_log2-min_erle_log2.ensures, c.is_loud-loud.ensures)
          (own-after s flags block.x2.now block.y2.now block.e2.now ch _ below held));
    }

pub returns : goal.returns
returns c = updating-all c.args.self _ _ _ _ c.loop-ch.self c.loop-ch.ch c.loop-ch.invariant.so_far c.loop-ch-test.false
