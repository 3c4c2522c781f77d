use Rattle.std.proofs.Common.{rules, arith, ℕ, ◌≡◌, ◌*◌, ◌<◌, ◌∙◌, option_map, refl, length, subst, sym, ap}
use Rattle.std.proofs.lemmas.List.{length_push}
use Rattle.std.proofs.iter.SoFar.{turn_by, exit_by}
use Rattle.std.specs.Slice.Iter.{chunks_exact_size, chunks_exact_rest}
use Rattle.aec3_common.specs.declared.block.Block.{Block}
use Rattle.speed.specs.Runs.{StepsTo, StepAt, IsBlock, block_count}
use Rattle.speed.proofs.Steps.{steps-none, steps-more, zip-gives, zip-at, chunks-cut}
use Rattle.speed.proofs.blocks.Blocks.round.Goals as goal

pub loop-index-init : goal.loop-index-init
loop-index-init g c = (search rules, steps-none _ _, search rules)

-- e, z, a and b are the runs of the four zipped lists, from the last call to the first
pub loop-index-preserved : goal.loop-index-preserved
loop-index-preserved g c =
    let ran = turn_by _ (c.loop-index.yielded, c.loop-index.yielded_by) c.next.result c.next.new.self c.next.ensures.steps c.in-Some.is in
    let e = (c.enumerate-index-items.ensures.runs ran.0 ran.0.seen (ran.1 ∙ c.into_iter-index-iterator.ensures.into_iter_gives)).1 in
    let z = c.zip-lists.ensures.runs e.0 e.0.seen e.1 in
    let a = c.zip.ensures.runs z.0 z.0.seen z.1 in
    let b = c.zip-powers.ensures.runs z.2.0 z.2.0.seen (z.2.1 ∙ c.zip-lists.ensures.second) in
    let own = c.args.self.now in
    let some : 0 < own.num_capture_channels = search rules in
    let many : 0 < own.num_capture_channels * 65 = omega (arith, some) in
    let flags = chunks-cut chunks_exact_size chunks_exact_rest a.0 a.1 c.chunks_exact-3.ensures.size c.chunks_exact-3.ensures.rest some (c.chunks_exact-3.ensures.runs a.0 a.0.seen) in
    let render = chunks-cut chunks_exact_size chunks_exact_rest a.2.0 (a.2.1 ∙ c.zip.ensures.second) c.chunks_exact-4.ensures.size c.chunks_exact-4.ensures.rest (omega arith) (c.chunks_exact-4.ensures.runs a.2.0 a.2.0.seen) in
    let capture = chunks-cut chunks_exact_size chunks_exact_rest b.0 b.1 c.chunks_exact.ensures.size c.chunks_exact.ensures.rest many (c.chunks_exact.ensures.runs b.0 b.0.seen) in
    let residual = chunks-cut chunks_exact_size chunks_exact_rest b.2.0 (b.2.1 ∙ c.zip-powers.ensures.second) c.chunks_exact-2.ensures.size c.chunks_exact-2.ensures.rest many (c.chunks_exact-2.ensures.runs b.2.0 b.2.0.seen) in
    let k = length c.loop-index.yielded in
    let here : c.in-Some.index ≡ k = c.in-Some.ensures.steps.1 ∙ c.loop-index.invariant.2 in
    let lists = zip-at e.0 z.0 z.2.0 z.2.2 k _ (e.2.0.2 k ∙ ap (option_map (λ (x : _). x.1)) ran.2.2) in
    let front = zip-at z.0 a.0 a.2.0 a.2.2 k _ lists.0 in
    let back = zip-at z.2.0 b.0 b.2.0 b.2.2 k _ lists.1 in
    let block : Block =
    record { num_capture_channels = own.num_capture_channels; converged_filters = c.in-Some.converged_filters; x2 = c.in-Some.x2; y2 = c.in-Some.y2; e2 = c.in-Some.e2 } in
    let found : IsBlock own k block =
    (refl, flags.1 k _ front.0, render.1 k _ front.1, capture.1 k _ back.0, residual.1 k _ back.1) in
    let step : StepAt (goal.F-post g c.args.step.now) own c.loop-index.estimator c.in-Some.index c.step.new.arg2 =
    (_, _, _, refl, refl, subst (λ (k : ℕ). IsBlock own k block) (sym here) found, c.step.ensures) in
    let at_k = subst (λ (k : ℕ). StepAt (goal.F-post g c.args.step.now) own c.loop-index.estimator k c.step.new.arg2) here step in
    let more = length_push c.loop-index.yielded (c.in-Some.index, ((c.in-Some.converged_filters, c.in-Some.x2), (c.in-Some.y2, c.in-Some.e2))) in
    (search rules, steps-more _ _ _ _ _ _ c.loop-index.invariant.1 at_k more, omega (arith, c.in-Some.ensures.steps.2, c.loop-index.invariant.2, more))

pub returns : goal.returns
unfolding block_count
returns g c =
    let ran = exit_by _ (c.loop-index.yielded, c.loop-index.yielded_by) c.next.new.self (rw c.in-None.is at c.next.ensures.steps) in
    let e = (c.enumerate-index-items.ensures.runs ran.0 ran.0.seen (ran.1 ∙ c.into_iter-index-iterator.ensures.into_iter_gives)).1 in
    let z = c.zip-lists.ensures.runs e.0 e.0.seen e.1 in
    let a = c.zip.ensures.runs z.0 z.0.seen z.1 in
    let b = c.zip-powers.ensures.runs z.2.0 z.2.0.seen (z.2.1 ∙ c.zip-lists.ensures.second) in
    let own = c.args.self.now in
    let some : 0 < own.num_capture_channels = search rules in
    let many : 0 < own.num_capture_channels * 65 = omega (arith, some) in
    let flags = chunks-cut chunks_exact_size chunks_exact_rest a.0 a.1 c.chunks_exact-3.ensures.size c.chunks_exact-3.ensures.rest some (c.chunks_exact-3.ensures.runs a.0 a.0.seen) in
    let render = chunks-cut chunks_exact_size chunks_exact_rest a.2.0 (a.2.1 ∙ c.zip.ensures.second) c.chunks_exact-4.ensures.size c.chunks_exact-4.ensures.rest (omega arith) (c.chunks_exact-4.ensures.runs a.2.0 a.2.0.seen) in
    let capture = chunks-cut chunks_exact_size chunks_exact_rest b.0 b.1 c.chunks_exact.ensures.size c.chunks_exact.ensures.rest many (c.chunks_exact.ensures.runs b.0 b.0.seen) in
    let residual = chunks-cut chunks_exact_size chunks_exact_rest b.2.0 (b.2.1 ∙ c.zip-powers.ensures.second) c.chunks_exact-2.ensures.size c.chunks_exact-2.ensures.rest many (c.chunks_exact-2.ensures.runs b.2.0 b.2.0.seen) in
    let front = zip-gives z.0 a.0 a.2.0 _ _ a.2.2 flags.0 render.0 in
    let back = zip-gives z.2.0 b.0 b.2.0 _ _ b.2.2 capture.0 residual.0 in
    let lists = zip-gives e.0 z.0 z.2.0 _ _ z.2.2 front back in
    let all : length c.loop-index.yielded ≡ block_count own = sym ran.3.1 ∙ sym e.2.0.0 ∙ lists.1 (e.2.1 ∙ ran.2) in
    subst (λ (k : ℕ). StepsTo (StepAt (goal.F-post g c.args.step.now) own) k c.args.estimator.now c.loop-index.estimator) all c.loop-index.invariant.1
