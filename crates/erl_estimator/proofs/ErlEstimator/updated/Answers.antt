use Rattle.std.proofs.Common.{◌∙◌, ◌≤◌, ◌<◌, sym, ap, subst}
use Rattle.erl_estimator.specs.declared.ErlEstimator.{ErlEstimator}
use Rattle.erl_estimator.specs.Erl.{learnt_from}
use Rattle.erl_estimator.proofs.Steps.{no-channel, first_below, from_first}
use Rattle.erl_estimator.proofs.Updates.{updated_none, updated-below, updated-on}
use Rattle.erl_estimator.proofs.ErlEstimator.updated.Goals as goal

pub reduced_from-capture-requires-clause-first_in_bounds : goal.reduced_from-capture-requires-clause-first_in_bounds
reduced_from-capture-requires-clause-first_in_bounds c =
    first_below c.args.block.now.converged_filters.now c.in-Some.first (sym c.first_converged.ensures ∙ c.in-Some.is)

pub returns-in_default : goal.returns-in_default
returns-in_default c =
    let block = c.args.block.now in
    c.counted-counted.ensures
    ∙ updated_none c.args.self block.num_render_channels block.converged_filters.now block.render_spectra.now block.capture_spectra.now
    (no-channel block.converged_filters.now (sym c.first_converged.ensures ∙ c.in_default.is))

pub returns-then-counted : goal.returns-then-counted
returns-then-counted c =
    let block = c.args.block.now in
    let counts = c.counted-counted.ensures in
    counts
    ∙ updated-below c.args.self block.num_render_channels block.converged_filters.now block.render_spectra.now block.capture_spectra.now c.in-Some.first _
    (from_first block.converged_filters.now c.in-Some.first (sym c.first_converged.ensures ∙ c.in-Some.is))
    (subst (λ (s : ErlEstimator). s.blocks_since_reset < s.startup_phase_length_blocks) counts c.if-counted.true)

pub returns : goal.returns
returns c =
    let block = c.args.block.now in
    let counts = c.counted-counted.ensures in
    c.learnt_from.ensures
    ∙ ap (λ (s : ErlEstimator). learnt_from s c.all_reduced-render.result c.reduced_from-capture.result) counts
    ∙ simp (c.all_reduced-render.ensures, c.reduced_from-capture.ensures)
    (updated-on c.args.self block.num_render_channels block.converged_filters.now block.render_spectra.now block.capture_spectra.now c.in-Some.first _
    (from_first block.converged_filters.now c.in-Some.first (sym c.first_converged.ensures ∙ c.in-Some.is))
    (subst (λ (s : ErlEstimator). s.startup_phase_length_blocks ≤ s.blocks_since_reset) counts c.if-counted.false))
