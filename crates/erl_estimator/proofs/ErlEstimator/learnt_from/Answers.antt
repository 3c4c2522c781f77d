use Rattle.std.proofs.Common.{◌≡◌, List, ℤ, ◌∙◌, ap, w32, SFits, rules, to_z-of_z}
use lib.Ieee.{Float}
use Rattle.aec3_common.specs.Binary32.{sum_threshold}
use Rattle.aec3_common.specs.Lists.{tab}
use Rattle.aec3_common.specs.Spectra.{shown_band, ends_copied, sum}
use Rattle.erl_bands.specs.declared.figure.Figure.{Figure}
use Rattle.erl_bands.specs.Figure.{after_block}
use Rattle.erl_bands.specs.Steps.{new_erls, erls_by, holds_by}
use Rattle.erl_estimator.specs.Erl.{band_after, learnt_from}
use Rattle.erl_estimator.proofs.Steps.{holds_after, erls-after}
use Rattle.erl_estimator.proofs.ErlEstimator.learnt_from.Goals as goal

pub returns : goal.returns
unfolding learnt_from
returns c =
    let s = c.args.self in
    let render = c.args.render.now in
    let capture = c.args.capture.now in
    let new : List Float = new_erls render capture in
    let fits : SFits w32 s.hold_counter_time_domain = search rules in
    let fits-after : SFits w32 c.time_domain_after-time.result.hold = search rules in
    -- the time-domain figure
    let time :
    c.time_domain_after-time.result
    ≡ after_block sum_threshold (sum render) (sum capture) (record { erl = s.erl_time_domain; hold = s.hold_counter_time_domain }) =
    c.time_domain_after-time.ensures
    ∙ ap (λ (h : ℤ). after_block sum_threshold (sum render) (sum capture) (record { erl = s.erl_time_domain; hold = h })) (to_z-of_z fits) in
    -- the holds, by the ratios of all bands
    let held : c.moved_holds-hold_counters.result ≡ holds_by new s.erl s.hold_counters =
    c.moved_holds-hold_counters.ensures ∙ ap (λ (n : List Float). holds_by n s.erl s.hold_counters) c.new_erls-new.ensures in
    -- the ERLs of all bands
    let bands : c.copy_ends.new.s ≡ tab 65 (λ k. (band_after render capture s.erl s.hold_counters (shown_band k)).erl) =
    c.copy_ends.ensures
    ∙ ap ends_copied
    (c.moved_erl-erl.ensures
    ∙ ap (λ (n : List Float). erls_by n s.erl c.moved_holds-hold_counters.result) c.new_erls-new.ensures
    ∙ ap (λ (h : List ℤ). erls_by new s.erl h) held)
    ∙ erls-after render capture s.erl s.hold_counters in
    λ i.
    record {
      erl = bands i;
      hold_counters = (held ∙ holds_after render capture s.erl s.hold_counters) i;
      erl_time_domain = (time i).erl;
      hold_counter_time_domain = (to_z-of_z fits-after ∙ ap (λ (f : Figure). f.hold) time) i;
      startup_phase_length_blocks = s.startup_phase_length_blocks;
      blocks_since_reset = s.blocks_since_reset;
    }
