use Rattle.std.proofs.Common.{rules, get_or, ap, ◌∙◌}
use Rattle.std.specs.Float.{nan}
use Rattle.aec3_common.proofs.Changes.{changed-all}
use Rattle.correction_factors.specs.Steps.{corrected_by}
use Rattle.correction_factors.specs.Streams.{corrected_band, last_copied}
use Rattle.correction_factors.proofs.streams.correct_stream.Goals as goal

pub returns : goal.returns
unfolding corrected_by
returns c =
    let a = c.args in
    c.copy_last.ensures
    ∙ ap last_copied
    (changed-all nan (λ k old. corrected_band a.limits.min a.limits.max_l a.limits.max_h k (get_or a.average.now k nan) (get_or a.factors.now k nan))
    c.change.ensures (search rules) (λ k x y h r. search rules))
