use Rattle.std.proofs.Common.{rules, None, is_some, unwrap_or, false, get_or}
use Rattle.std.specs.Float.{nan}
use Rattle.filter_sections.specs.Subbands.{max_erle}
use Rattle.erle_bands.specs.Band.{stream_moved}
use Rattle.erle_bands.specs.Steps.{all_streams_moved}
use Rattle.erle_bands.proofs.Bands.{changed-where}
use Rattle.erle_bands.proofs.streams.NewRatios.move_stream.Goals as goal

pub returns : goal.returns
unfolding all_streams_moved
returns c =
    changed-where nan (λ k. is_some (get_or c.args.self.now.ratios.now k None))
    (λ k old. stream_moved c.args.limits.min (max_erle c.args.limits.max_l c.args.limits.max_h k) (unwrap_or (get_or c.args.self.now.ratios.now k None) nan) (get_or c.args.self.now.low.now k false) old)
    c.change.ensures (search rules) (λ k x y h r. search rules)
