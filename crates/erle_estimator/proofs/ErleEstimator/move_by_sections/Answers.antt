use Rattle.std.proofs.Common.{rules}
use Rattle.aec3_common.proofs.Tables.{length-mapped}
use Rattle.erle_estimator.proofs.Updates.{sections-made}
use Rattle.erle_estimator.proofs.ErleEstimator.move_by_sections.Goals as goal

pub returns : goal.returns
returns c =
    sections-made c.args.self.now _ _ c.requires.fits.count c.change.ensures (search (rules, length-mapped)) (λ k x y h r. search rules)
