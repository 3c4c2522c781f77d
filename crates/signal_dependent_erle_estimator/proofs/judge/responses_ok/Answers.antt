use Rattle.std.proofs.Common.{length}
use Rattle.aec3_common.proofs.Bands.{spectra-counted}
use Rattle.aec3_common.proofs.Choices.{and_assoc}
use Rattle.section_echoes.specs.Packed.{total}
use Rattle.signal_dependent_erle_estimator.specs.SignalDependent.{responses_ok}
use Rattle.signal_dependent_erle_estimator.proofs.judge.responses_ok.Goals as goal

pub returns : goal.returns
unfolding responses_ok
returns c =
    let lent = c.args.responses.now in
    simp (c.counts_ok.ensures, c.add_up_to.ensures, and_assoc, spectra-counted (length lent.responses.now) (total lent.blocks.now))
