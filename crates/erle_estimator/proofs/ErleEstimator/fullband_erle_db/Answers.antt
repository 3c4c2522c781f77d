use Rattle.std.proofs.Common.{◌∙◌, sym, ap}
use Rattle.aec3_common.specs.Answers.{number_of}
use Rattle.fullband_erle_estimator.specs.FullBand.{state_refusal as FullBand·state_refusal, decibel_answer as FullBand·decibel_answer}
use Rattle.erle_estimator.specs.Erle.{state_refusal, decibel_answer}
use Rattle.erle_estimator.proofs.Judged.{state-passed, fullband-passed}
use Rattle.erle_estimator.proofs.ErleEstimator.fullband_erle_db.Goals as goal

pub returns : goal.returns
unfolding decibel_answer state_refusal FullBand·decibel_answer FullBand·state_refusal
returns c =
    let ok = state-passed c.args.self (sym c.judge.ensures ∙ ap number_of c.in_ok-judge.was) in
    c.fullband_erle_db.ensures ∙ simp (c.fullband_part.ensures, fullband-passed c.args.self ok, ok)
