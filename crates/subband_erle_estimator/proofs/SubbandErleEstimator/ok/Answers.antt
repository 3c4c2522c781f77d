use Rattle.std.proofs.Common.{◌≡◌, true, false, eqb, sym, ap, ◌∙◌, rules}
use Rattle.std.proofs.lemmas.Iterator.{YieldsList-from_slice, YieldsList-from_take}
use Rattle.std.proofs.lemmas.Iterator.Search.{all_from_yields_List}
use Rattle.aec3_common.specs.Refusal.{accepted}
use Rattle.subband_erle_estimator.specs.Subband.{settings_refusal, channel_ok, state_ok}
use Rattle.aec3_common.proofs.Refusals.{outcome-told}
use Rattle.subband_erle_estimator.proofs.SubbandErleEstimator.ok.Goals as goal

pub returns-then-is_ok : goal.returns-then-is_ok
unfolding state_ok
returns-then-is_ok c =
    let passes : eqb (settings_refusal c.args.self.now.settings) accepted ≡ true =
    ap (λ n. eqb n accepted) (sym c.judge.ensures) ∙ outcome-told c.judge.result ∙ sym c.is_ok.ensures.value ∙ c.if-is_ok.true in
    let s = c.args.self.now in
    rw passes
    (all_from_yields_List channel_ok _ _ c.all.result c.all.ensures.ran
    (YieldsList-from_take s.settings.num_capture_channels (YieldsList-from_slice s.channels (search rules)) (search rules))
    (λ x b q k. search rules))

pub returns-else-is_ok : goal.returns-else-is_ok
unfolding state_ok
returns-else-is_ok c =
    let fails : eqb (settings_refusal c.args.self.now.settings) accepted ≡ false =
    ap (λ n. eqb n accepted) (sym c.judge.ensures) ∙ outcome-told c.judge.result ∙ sym c.is_ok.ensures.value ∙ c.if-is_ok.false in
    rw fails c.if-is_ok.false
