use Rattle.std.proofs.Common.{◌≡◌, ◌∙◌, ℕ, ◌*◌, Bool, true, false, ◌&&◌, List, ◌++◌, length, append_assoc, ap, sym, refl, eqb}
use lib.Ieee.{Float}
use Rattle.aec3_common.specs.Binary32.{values_ok}
use Rattle.aec3_common.specs.Calls.{value_refusal}
use Rattle.aec3_common.specs.Refusal.{lesser, unless, bad_length}
use Rattle.aec3_common.proofs.Values.{value_refusal_append}
use Rattle.aec3_common.proofs.Choices.{and_assoc}
use Rattle.signal_dependent_erle_estimator.specs.declared.settings.SignalDependentSettings.{SignalDependentSettings}
use Rattle.signal_dependent_erle_estimator.specs.SignalDependent.{Update, lent_lengths_ok, all_lengths_ok, lent_values, refusal_by, refusal_beside, refusal_of}
use Rattle.signal_dependent_erle_estimator.proofs.Inputs.judge_update.Goals as goal

-- 5 of what is lent besides comes before 6
length-first : (xs : List Float) → lesser (value_refusal xs) bad_length ≡ bad_length
unfolding value_refusal lesser
length-first xs = go (values_ok xs)
  where
    go : (ok : Bool) → lesser (unless ok 6 0) 5 ≡ 5
    go true = refl
    go false = refl

lengths-first :
    (lent long : Bool) (values others : List Float)
    → unless (lent && true) bad_length (lesser (value_refusal values) (unless long bad_length (value_refusal others)))
    ≡ unless (lent && long) bad_length (lesser (value_refusal values) (value_refusal others))
lengths-first false long values others = refl
lengths-first true true values others = refl
lengths-first true false values others = length-first values

-- the two streams are what the caller is lent besides
streams-beside :
    {n others : ℕ} (ok : Bool) (g : SignalDependentSettings) (u : Update) (average average_compensated : List Float)
    → others ≡ unless (eqb (length average) (u.channels * 65) && eqb (length average_compensated) (u.channels * 65)) bad_length (value_refusal (average ++ average_compensated))
    → n ≡ refusal_beside ok g u true others
    → n ≡ refusal_of ok g u average average_compensated
unfolding refusal_of all_lengths_ok
streams-beside ok g u average average_compensated judged e =
    let lent = lent_lengths_ok g.layout.filter_length_blocks u in
    let plain = eqb (length average) (u.channels * 65) in
    let compensated = eqb (length average_compensated) (u.channels * 65) in
    let streams = average ++ average_compensated in
    let lengths = sym (and_assoc lent plain compensated) in
    let values = sym (value_refusal_append (lent_values u) streams) ∙ ap value_refusal (sym (append_assoc (lent_values u) average average_compensated)) in
    let others = ap (λ (m : ℕ). unless (lent && true) bad_length (lesser (value_refusal (lent_values u)) m)) judged ∙ lengths-first lent (plain && compensated) (lent_values u) streams in
    e ∙ (λ i. refusal_by ok g u true (others i)) ∙ (λ i. refusal_by ok g u (lengths i) (values i))

pub returns : goal.returns
returns c = streams-beside _ _ _ _ _ c.judge.ensures c.judge_beside.ensures
