use Rattle.std.proofs.Common.{rules, arith, ◌≡◌, List, length, take, ◌∙◌}
use lib.Ieee.{Float}
use Rattle.std.proofs.lemmas.List.{take_all}
use Rattle.std.proofs.lemmas.Iterator.{YieldsList-from_slice, YieldsList-from_zip}
use Rattle.std.proofs.lemmas.Iterator.Consumers.{fold_from_yields_List}
use Rattle.fullband_channel.proofs.Sums.{with_both, both-sums}
use Rattle.fullband_channel.proofs.channel.power_sums.Goals as goal

pub returns : goal.returns
returns c =
    let cut : List Float = take (length c.args.y2.now) c.args.e2.now in
    let same : cut ≡ c.args.e2.now = take_all _ _ (omega (arith, c.requires)) in
    fold_from_yields_List _ with_both _ _ c.fold.ensures.ran
    (YieldsList-from_zip (YieldsList-from_slice c.args.y2.now cc) (YieldsList-from_slice cut cc))
    (λ a x b q k. search rules)
    ∙ rw same (both-sums _ c.args.y2.now c.args.e2.now c.requires)
