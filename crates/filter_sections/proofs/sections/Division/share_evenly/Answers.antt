use Rattle.std.proofs.Common.{rules}
use Rattle.filter_sections.proofs.Loops.{shared_at, shared-all}
use Rattle.filter_sections.proofs.sections.Division.share_evenly.Goals as goal

pub returns : goal.returns
returns c =
    shared-all c.requires c.change.ensures (search rules) c.args.self.few
    (λ k x y from to made. let value = shared_at c.requires k from to in search rules)
