use Rattle.std.proofs.Common.{List, ◌++◌, sym, ap, ◌∙◌, true}
use mathlib.Core.Path.{subst}
use Rattle.trace_text.specs.Text.{header, Item, lines}
use Rattle.trace_state.specs.declared.Trace.{Trace}
use Rattle.trace_state.specs.Listing.{listing}
use Rattle.trace_state.proofs.Staying.{Stays, stays-beginning}
use Rattle.trace.specs.Lister.{text_ahead}
use Rattle.trace.proofs.Whole.{ahead-beginning}
use Rattle.trace.proofs.lister.ListerTransducer.start.Goals as goal

pub returns-clause-sound : goal.returns-clause-sound
returns-clause-sound c = subst Stays (sym c.beginning.ensures.value) stays-beginning

pub returns-clause-ahead : goal.returns-clause-ahead
unfolding listing
returns-clause-ahead c = λ s.
    ap (λ (t : Trace). text_ahead (record { trace = t; header_due = true }) s) c.beginning.ensures.value
    ∙ ap (λ (is : List Item). header ++ lines is) (ahead-beginning s)
