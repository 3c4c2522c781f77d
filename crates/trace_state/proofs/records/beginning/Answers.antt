-- The estimator of settings that no start passes.
use Rattle.std.proofs.Common.{refl, sym, subst}
use Rattle.trace_state.specs.Apply.{beginning}
use Rattle.trace_state.specs.Along.{JudgedAlone}
use Rattle.trace_state.specs.Range.{RowsInRange}
use Rattle.trace_state.proofs.Range.{rows-in-range}
use Rattle.trace_state.proofs.Running.{judged-alone}
use Rattle.trace_state.proofs.records.beginning.Goals as goal

pub returns-clause-value : goal.returns-clause-value
unfolding beginning
returns-clause-value c = rw (c.started_with.ensures, c.refused_settings.ensures) refl

pub returns-clause-judged_alone : goal.returns-clause-judged_alone
returns-clause-judged_alone c = subst JudgedAlone (sym (returns-clause-value c)) judged-alone

pub returns-clause-rows_in_range : goal.returns-clause-rows_in_range
returns-clause-rows_in_range c = subst RowsInRange (sym (returns-clause-value c)) rows-in-range
