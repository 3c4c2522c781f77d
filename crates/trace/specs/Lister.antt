-- A trace fed to its listing, piece by piece.
use Rattle.std.specs.Prelude.{ℕ, cond, List, [], ◌++◌}
use Rattle.trace_text.specs.Text.{header, lines}
use Rattle.trace_state.specs.Feed.{items_ahead}
use Rattle.trace.specs.declared.lister.Lister.{Lister}

-- the size of a table that has room for each line
abbrev pub longest_line : ℕ
longest_line = 49

-- what is yet to be written of a trace, of which these bytes are left: the header, if it is still due, and the lines of what is ahead
abbrev pub text_ahead : Lister → List ℕ → List ℕ
text_ahead l s = cond l.header_due header [] ++ lines (items_ahead l.trace s)
