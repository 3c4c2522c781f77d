-- A line that is made piece by piece; no part of the definition of a listing.
use Rattle.std.specs.Prelude.{ℕ, List, take}
use Rattle.trace_text.specs.declared.Line.{Line}

-- what stands of it in its table
abbrev pub said : Line → List ℕ
said line = take line.end line.table
