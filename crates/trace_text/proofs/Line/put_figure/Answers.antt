use Rattle.std.proofs.Common.{[], ◌∷◌, append_assoc}
use Rattle.trace_text.specs.Text.{figure}
use Rattle.trace_text.proofs.Line.put_figure.Goals as goal

pub returns-clause-text : goal.returns-clause-text
unfolding figure
returns-clause-text c =
    rw (c.put_text-2.ensures.text, c.put_text.ensures.text, c.hex_digits.ensures, c.bits_of.ensures) (append_assoc _ (32 ∷ []) _)
