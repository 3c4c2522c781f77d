-- The answer of the walk to the first converged channel: for an inner contract, no part of the definition.
use Rattle.std.specs.Prelude.{Bool, cond, List, [], ◌∷◌, ℕ, suc, Option, Some, None}

-- the first channel whose flag stands, counted from ch on, or that none does
unfoldable pub first_from : ℕ → List Bool → Option ℕ
first_from ch [] = None
first_from ch (flag ∷ flags) = cond flag (Some ch) (first_from (suc ch) flags)
