-- What inner functions of the code promise; no part of a definition.
use Rattle.std.specs.Prelude.{◌≡◌, ℕ, ◌<◌, ◌≤◌, List, get_or}

-- of a table: each entry from one on and below another was made, by a relation, of its index and of what it was; the others are as they were
pub record Changed {A : Type 0} (made : ℕ → A → A → Type 0) (from to : ℕ) (old new : List A) : Type 0 where
  pub within : (k : ℕ) (d : A) → from ≤ k → k < to → made k (get_or old k d) (get_or new k d)
  pub below : (k : ℕ) (d : A) → k < from → get_or new k d ≡ get_or old k d
  pub above : (k : ℕ) (d : A) → to ≤ k → get_or new k d ≡ get_or old k d
