-- What an inner function of the code promises; no part of the definition.
use Rattle.std.specs.Prelude.{◌≡◌, List, ℕ, ◌-◌, ◌≤◌, ◌<◌, take, drop}
use Rattle.filter_sections.specs.Sections.{evenly, section_sizes, padded}

-- What is known where doubling has ended: the sizes so far stand in a table of so many places, and the sections left share the blocks left evenly.
pub record Doubled (n blocks : ℕ) (places : ℕ) (sizes : List ℕ) (taken left : ℕ) : Type 0 where
  pub some : taken < n
  pub few : left ≤ blocks
  pub begun : sizes ≡ padded places (take taken (section_sizes n blocks))
  pub rest : drop taken (section_sizes n blocks) ≡ evenly (n - taken) left
