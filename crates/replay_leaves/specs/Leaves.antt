-- Which records ask for a leaf: 0101, of one number, and 0102 and 0103, of three.
use Rattle.std.specs.Prelude.{ℕ, ◌≡◌, ◌⊎◌}

-- a record of a kind with so many bytes behind it
abbrev pub IsLeaf : ℕ → ℕ → Type 0
IsLeaf kind bytes = ((kind ≡ 257) × (bytes ≡ 4)) ⊎ (((kind ≡ 258) ⊎ (kind ≡ 259)) × (bytes ≡ 12))
