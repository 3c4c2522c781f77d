-- Numbers in a list of bytes, little-endian.
use Rattle.std.specs.Prelude.{ℕ, ◌+◌, ◌*◌, List, get_or}

-- the byte at i; past the end it counts as 0
abbrev pub byte_at : List ℕ → ℕ → ℕ
byte_at s i = get_or s i 0

-- the number of 16 bits at i: its lower byte first
unfoldable pub half_at : List ℕ → ℕ → ℕ
half_at s i = byte_at s i + 256 * byte_at s (i + 1)

-- the number of 32 bits at i: its lower half first
unfoldable pub word_at : List ℕ → ℕ → ℕ
word_at s i = half_at s i + 65536 * half_at s (i + 2)
