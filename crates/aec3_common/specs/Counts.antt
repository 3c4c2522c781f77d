-- Counts and holds, with the ends at which they stay.
use Rattle.std.specs.Prelude.{ℕ, ◌+◌, Bool, false, cond, ℤ, pos, negsuc, ◌-ℤ◌, ◌==◌, int_le, nat_lt}

-- one more of what is counted; a count stays at 4,294,967,295
unfoldable pub one_more : ℕ → ℕ
one_more n = cond (nat_lt n 4294967295) (n + 1) n

-- a hold that is exactly 0
abbrev pub is_zero : ℤ → Bool
is_zero (pos n) = n == 0
is_zero (negsuc n) = false

-- a hold falls by 1; it stays at -2,147,483,648
unfoldable pub fallen : ℤ → ℤ
fallen h = cond (int_le h (negsuc 2147483647)) h (h -ℤ pos 1)
