-- The numbers under which a call or a record is turned away, and how the first of them in order is found.
use Rattle.std.specs.Prelude.{ℕ, Bool, cond, ◌&&◌, ◌==◌, nat_lt, nat_le}

-- the call is accepted
abbrev pub accepted : ℕ
accepted = 0

-- not 1 ≤ min ≤ max_l, max_h ≤ 100,000
abbrev pub bad_limits : ℕ
bad_limits = 1

-- a channel count outside its range
abbrev pub bad_channel_count : ℕ
bad_channel_count = 2

-- sections, filter length or headroom outside its range; or two or more sections, and more than the filter length less
-- headroom blocks
abbrev pub bad_sections : ℕ
bad_sections = 3

-- ring slots out of range, or headroom blocks above the slots
abbrev pub bad_ring : ℕ
bad_ring = 4

-- a lent slice of another length than the counts ask, or more response blocks for a channel than the filter has
abbrev pub bad_length : ℕ
bad_length = 5

-- a spectrum or response value that is NaN, below 0 or above 2^100
abbrev pub bad_value : ℕ
bad_value = 6

-- log2 of NaN, zero or less
abbrev pub bad_log2_input : ℕ
bad_log2_input = 7

-- an offset larger in size than the ring
abbrev pub bad_offset : ℕ
bad_offset = 8

-- a ring place not below the slots
abbrev pub bad_place : ℕ
bad_place = 9

-- a record cut short, or L below 2 or above 65,532
abbrev pub bad_frame : ℕ
bad_frame = 10

-- an unknown kind
abbrev pub unknown_kind : ℕ
unknown_kind = 11

-- an L that is not its kind's
abbrev pub bad_record_length : ℕ
bad_record_length = 12

-- a flag byte above 1, or a printed band above 64
abbrev pub bad_flag_or_band : ℕ
bad_flag_or_band = 13

-- a state whose own settings break 1, 2 or 3; or with a point count outside 0 to 6 (fullband 0 to 5), a held capture or
-- residual sum not within 0 to 2^110, an active section not below its section count, or section boundaries other than its
-- settings give
abbrev pub bad_state : ℕ
bad_state = 20

-- a call's channel count that is not the state's
abbrev pub other_channel_count : ℕ
other_channel_count = 21

-- a block or reset before settings
abbrev pub no_settings : ℕ
no_settings = 22

-- a second settings record
abbrev pub second_settings : ℕ
second_settings = 23

-- the test that a whole number lies in lo to hi
abbrev pub from_to : ℕ → ℕ → ℕ → Bool
from_to lo hi n = nat_le lo n && nat_le n hi

-- The refusal n where a test fails, else what the later tests say. A chain of these gives the first refusal in order.
abbrev pub unless : Bool → ℕ → ℕ → ℕ
unless test n later = cond test later n

-- a refusal that was found, else what the later tests say
abbrev pub first_of : ℕ → ℕ → ℕ
first_of n later = cond (n == accepted) later n

-- the lesser of two refusals, where 0 is none
unfoldable pub lesser : ℕ → ℕ → ℕ
lesser a b = cond (a == accepted) b (cond (b == accepted) a (cond (nat_lt a b) a b))
