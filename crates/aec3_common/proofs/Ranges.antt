-- What the tests of numbers 2 and 3 tell.
use Rattle.std.proofs.Common.{◌≡◌, ℕ, ◌+◌, ◌≤◌, true, ◌&&◌, ◌||◌, leb, leb-true}
use borrow.Author.Tests.{lt-leb}
use Rattle.aec3_common.specs.Refusal.{from_to}
use Rattle.aec3_common.specs.Settings.{headroom_blocks, room_for_sections, ranges_ok, sections_ok, max_sections, max_filter_length_blocks, max_headroom_samples}
use Rattle.aec3_common.proofs.Choices.{and_left, and_right}

module _ (lo hi n : ℕ) (ok : from_to lo hi n ≡ true) where
  pub from-lo : lo ≤ n
  from-lo = leb-true lo n (and_left (leb lo n) (leb n hi) ok)

  pub to-hi : n ≤ hi
  to-hi = leb-true n hi (and_right (leb lo n) (leb n hi) ok)

module _ (sections length samples : ℕ) (ok : ranges_ok sections length samples ≡ true) where
  -- sections and filter length, each in its range
  both : from_to 1 max_sections sections && from_to 1 max_filter_length_blocks length ≡ true
  both = and_left _ (leb samples max_headroom_samples) ok

  pub some-sections : 1 ≤ sections
  some-sections = from-lo 1 max_sections sections (and_left _ _ both)

  pub few-sections : sections ≤ max_sections
  few-sections = to-hi 1 max_sections sections (and_left _ _ both)

  pub short-filter : length ≤ max_filter_length_blocks
  short-filter = to-hi 1 max_filter_length_blocks length (and_right (from_to 1 max_sections sections) _ both)

  pub short-headroom : samples ≤ max_headroom_samples
  short-headroom = leb-true samples max_headroom_samples (and_right (from_to 1 max_sections sections && from_to 1 max_filter_length_blocks length) _ ok)

-- settings that pass number 3 lie in their ranges
pub sections-in-ranges :
    (sections length samples : ℕ) → sections_ok sections length samples ≡ true → ranges_ok sections length samples ≡ true
unfolding sections_ok
sections-in-ranges sections length samples ok =
    and_left (ranges_ok sections length samples) (leb sections 1 || room_for_sections sections length (headroom_blocks samples)) ok

-- and with two sections or more these and the headroom blocks fit into the filter
pub room-for-sections :
    (sections length samples : ℕ) → sections_ok sections length samples ≡ true → 2 ≤ sections → sections + headroom_blocks samples ≤ length
unfolding sections_ok
room-for-sections sections length samples ok many =
    let roomy = leb (sections + headroom_blocks samples) length in
    let either = and_right (ranges_ok sections length samples) (leb sections 1 || roomy) ok in
    leb-true (sections + headroom_blocks samples) length (rw (lt-leb sections 1 many) at either)
