-- Bytes with more behind them.
use mathlib.Core.Path.{◌≡◌}
use mathlib.Core.Bool.{true, false}
use mathlib.Core.List.{List, ◌++◌}
use Prim.Native.Nat.{ℕ, ◌+◌, ◌≤◌, ◌<◌}
use native.Mathlib.Omega.{arith}
use borrow.Author.Tests.{le-leb}
use lib.Dec.{leb}
use lib.ListN.{length, drop, length-append, length-drop, get_or-append}
use lib.Seq.{take-append-le, drop-append-le}
use Rattle.aec3_common.proofs.Choices.{and_left}
use Rattle.encoding.specs.Bytes.{byte_at, half_at, word_at}
use Rattle.trace_records.specs.Frames.{length_in, length_ok, framed, record_in}
use Rattle.trace_records.proofs.Framing.{framed-room}

module _ (s more : List ℕ) where
  byte-front : (i : ℕ) → i < length s → byte_at (s ++ more) i ≡ byte_at s i
  byte-front i h = get_or-append s more 0 i h

  -- the L stands in the first four bytes
  pub length_front : 4 ≤ length s → length_in (s ++ more) ≡ length_in s
  unfolding word_at half_at
  length_front h = rw (byte-front 0 (omega arith), byte-front 1 (omega arith), byte-front 2 (omega arith), byte-front 3 (omega arith))

  -- one that no record can have
  pub bad-front : 4 ≤ length s → length_ok (length_in s) ≡ false → framed (s ++ more) ≡ false
  unfolding framed
  bad-front h bad = rw (length_front h, bad)

  module _ (whole : framed s ≡ true) where
    abbrev room : 4 + length_in s ≤ length s
    room = framed-room s whole

    pub framed-front : framed (s ++ more) ≡ true
    unfolding framed
    framed-front =
        rw (length_front (omega (arith, room)), and_left (length_ok (length_in s)) (leb (4 + length_in s) (length s)) whole)
        (le-leb (4 + length_in s) (length (s ++ more)) (omega (arith, room, length-append s more)))

    pub record-front : record_in (s ++ more) ≡ record_in s
    record-front =
        rw (length_front (omega (arith, room)), drop-append-le 4 s more (omega (arith, room)))
        (take-append-le (length_in s) (drop 4 s) more (omega (arith, room, length-drop 4 s)))

    pub rest-front : drop (4 + length_in (s ++ more)) (s ++ more) ≡ drop (4 + length_in s) s ++ more
    rest-front = rw (length_front (omega (arith, room))) (drop-append-le (4 + length_in s) s more room)
