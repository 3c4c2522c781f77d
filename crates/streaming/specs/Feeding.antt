-- An input that is fed in pieces, and what is written of it.
use Rattle.std.specs.Prelude.{◌≡◌, ℕ, ◌+◌, ◌-◌, ◌≤◌, ◌<◌, Bool, true, false, List, [], ◌++◌, length, take, drop, Option, Some}
use Rattle.std.specs.Io.KnownBytes.{Appends, Consumes, IsAtEnd}
use Rattle.encoding.specs.Text.{laid}
use Rattle.streaming.specs.declared.reading.Held.{Held}
use Rattle.streaming.specs.declared.transducer.Fed.{Fed}
use Rattle.streaming.specs.declared.transducer.Stop.{Stop}
use Rattle.streaming.specs.declared.transducer.Stop.TheVariants.{WantsBytes, WantsRoom, Done}

-- Of bytes that are no whole record yet, no more than these are held: a record has four bytes of length and 65,532 at most behind them.
abbrev pub most_held : ℕ
most_held = 65536

-- what is yet to be written where feeding has stopped: nothing once it is done
unfoldable pub text_left : Stop → List ℕ → List ℕ
text_left WantsBytes text = text
text_left WantsRoom text = text
text_left Done text = []

-- Feeding some bytes writes a text behind a place of a table. It, and what is left to be written, are what was ahead, whatever bytes follow (if
-- the input ends with these, none). At the end of the input nothing is left where it stops for want of bytes; before the end less than a
-- record is. With nothing written at the front of a table it stops for want of room only if the table is too small.
pub record Feeds
    {S : Type 0} (least : ℕ) (ahead : S → List ℕ → List ℕ) (sound : S → Type 0) (before after : S) (s : List ℕ) (ended : Bool) (table new_table : List ℕ) (at : ℕ) (r : Fed)
    : Type 0
  where
    pub text : List ℕ
    pub fits : at + length text ≤ length table
    pub written : new_table ≡ laid table at text
    pub place : r.at ≡ at + length text
    pub within : r.used ≤ length s
    pub keeps : sound after
    pub rest : (more : List ℕ) → (ended ≡ true → more ≡ []) → ahead before (s ++ more) ≡ text ++ text_left r.stop (ahead after (drop r.used s ++ more))
    pub all : ended ≡ true → r.stop ≡ WantsBytes → ahead after (drop r.used s) ≡ []
    pub short : ended ≡ false → r.stop ≡ WantsBytes → length s - r.used < most_held
    pub full : r.stop ≡ WantsRoom → r.at ≡ 0 → length table < least

-- Bytes were read behind those that are held: all of them stand at the front of the table then. The input has ended only if none are left.
pub record ReadOn (before after : Option (List ℕ)) (held table : List ℕ) (h : Held) : Type 0 where
  pub got : List ℕ
  pub front : h.from ≡ 0
  pub within : h.to ≤ length table
  pub now : take h.to table ≡ held ++ got
  pub taken : Consumes before after got
  pub end : h.ended ≡ true → IsAtEnd after

-- What went out begins the text of the bytes that were taken, whatever follows them.
pub record Begun (reader_now writer_then writer_now : Option (List ℕ)) (whole : List ℕ → List ℕ) (bytes : List ℕ) : Type 0 where
  pub taken : List ℕ
  pub left : List ℕ
  pub split : bytes ≡ taken ++ left
  pub reads : reader_now ≡ Some left
  pub text : List ℕ
  pub writes : Appends writer_then writer_now text
  pub begins : (more : List ℕ) → (later : List ℕ) × (whole (taken ++ more) ≡ text ++ later)
