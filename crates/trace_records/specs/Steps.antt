-- What functions of the code promise besides; no part of the definition of a listing.
use Rattle.std.specs.Prelude.{◌≡◌, ℕ, ◌+◌, ◌*◌, Bool, false, cond, List, ◌++◌, ltb, Float, length, take, Result, Ok, Err, MatchResult, ◌≢◌}
use Rattle.aec3_common.specs.declared.refusal.Refusal.{Refusal}
use Rattle.aec3_common.specs.declared.refusal.Refusal.TheVariants.{UnknownKind}
use Rattle.aec3_common.specs.Calls.{value_refusal}
use Rattle.aec3_common.specs.Lists.{tab}
use Rattle.trace_records.specs.declared.judge.Standing.{Standing}
use Rattle.trace_records.specs.declared.records.Decoded.{Decoded}
use Rattle.trace_records.specs.declared.records.Decoded.TheVariants.{Settings, Block, Reset}
use Rattle.trace_records.specs.declared.records.RecordKind.{RecordKind}
use Rattle.trace_records.specs.declared.records.RecordKind.TheVariants.{Settings as Kind·Settings, Block as Kind·Block, Reset as Kind·Reset}
use Rattle.trace_records.specs.Records.{Record, settings, block, reset, unknown, settings_kind, block_kind, reset_kind, is_set, converged_byte, render_in, capture_in, residual_in, block_in}

-- ---- a record in an enum

-- the number that a record of a kind begins with
abbrev pub number_of_kind : RecordKind → ℕ
number_of_kind Kind·Settings = settings_kind
number_of_kind Kind·Block = block_kind
number_of_kind Kind·Reset = reset_kind

-- the kind with a number, or number 11, where it is none's
abbrev pub KindOf : ℕ → Result RecordKind Refusal → Type 0
KindOf number r =
    MatchResult r (λ kind. number ≡ number_of_kind kind)
    (λ refusal. (refusal ≡ UnknownKind) × (number ≢ settings_kind) × (number ≢ block_kind) × (number ≢ reset_kind))

-- the record that a decoded one stands for, beside the bytes: it holds no spectra of a block; and where there is none, an unknown one
unfoldable pub record_from : Standing → List ℕ → Result Decoded Refusal → Record
record_from st r (Ok (Settings s)) = settings s
record_from st r (Ok Block) = block (block_in st.num_capture_channels r)
record_from st r (Ok (Reset delay_flag)) = reset delay_flag
record_from st r (Err refusal) = unknown

-- ---- a block, in tables

-- the converged flags of n channels in a table of four; no behind them
unfoldable pub flag_table : ℕ → List ℕ → List Bool
flag_table n r = tab 4 (λ ch. cond (ltb ch n) (is_set (converged_byte r ch)) false)

-- All numbers of a block of n channels, list by list
abbrev pub numbers_in : ℕ → List ℕ → List Float
numbers_in n r = render_in n r ++ capture_in n r ++ residual_in n r

-- stand at the front of a table, and it is told under which number they are turned away, or 0.
pub record BlockRead (n : ℕ) (r : List ℕ) (values : List Float) (refused : ℕ) : Type 0 where
  pub long : length values ≡ 585
  pub front : take (65 + 130 * n) values ≡ numbers_in n r
  pub told : refused ≡ value_refusal (numbers_in n r)
