-- Bytes that begin with a whole record, or with a block in form.
use mathlib.Core.Path.{◌≡◌, refl, sym, ap, ◌∙◌}
use mathlib.Core.Bool.{Bool, true, false, cond, false≢true}
use mathlib.Core.List.{List}
use Prim.Native.Nat.{ℕ, ◌+◌, ◌-◌, ◌≤◌}
use native.Mathlib.Omega.{arith}
use borrow.Author.Tests.{eq-eqb, ne_eqb, eqb-true}
use mathlib.Core.Logic.{◌⊎◌, inl, inr}
use lib.Dec.{eqb}
use lib.ListN.{length, take, drop, length-drop}
use Rattle.std.specs.Prelude.{Result, Ok, Err, IfOk, MatchOption}
use Rattle.std.specs.Result.{result_ok}
use lib.Seq.{take_all, length-take-le}
use Rattle.aec3_common.specs.declared.refusal.Refusal.{Refusal}
use Rattle.aec3_common.specs.Answers.{number_of}
use Rattle.aec3_common.specs.Refusal.{accepted}
use Rattle.aec3_common.proofs.Choices.{each-of-three}
use Rattle.trace_records.specs.declared.judge.Standing.{Standing}
use Rattle.trace_records.specs.declared.records.Decoded.{Decoded}
use Rattle.trace_records.specs.declared.records.SettingsRecord.{SettingsRecord}
use Rattle.trace_records.specs.declared.records.Decoded.TheVariants.{Settings, Block, Reset}
use Rattle.trace_records.specs.declared.records.BlockBytes.{BlockBytes}
use Rattle.trace_records.specs.Frames.{length_in, framed, record_in}
use Rattle.trace_records.specs.Records.{Record, settings, block, reset, unknown, settings_in, block_in, delay_flag_in, kind_of, settings_kind, block_kind, reset_kind, decoded}
use Rattle.trace_records.specs.Judge.{form_refusal}
use Rattle.trace_records.specs.Steps.{record_from}
use Rattle.trace_records.proofs.Framing.{framed-room}
use Rattle.trace_records.proofs.Judged.{refused-some}
use Rattle.trace_blocks.specs.Steps.{is_block_frame}
use Rattle.trace_state.specs.Apply.{is_block}

-- how long a whole record is
pub record-size : (s : List ℕ) → framed s ≡ true → length (record_in s) ≡ length_in s
record-size s whole = length-take-le (length_in s) (drop 4 s) (omega (arith, framed-room s whole, length-drop 4 s))

-- ---- a block frame

-- the block that a record is under what stands
abbrev pub block_of : Standing → List ℕ → Record
block_of st r = block (block_in st.num_capture_channels r)

pub record BlockFrame (st : Standing) (s : List ℕ) : Type 0 where
  pub whole : framed s ≡ true
  pub kind : decoded st (record_in s) ≡ block_of st (record_in s)
  pub form : form_refusal st (length (record_in s)) (block_of st (record_in s)) ≡ accepted

-- a record that is decoded to a block
pub block-is : (st : Standing) (r : List ℕ) → is_block (decoded st r) ≡ true → decoded st r ≡ block_of st r
unfolding decoded is_block
block-is st r = go (eqb (kind_of r) settings_kind) (eqb (kind_of r) block_kind) (eqb (kind_of r) reset_kind)
  where
    by : Bool → Bool → Bool → Record
    by a b c = cond a (settings (settings_in r)) (cond b (block_of st r) (cond c (reset (delay_flag_in r)) unknown))

    go : (a b c : Bool) → is_block (by a b c) ≡ true → by a b c ≡ block_of st r
    go true b c e = absurd (false≢true e)
    go false true c e = refl
    go false false true e = absurd (false≢true e)
    go false false false e = absurd (false≢true e)

module _ (st : Standing) (s : List ℕ) where
  abbrev form_ok : Bool
  form_ok = eqb (form_refusal st (length (record_in s)) (decoded st (record_in s))) accepted

  pub frame-of : is_block_frame st s ≡ true → BlockFrame st s
  unfolding is_block_frame
  frame-of all =
      let (whole, is, form) = each-of-three (framed s) (is_block (decoded st (record_in s))) form_ok all in
      let kind = block-is st (record_in s) is in
      record { whole = whole; kind = kind; form = rw kind at (eqb-true (form_refusal st (length (record_in s)) (decoded st (record_in s))) accepted form) }

  pub is-frame : BlockFrame st s → is_block_frame st s ≡ true
  unfolding is_block_frame is_block
  is-frame p = rw p.kind (simp (p.whole, eq-eqb _ _ p.form))

  -- bytes that begin with no whole record
  pub frame-none : framed s ≡ false → is_block_frame st s ≡ false
  unfolding is_block_frame
  frame-none none = rw none

  module _ {r : List ℕ} (whole : framed s ≡ true) (is : r ≡ record_in s) where
    -- a block, by its form
    pub frame-by :
        {form : ℕ} → record_from st r (Ok Block) ≡ decoded st r → form ≡ form_refusal st (length r) (block_of st r)
        → (t : Bool) → eqb form accepted ≡ t → is_block_frame st s ≡ t
    unfolding is_block_frame is_block record_from
    frame-by kind form t e =
        let kind-is = rw is at kind in
        let same = rw is at form in
        rw (whole, ← kind-is, ← same, e)

    -- as its form is judged
    pub frame-told :
        record_from st r (Ok Block) ≡ decoded st r → (judged : Result BlockBytes Refusal) → number_of judged ≡ form_refusal st (length r) (block_of st r)
        → IfOk judged (λ b. b.bytes.now ≡ r)
        → MatchOption (result_ok judged) (is_block_frame st s ≡ false) (λ b. (is_block_frame st s ≡ true) × (b.bytes.now ≡ record_in s))
    frame-told kind (Ok b) form own = (frame-by kind form true refl, own ∙ is)
    frame-told kind (Err refusal) form own = frame-by kind form false (ne_eqb _ _ (refused-some refusal))

    -- of no kind that is known
    pub frame-unknown : unknown ≡ decoded st r → is_block_frame st s ≡ false
    unfolding is_block_frame is_block
    frame-unknown kind =
        let kind-is = rw is at kind in
        rw (whole, ← kind-is) refl

    -- of another kind
    pub frame-other :
        (d : Decoded) → record_from st r (Ok d) ≡ decoded st r → ((x : SettingsRecord) × (d ≡ Settings x)) ⊎ ((flag : ℕ) × (d ≡ Reset flag))
        → is_block_frame st s ≡ false
    unfolding is_block_frame is_block record_from
    frame-other d kind other =
        let none : is_block (decoded st (record_in s)) ≡ false = rw is at (sym (ap is_block kind) ∙ none-of other) in
        rw (whole, none)
      where
        none-of : ((x : SettingsRecord) × (d ≡ Settings x)) ⊎ ((flag : ℕ) × (d ≡ Reset flag)) → is_block (record_from st r (Ok d)) ≡ false
        none-of (inl e) = ap (λ (k : Decoded). is_block (record_from st r (Ok k))) e.1
        none-of (inr e) = ap (λ (k : Decoded). is_block (record_from st r (Ok k))) e.1

-- bytes that are lent to the end
pub lent-ahead : (s : List ℕ) (used : ℕ) → take (length s - used) (drop used s) ≡ drop used s
lent-ahead s used = take_all (length s - used) (drop used s) (omega (arith, length-drop used s))

-- where the record ends
pub frame-ends : (s : List ℕ) (used : ℕ) {st : Standing} → used ≤ length s → BlockFrame st (drop used s) → used + 4 + length_in (drop used s) ≤ length s
frame-ends s used within frame = omega (arith, framed-room (drop used s) frame.whole, length-drop used s)
