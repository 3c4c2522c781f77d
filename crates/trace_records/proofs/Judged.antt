-- What judging a record tells.
use mathlib.Core.Path.{◌≡◌}
use mathlib.Core.Bool.{true}
use Prim.Native.Nat.{ℕ, ◌≤◌}
use native.Mathlib.Omega.{arith}
use borrow.Author.Tests.{eqb-true, eq-eqb, ne_eqb}
use lib.Dec.{eqb}
use Rattle.aec3_common.specs.declared.refusal.Refusal.{Refusal}
use Rattle.aec3_common.specs.Answers.{number}
use Rattle.aec3_common.specs.Refusal.{unless, accepted, bad_record_length, bad_flag_or_band}
use Rattle.aec3_common.proofs.Choices.{passed, later-passed, first-of-passed}
use Rattle.aec3_common.proofs.Ranges.{from-lo, to-hi}
use Rattle.trace_records.specs.declared.judge.Standing.{Standing}
use Rattle.trace_records.specs.Records.{BlockRecord, Record, block, reset, unknown}
use Rattle.trace_records.specs.Judge.{stands, place_refusal, block_length, length_asked, flags_ok, content_refusal, form_refusal, record_refusal}

-- no refusal has the number 0
pub refused-some : (a : Refusal) → number a ≡ accepted → ⊥
refused-some a e = grind arith

-- ---- form, and then values

module _ (st : Standing) (l : ℕ) (r : Record) where
  pub form-refused : (form_refusal st l r ≡ accepted → ⊥) → record_refusal st l r ≡ form_refusal st l r
  unfolding record_refusal
  form-refused some = rw (ne_eqb (form_refusal st l r) accepted some)

  pub form-passed : form_refusal st l r ≡ accepted → record_refusal st l r ≡ content_refusal r
  unfolding record_refusal
  form-passed none = rw (eq-eqb (form_refusal st l r) accepted none)

  -- an accepted record is in form, and its values pass
  pub both-passed : record_refusal st l r ≡ accepted → (form_refusal st l r ≡ accepted) × (content_refusal r ≡ accepted)
  unfolding record_refusal
  both-passed e = first-of-passed (form_refusal st l r) (content_refusal r) e

  -- a record in form is in its place, and has its length and its flags
  pub in-form : form_refusal st l r ≡ accepted → (place_refusal st r ≡ accepted) × (l ≡ length_asked st r) × (flags_ok r ≡ true)
  unfolding form_refusal
  in-form e =
      let flags = unless (flags_ok r) bad_flag_or_band accepted in
      let (place, rest) = first-of-passed (place_refusal st r) (unless (eqb l (length_asked st r)) bad_record_length flags) e in (
        place,
        eqb-true l (length_asked st r) (passed (eqb l (length_asked st r)) 11 flags rest),
        passed (flags_ok r) 12 accepted (later-passed (eqb l (length_asked st r)) 11 flags rest),
      )

-- ---- a block in form

-- settings stand, and it has the length of their channels
pub record BlockOk (st : Standing) (l : ℕ) : Type 0 where
  pub some : 1 ≤ st.num_capture_channels
  pub few : st.num_capture_channels ≤ 4
  pub long : l ≡ block_length st.num_capture_channels

pub block-ok : (st : Standing) (l : ℕ) (b : BlockRecord) → form_refusal st l (block b) ≡ accepted → BlockOk st l
unfolding place_refusal length_asked
block-ok st l b e =
    let (place, long, _) = in-form st l (block b) e in
    let standing = passed (stands st) 21 accepted place in
    record { some = from-lo 1 4 st.num_capture_channels standing; few = to-hi 1 4 st.num_capture_channels standing; long = long }

-- an accepted reset has settings before it
pub reset-stands : (st : Standing) (l flag : ℕ) → record_refusal st l (reset flag) ≡ accepted → stands st ≡ true
unfolding place_refusal
reset-stands st l flag e = passed (stands st) 21 accepted (in-form st l (reset flag) (both-passed st l (reset flag) e).0).0

-- and no unknown record is accepted
pub unknown-refused : (st : Standing) (l : ℕ) → record_refusal st l unknown ≡ accepted → ⊥
unfolding place_refusal
unknown-refused st l e = omega (arith, (in-form st l unknown (both-passed st l unknown e).0).0)
