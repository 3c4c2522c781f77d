-- Feeding keeps what a run from the beginning keeps.
use mathlib.Core.Path.{◌≡◌, refl}
use mathlib.Core.Bool.{Bool, true, false, cond}
use mathlib.Core.List.{List}
use Prim.Native.Nat.{ℕ, zero, suc, ◌-◌, ◌≤◌, ◌<◌}
use native.Mathlib.Omega.{arith}
use borrow.Author.Tests.{ltb-true, eqb-true}
use lib.Dec.{eqb, ltb}
use lib.ListN.{drop}
use Rattle.aec3_common.specs.Refusal.{accepted}
use Rattle.trace_records.specs.Frames.{framed, record_in}
use Rattle.trace_records.specs.Judge.{refusal_ahead}
use Rattle.trace_text.specs.Text.{Item}
use Rattle.trace_state.specs.declared.Trace.{Trace}
use Rattle.trace_state.specs.Apply.{channels_of, standing_of, beginning, trace_ok}
use Rattle.trace_state.specs.Listing.{refusal_at, refused_at}
use Rattle.trace_state.specs.Feed.{lacks_room, refused_under, row_due, with_rows_due, first_due, Walk, Stopped, with_line, finds_room, refused_end, turn_by, go_on, turn_of, turns, feed_from, fed}
use Rattle.trace_state.proofs.Running.{Sound, sound-ok, sound-beginning, sound-next, due-next}
use Rattle.trace_state.proofs.Turning.{next-is}

-- a state that a run from the beginning comes to
pub record Stays (t : Trace) : Type 0 where
  pub due : t.rows_due ≤ channels_of t.estimator
  pub sound : Sound t.estimator

pub stays-beginning : Stays beginning
unfolding beginning
stays-beginning = record { due = omega arith; sound = sound-beginning }

pub stays-ok : {t : Trace} → Stays t → trace_ok t ≡ true
stays-ok {t} stays = sound-ok t stays.due stays.sound

-- a refusal leaves the state
stays-refused : (w : Walk) (n : ℕ) → Stays w.state → Stays (refused_end w n).walk.state
unfolding refused_end
stays-refused w n stays = go (finds_room w (refused_at w.state n))
  where
    go :
        (b : Bool)
        → Stays (cond {A = Stopped} b (record { walk = with_line w (refused_at w.state n) w.state; stop = refused_under n }) (record { walk = w; stop = lacks_room })).walk.state
    go true = stays
    go false = stays

module _ (s : List ℕ) (ended : Bool) where
  stays-turns : (k : ℕ) (w : Walk) → Stays w.state → Stays (turns s ended k w).walk.state
  unfolding turns turn_by go_on refusal_ahead
  stays-turns zero w stays = stays
  stays-turns (suc k) w stays =
      go (λ next stays. stays-turns k next stays) (ltb 0 t.rows_due) refl (eqb (refusal_ahead (standing_of t) ended rest) accepted) refl (framed rest) refl
    where
      Later : Type 0
      Later = (next : Walk) → Stays next.state → Stays (turns s ended k next).walk.state

      t : Trace
      t = w.state

      rest : List ℕ
      rest = drop w.used s

      row : Item
      row = first_due t

      by-row : Later → (fits : Bool) → finds_room w row ≡ fits → 0 < t.rows_due → Stays (go_on (turns s ended k) (turn_by w (row_due row (with_rows_due t (t.rows_due - 1))))).walk.state
      by-row later true fits some = rw fits (later (with_line w row (with_rows_due t (t.rows_due - 1))) (record { due = omega (arith, stays.due); sound = stays.sound }))
      by-row later false fits some = rw fits stays

      go :
          Later → (due : Bool) → ltb 0 t.rows_due ≡ due → (passes : Bool) → eqb (refusal_ahead (standing_of t) ended rest) accepted ≡ passes
          → (there : Bool) → framed rest ≡ there → Stays (go_on (turns s ended k) (turn_of s ended w)).walk.state
      go later true p passes q there r = rw (next-is t ended rest true passes there p q r) (by-row later (finds_room w row) refl (ltb-true 0 t.rows_due p))
      go later false p true q true r =
          let ok : refusal_at t (record_in rest) ≡ accepted = eqb-true _ _ (rw r at q) in
          rw (next-is t ended rest false true true p q r)
          (later _ (record { due = due-next t (record_in rest) ok; sound = sound-next t (record_in rest) stays.sound ok }))
      go later false p true q false r = rw (next-is t ended rest false true false p q r) stays
      go later false p false q there r = rw (next-is t ended rest false false there p q r) (stays-refused w (refusal_ahead (standing_of t) ended rest) stays)

pub stays-fed : (t : Trace) (s : List ℕ) (ended : Bool) (d : List ℕ) (at : ℕ) → Stays t → Stays (fed t s ended d at).walk.state
unfolding fed feed_from
stays-fed t s ended d at stays =
    let w : Walk = record { state = t; used = 0; out = d; at = at } in
    rw (stays-ok stays) (stays-turns s ended _ w stays)
