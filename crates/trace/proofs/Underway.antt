-- What the loop of feeding keeps.
use mathlib.Core.Path.{◌≡◌, refl, sym, ap, ◌∙◌}
use mathlib.Core.Bool.{Bool, true, false, cond, false≢true}
use mathlib.Core.List.{List}
use Prim.Native.Nat.{ℕ, ◌+◌, ◌-◌, ◌≤◌}
use native.Mathlib.Omega.{arith}
use borrow.Author.Tests.{eq-eqb}
use lib.ListN.{length, take, drop, length-drop}
use Rattle.aec3_common.specs.Refusal.{accepted}
use Rattle.subband_erle_estimator.specs.Subband.{settings_refusal}
use Rattle.subband_erle_estimator.proofs.Judged.{settings-few}
use Rattle.erle_estimator.specs.Parts.{subband_settings}
use Rattle.erle_estimator.specs.Erle.{after_reset}
use Rattle.trace_records.specs.Frames.{length_in, framed, record_in}
use Rattle.trace_records.specs.Records.{Record, settings, block, reset, unknown, erle_settings}
use Rattle.trace_records.specs.Judge.{content_refusal, record_refusal, refusal_ahead}
use Rattle.trace_records.proofs.Framing.{framed-room}
use Rattle.trace_records.proofs.Judged.{both-passed, unknown-refused}
use Rattle.trace_state.specs.declared.Trace.{Trace}
use Rattle.trace_state.specs.Apply.{channels_of, standing_of, trace_ok, next_of}
use Rattle.trace_state.specs.Listing.{record_at, refusal_at, refused_at}
use Rattle.trace_state.specs.Feed.{Walk, Stopped, with_line, finds_room, refused_end, feed_from, fed, lacks_record, lacks_room, refused_under, state_refused}
use Rattle.trace_blocks.specs.Steps.{Ready, Ran}
use Rattle.trace_state.specs.Apply.{is_block}
use Rattle.trace_state.proofs.Running.{due-next}
use Rattle.trace_state.proofs.Turning.{fed-taken, fed-refused, fed-nothing}
use Rattle.trace_blocks.proofs.Frames.{record-size, lent-ahead}
use Rattle.trace_blocks.proofs.Ready.{ready-started}

-- a state that 20 lets pass is fed
pub fed-passing :
    (t : Trace) (s : List ℕ) (ended : Bool) (d : List ℕ) (at : ℕ) → trace_ok t ≡ true
    → fed t s ended d at ≡ feed_from s ended (record { state = t; used = 0; out = d; at = at })
unfolding fed
fed-passing t s ended d at ok = rw ok

-- and one that it turns away is not
pub fed-bad :
    (t : Trace) (s : List ℕ) (ended : Bool) (d : List ℕ) (at : ℕ) → trace_ok t ≡ false
    → fed t s ended d at ≡ record { walk = record { state = t; used = 0; out = d; at = at }; stop = state_refused }
unfolding fed
fed-bad t s ended d at bad = rw bad

-- a refused record is not done with
pub refused-used : (w : Walk) (n : ℕ) → (refused_end w n).walk.used ≡ w.used
unfolding refused_end
refused-used w n = go (finds_room w (refused_at w.state n))
  where
    go :
        (b : Bool)
        → (cond {A = Stopped} b (record { walk = with_line w (refused_at w.state n) w.state; stop = refused_under n }) (record { walk = w; stop = lacks_room })).walk.used
        ≡ w.used
    go true = refl
    go false = refl

-- Feeding from the one walk and from the other ends alike, and the later state is ready for rows and blocks.
pub record Underway (s : List ℕ) (ended : Bool) (from now : Walk) : Type 0 where
  pub same : feed_from s ended from ≡ feed_from s ended now
  pub ready : Ready now.state.estimator
  pub due : now.state.rows_due ≤ channels_of now.state.estimator
  pub within : now.used ≤ length s
  pub long : length now.out ≡ length from.out

-- a state that is ready stays so over a record that is no block
ready-next :
    (t : Trace) (l : ℕ) (r : Record) → Ready t.estimator → record_refusal (standing_of t) l r ≡ accepted → is_block r ≡ false
    → Ready (next_of t r).estimator
unfolding next_of is_block after_reset erle_settings content_refusal settings_refusal
ready-next t l (settings x) ready ok other =
    let few = settings-few (subband_settings (erle_settings x)) (eq-eqb _ _ (both-passed (standing_of t) l (settings x) ok).1) in
    ready-started x.startup 0 (erle_settings x) few (λ some. refl)
ready-next t l (block b) ready ok other = absurd (false≢true (sym other))
ready-next t l (reset flag) ready ok other = ready-started _ _ t.estimator.settings ready.few ready.section
ready-next t l unknown ready ok other = absurd (unknown-refused (standing_of t) l ok)

module _ {s : List ℕ} {ended : Bool} {from now : Walk} (u : Underway s ended from now) where
  -- rows and blocks
  pub underway-ran : {after : Walk} → Ran s now after → length after.out ≡ length now.out → Underway s ended from after
  underway-ran ran long =
      record { same = u.same ∙ ran.same ended; ready = ran.ready; due = ran.due; within = ran.within; long = long ∙ u.long }

  abbrev ahead : List ℕ
  ahead = drop now.used s

  -- a record of another kind
  pub underway-record :
      {l : ℕ} {next : Trace} → now.state.rows_due ≡ 0 → framed ahead ≡ true → refusal_at now.state (record_in ahead) ≡ accepted
      → is_block (record_at now.state (record_in ahead)) ≡ false → l ≡ length_in ahead → next ≡ next_of now.state (record_at now.state (record_in ahead))
      → Underway s ended from (record { state = next; used = now.used + (4 + l); out = now.out; at = now.at })
  underway-record {l} {next} none whole ok other long is =
      let place : now.used + (4 + length_in ahead) ≡ now.used + (4 + l) = omega (arith, long) in
      record {
        same =
            u.same ∙ fed-taken s ended now none whole ok
            ∙ (λ i. feed_from s ended (record { state = sym is i; used = place i; out = now.out; at = now.at }));
        ready = rw is (ready-next now.state (length (record_in ahead)) (record_at now.state (record_in ahead)) u.ready ok other);
        due = rw is (due-next now.state (record_in ahead) ok);
        within = omega (arith, long, framed-room ahead whole, length-drop now.used s, u.within);
        long = u.long;
      }

module _
    {t : Trace} {s : List ℕ} {ended : Bool} {d : List ℕ} {at : ℕ} {now : Walk} (ok : trace_ok t ≡ true)
    (u : Underway s ended (record { state = t; used = 0; out = d; at = at }) now)
  where
    -- where feeding ends, if it ends so from here
    pub ends_so : {e : Stopped} → feed_from s ended now ≡ e → fed t s ended d at ≡ e
    ends_so is = fed-passing t s ended d at ok ∙ u.same ∙ is

    -- the bytes that are yet to be read
    abbrev rest : List ℕ
    rest = drop now.used s

    abbrev lent : List ℕ
    lent = take (length s - now.used) rest

    module _ (due : now.state.rows_due ≤ 0) where
      none : now.state.rows_due ≡ 0
      none = omega arith

      number-is : refusal_ahead (standing_of now.state) ended lent ≡ refusal_ahead (standing_of now.state) ended rest
      number-is = ap (refusal_ahead (standing_of now.state) ended) (lent-ahead s now.used)

      pub ends-refused : {n : ℕ} → n ≡ refusal_ahead (standing_of now.state) ended lent → (n ≡ accepted → ⊥) → fed t s ended d at ≡ refused_end now n
      ends-refused is bad = ends_so (fed-refused s ended now none (is ∙ number-is) bad)

      module _ (passes : accepted ≡ refusal_ahead (standing_of now.state) ended lent) where
        fine : refusal_ahead (standing_of now.state) ended rest ≡ accepted
        fine = sym (passes ∙ number-is)

        framed-is : framed lent ≡ framed rest
        framed-is = ap framed (lent-ahead s now.used)

        pub ends-cut : framed lent ≡ false → fed t s ended d at ≡ record { walk = now; stop = lacks_record }
        ends-cut cut = ends_so (fed-nothing s ended now none fine (sym framed-is ∙ cut))

        -- a whole record ahead, which is no block
        module _
            {bytes : List ℕ} (there : (framed lent ≡ true) × (bytes ≡ record_in lent))
            (no_block : framed rest ≡ true → is_block (record_at now.state (record_in rest)) ≡ true → refusal_at now.state (record_in rest) ≡ accepted → ⊥)
          where
            whole : framed rest ≡ true
            whole = sym framed-is ∙ there.0

            bytes-are : bytes ≡ record_in rest
            bytes-are = there.1 ∙ ap record_in (lent-ahead s now.used)

            size : length bytes ≡ length_in rest
            size = ap length bytes-are ∙ record-size rest whole

            pub ends-within : now.used + (4 + length bytes) ≤ length s
            ends-within = omega (arith, size, framed-room rest whole, length-drop now.used s, u.within)

            passed : refusal_at now.state (record_in rest) ≡ accepted
            unfolding refusal_ahead
            passed = rw whole at fine

            other : is_block (record_at now.state (record_in rest)) ≡ false
            other = go (is_block (record_at now.state (record_in rest))) refl
              where
                go : (b : Bool) → is_block (record_at now.state (record_in rest)) ≡ b → b ≡ false
                go true e = absurd (no_block whole e passed)
                go false e = refl

            pub no-block-lent : is_block (record_at now.state bytes) ≡ false
            no-block-lent = rw bytes-are other

            pub underway-next :
                {next : Trace} → next ≡ next_of now.state (record_at now.state bytes)
                → Underway s ended (record { state = t; used = 0; out = d; at = at }) (record { state = next; used = now.used + (4 + length bytes); out = now.out; at = now.at })
            underway-next next-is = underway-record u none whole passed other size (rw bytes-are at next-is)
