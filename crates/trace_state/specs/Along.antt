-- What holds along a trace.
use Rattle.std.specs.Prelude.{◌≡◌, true, cond, List, [], ◌∷◌, ℕ, eqb}
use Rattle.aec3_common.specs.Refusal.{accepted}
use Rattle.trace_records.specs.declared.judge.Standing.{Standing}
use Rattle.trace_records.specs.Records.{decoded}
use Rattle.trace_records.specs.Judge.{nothing_stands, standing_after, refusal_in}
use Rattle.trace_state.specs.declared.Trace.{Trace}
use Rattle.trace_state.specs.Apply.{standing_of, trace_ok, next_of}
use Rattle.trace_state.specs.Listing.{record_at, refusal_at}

-- the state after records, each in bytes, up to the first that is refused
unfoldable pub state_along : Trace → List (List ℕ) → Trace
state_along t [] = t
state_along t (s ∷ ss) = cond (eqb (refusal_at t s) accepted) (state_along (next_of t (record_at t s)) ss) t

-- what stands after them, judged without an estimator
unfoldable pub standing_along : Standing → List (List ℕ) → Standing
standing_along st [] = st
standing_along st (s ∷ ss) = cond (eqb (refusal_in st s) accepted) (standing_along (standing_after st (decoded st s)) ss) st

-- Claim, which `beginning` promises: after any records, up to the first that is refused, 20 lets the state pass, and what stands is what
-- `standing_after` says, record by record. So judging without an estimator refuses the same record under the same number.
unfoldable pub JudgedAlone : Trace → Type 0
JudgedAlone t =
    (records : List (List ℕ))
    → (trace_ok (state_along t records) ≡ true) × (standing_of (state_along t records) ≡ standing_along nothing_stands records)
