-- What the judging of settings and of an update tells, and what a run keeps.
use Rattle.std.proofs.Common.{◌≡◌, ℕ, ◌*◌, ◌≤◌, Bool, true, false, eqb, List, [], ◌∷◌, ◌++◌, length, refl, arith, eqb-true}
use lib.Ieee.{Float}
use Rattle.aec3_common.specs.Binary32.{values_ok}
use Rattle.aec3_common.specs.Refusal.{unless, accepted, bad_channel_count, bad_state}
use Rattle.aec3_common.specs.Settings.{max_capture_channels, limits_ok, capture_channels_ok, sections_ok, limits_and_channels_refusal, sectioned_settings_refusal}
use Rattle.aec3_common.specs.Calls.{run_by, lengths_ok, value_refusal, call_refusal}
use Rattle.aec3_common.proofs.Choices.{passed, later-passed, first-of-passed, each-of-four}
use Rattle.aec3_common.proofs.Ranges.{from-lo, to-hi}
use Rattle.aec3_common.proofs.Values.{values-passed, both-accepted, values-not-20}

module _ (min max_l max_h : Float) (n : ℕ) (e : limits_and_channels_refusal min max_l max_h n ≡ accepted) where
  pub limits-passed : limits_ok min max_l max_h ≡ true
  unfolding limits_and_channels_refusal
  limits-passed = passed (limits_ok min max_l max_h) 0 (unless (capture_channels_ok n) bad_channel_count accepted) e

  pub channels-passed : capture_channels_ok n ≡ true
  unfolding limits_and_channels_refusal
  channels-passed =
      passed (capture_channels_ok n) 1 accepted
      (later-passed (limits_ok min max_l max_h) 0 (unless (capture_channels_ok n) bad_channel_count accepted) e)

  -- settings that pass have one to four channels
  pub some-channels : 1 ≤ n
  some-channels = from-lo 1 max_capture_channels n channels-passed

  pub few-channels : n ≤ 4
  few-channels = to-hi 1 max_capture_channels n channels-passed

module _ (min max_l max_h : Float) (n sections length samples : ℕ) (e : sectioned_settings_refusal min max_l max_h n sections length samples ≡ accepted) where
  -- settings with sections that pass break neither 1 nor 2
  pub first-passed : limits_and_channels_refusal min max_l max_h n ≡ accepted
  unfolding sectioned_settings_refusal
  first-passed = (first-of-passed (limits_and_channels_refusal min max_l max_h n) _ e).0

  -- nor 3
  pub sections-passed : sections_ok sections length samples ≡ true
  unfolding sectioned_settings_refusal
  sections-passed = passed (sections_ok sections length samples) 2 accepted (first-of-passed (limits_and_channels_refusal min max_l max_h n) _ e).1

-- an accepted update: a state that passes, as many flags, captures and residuals as its n channels ask, 65 renders, and all
-- values from 0 to 2^100
pub record UpdateOk (ok : Bool) (n : ℕ) (converged : List Bool) (render capture residual : List Float) : Type 0 where
  pub state : ok ≡ true
  pub flags : length converged ≡ n
  pub long_render : length render ≡ 65
  pub long_capture : length capture ≡ n * 65
  pub long_residual : length residual ≡ n * 65
  pub capture_ok : values_ok capture ≡ true
  pub residual_ok : values_ok residual ≡ true

pub update-ok :
    (ok : Bool) (n channels : ℕ) (converged : List Bool) (render capture residual : List Float)
    → call_refusal ok n channels converged render capture residual ≡ accepted → UpdateOk ok n converged render capture residual
unfolding call_refusal
update-ok ok n channels converged render capture residual e =
    let lengths = lengths_ok channels converged render capture residual in
    let values = value_refusal (render ++ capture ++ residual) in
    let counted = later-passed ok 19 (unless (eqb channels n) 21 (unless lengths 5 values)) e in
    let measured = later-passed (eqb channels n) 20 (unless lengths 5 values) counted in
    let same = eqb-true channels n (passed (eqb channels n) 20 (unless lengths 5 values) counted) in
    let long = passed lengths 4 values measured in
    let (firsts, residual_ok) = both-accepted (render ++ capture) residual (later-passed lengths 4 values measured) in
    let (render_ok, capture_ok) = both-accepted render capture firsts in
    let (flagged, rendered, captured, left) =
    each-of-four (eqb (length converged) channels) (eqb (length render) 65) (eqb (length capture) (channels * 65)) (eqb (length residual) (channels * 65)) long in
    record {
      state = passed ok 19 (unless (eqb channels n) 21 (unless lengths 5 values)) e;
      flags = rw same at (eqb-true (length converged) channels flagged);
      long_render = eqb-true (length render) 65 rendered;
      long_capture = rw same at (eqb-true (length capture) (channels * 65) captured);
      long_residual = rw same at (eqb-true (length residual) (channels * 65) left);
      capture_ok = values-passed capture capture_ok;
      residual_ok = values-passed residual residual_ok;
    }

-- an update of a state that number 20 lets pass is not refused under it
pub update-not-20 :
    (n channels : ℕ) (converged : List Bool) (render capture residual : List Float)
    → call_refusal true n channels converged render capture residual ≡ bad_state → ⊥
unfolding call_refusal
update-not-20 n channels converged render capture residual =
    go (eqb channels n) (lengths_ok channels converged render capture residual)
  where
    go : (a b : Bool) → unless a 21 (unless b 5 (value_refusal (render ++ capture ++ residual))) ≡ 20 → ⊥
    go true true e = values-not-20 (render ++ capture ++ residual) e
    go true false e = omega arith
    go false b e = omega arith

-- what every step keeps, a run keeps
pub run-keeps :
    {S C : Type 0} (P : S → Type 0) (step : S → C → S) → ((s : S) (c : C) → P s → P (step s c))
    → (calls : List C) (s : S) → P s → P (run_by step s calls)
unfolding run_by
run-keeps P step keeps [] s p = p
run-keeps P step keeps (c ∷ cs) s p = run-keeps P step keeps cs (step s c) (keeps s c p)

-- a list of calls after another takes up the state that the other left
pub run-append :
    {S C : Type 0} (step : S → C → S) (earlier later : List C) (s : S)
    → run_by step s (earlier ++ later) ≡ run_by step (run_by step s earlier) later
unfolding run_by
run-append step [] later s = refl
run-append step (c ∷ cs) later s = run-append step cs later (step s c)
