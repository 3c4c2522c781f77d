-- What a run from the beginning keeps.
use mathlib.Core.Path.{◌≡◌, refl, ap, ◌∙◌, subst}
use mathlib.Core.Bool.{Bool, true, false, cond, ◌||◌}
use mathlib.Core.List.{List, [], ◌∷◌}
use Prim.Native.Nat.{ℕ, ◌≤◌}
use native.Mathlib.Omega.{arith}
use borrow.Author.Tests.{eq-eqb, eqb-true, le-leb}
use lib.Dec.{eqb}
use lib.Ieee.{binary32}
use lib.Ieee.Bits.{of_bits-fits}
use lib.ListN.{length}
use Rattle.aec3_common.specs.declared.settings.ErleSettings.{ErleSettings}
use Rattle.aec3_common.specs.Refusal.{accepted}
use Rattle.aec3_common.specs.Settings.{settings_refusal}
use Rattle.aec3_common.proofs.Limits.{InBinary32}
use Rattle.aec3_common.proofs.Ranges.{from-lo}
use Rattle.erle_estimator.specs.declared.ErleEstimator.{ErleEstimator}
use Rattle.erle_estimator.specs.Erle.{Update, state_ok, state_refusal, started_with, refused_settings, after_reset, after_accepted, update_refusal, update_answer, reset_answer}
use Rattle.erle_estimator.proofs.Runs.{update-settings}
use Rattle.erle_estimator.proofs.Good.{Good, good-ok, started-good, update-good, reset-good}
use Rattle.trace_records.specs.declared.judge.Standing.{Standing}
use Rattle.trace_records.specs.declared.records.SettingsRecord.{SettingsRecord}
use Rattle.trace_records.specs.Records.{Record, settings, block, reset, unknown, is_set, erle_settings, settings_in, block_in, delay_flag_in, value_at, kind_of, settings_kind, block_kind, reset_kind, decoded}
use Rattle.trace_records.specs.Judge.{standing_after, record_refusal}
use Rattle.trace_records.proofs.Judged.{both-passed, block-ok, reset-stands, unknown-refused}
use Rattle.trace_state.specs.declared.Trace.{Trace}
use Rattle.trace_state.specs.Apply.{channels_of, standing_of, beginning, trace_ok, update_in, next_of}
use Rattle.trace_state.specs.Listing.{record_at, refusal_at}
use Rattle.trace_state.specs.Along.{state_along, standing_along, JudgedAlone}
use Rattle.trace_state.proofs.Judged.{start-judged, update-judged}

-- ---- the estimator's answers where it accepts

pub update-state : (e : ErleEstimator) (u : Update) → update_refusal e u ≡ accepted → (update_answer e u).state ≡ after_accepted e u
unfolding update_answer
update-state e u ok = rw (eq-eqb (update_refusal e u) accepted ok)

pub reset-state : (e : ErleEstimator) (delay_change : Bool) → state_ok e ≡ true → (reset_answer e delay_change).state ≡ after_reset e delay_change
unfolding reset_answer state_refusal
reset-state e delay_change ok = rw ok

-- ---- what a run keeps

-- Before settings there are no channels; after them the estimator is one that a run from a start gives, with one section and without
-- headroom.
pub data Sound (e : ErleEstimator) : Type 0 where
  idle : channels_of e ≡ 0 → Sound e
  going : Good e → e.settings.layout.num_sections ≡ 1 → e.settings.layout.delay_headroom_samples ≡ 0 → Sound e

-- 20 lets its state pass, if no more rows are due than there are channels
pub sound-ok : (t : Trace) → t.rows_due ≤ channels_of t.estimator → Sound t.estimator → trace_ok t ≡ true
unfolding trace_ok
sound-ok t few (idle none) = rw (le-leb t.rows_due (channels_of t.estimator) few, eq-eqb (channels_of t.estimator) 0 none)
sound-ok t few (going good section flat) =
    rw (
      le-leb t.rows_due (channels_of t.estimator) few,
      good-ok t.estimator good,
      eq-eqb t.estimator.settings.layout.num_sections 1 section,
      eq-eqb t.estimator.settings.layout.delay_headroom_samples 0 flat,
    )
    (either (eqb (channels_of t.estimator) 0))
  where
    either : (b : Bool) → b || true ≡ true
    either true = refl
    either false = refl

pub sound-beginning : Sound beginning.estimator
unfolding beginning started_with refused_settings
sound-beginning = idle refl

pub beginning-ok : trace_ok beginning ≡ true
unfolding beginning
beginning-ok = sound-ok beginning (omega arith) sound-beginning

-- what holds of records of all kinds holds of a decoded one
pub by-kinds :
    (st : Standing) (s : List ℕ) (P : Record → Type 0)
    → P (settings (settings_in s)) → P (block (block_in st.num_capture_channels s)) → P (reset (delay_flag_in s)) → P unknown
    → P (decoded st s)
unfolding decoded
by-kinds st s P a b c d = go (eqb (kind_of s) settings_kind) (eqb (kind_of s) block_kind) (eqb (kind_of s) reset_kind)
  where
    go :
        (x y z : Bool)
        → P (cond x (settings (settings_in s)) (cond y (block (block_in st.num_capture_channels s)) (cond z (reset (delay_flag_in s)) unknown)))
    go true y z = a
    go false true z = b
    go false false true = c
    go false false false = d

-- the limits that a settings record holds are read from bits
values-held : (s : List ℕ) → let g = erle_settings (settings_in s) in InBinary32 g.limits.min g.limits.max_l g.limits.max_h
unfolding erle_settings settings_in value_at
values-held s =
    record { min_held = of_bits-fits binary32 _; max_l_held = of_bits-fits binary32 _; max_h_held = of_bits-fits binary32 _ }

module _ (t : Trace) (s : List ℕ) where
  abbrev e : ErleEstimator
  e = t.estimator

  abbrev pub Passes : Record → Type 0
  Passes r = record_refusal (standing_of t) (length s) r ≡ accepted

  started : (x : SettingsRecord) → Passes (settings x) → settings_refusal (erle_settings x) ≡ accepted
  started x ok = start-judged x ∙ (both-passed (standing_of t) (length s) (settings x) ok).1

  -- there are channels, so that a run goes on
  runs : Sound e → 1 ≤ channels_of e → Good e × (e.settings.layout.num_sections ≡ 1) × (e.settings.layout.delay_headroom_samples ≡ 0)
  runs (idle none) some = absurd (omega arith)
  runs (going good section flat) some = (good, section, flat)

  -- an accepted record keeps it
  pub sound-next : Sound e → refusal_at t s ≡ accepted → Sound (next_of t (record_at t s)).estimator
  unfolding next_of started_with erle_settings after_reset
  sound-next sound =
      by-kinds (standing_of t) s (λ r. Passes r → Sound (next_of t r).estimator) of-settings of-block of-reset
      (λ ok. absurd (unknown-refused (standing_of t) (length s) ok))
    where
      of-settings : Passes (settings (settings_in s)) → Sound (started_with (settings_in s).startup 0 (erle_settings (settings_in s)))
      of-settings ok =
          let x = settings_in s in
          let fine = started x ok in
          going (started-good x.startup 0 (erle_settings x) (values-held s) fine) refl refl

      of-block : Passes (block (block_in (channels_of e) s)) → Sound (after_accepted e (update_in (channels_of e) (block_in (channels_of e) s)))
      of-block ok =
          let b = block_in (channels_of e) s in
          let u = update_in (channels_of e) b in
          let (form, values) = both-passed (standing_of t) (length s) (block b) ok in
          let (good, section, flat) = runs sound (block-ok (standing_of t) (length s) b form).some in
          let fine = update-judged (channels_of e) s e refl (good-ok e good) flat ∙ values in
          going (subst Good (update-state e u fine) (update-good e u good))
          (ap (λ (g : ErleSettings). g.layout.num_sections) (update-settings e u) ∙ section)
          (ap (λ (g : ErleSettings). g.layout.delay_headroom_samples) (update-settings e u) ∙ flat)

      of-reset : Passes (reset (delay_flag_in s)) → Sound (after_reset e (is_set (delay_flag_in s)))
      of-reset ok =
          let some = from-lo 1 4 (channels_of e) (reset-stands (standing_of t) (length s) (delay_flag_in s) ok) in
          let (good, section, flat) = runs sound some in
          going (subst Good (reset-state e (is_set (delay_flag_in s)) (good-ok e good)) (reset-good e (is_set (delay_flag_in s)) good)) section flat

  -- and no more rows are due after it than there are channels
  pub due-next : refusal_at t s ≡ accepted → (next_of t (record_at t s)).rows_due ≤ channels_of (next_of t (record_at t s)).estimator
  unfolding next_of
  due-next =
      by-kinds (standing_of t) s (λ r. Passes r → (next_of t r).rows_due ≤ channels_of (next_of t r).estimator) (λ ok. omega arith)
      (λ ok. let same = ap (λ (g : ErleSettings). g.num_capture_channels) (update-settings e (update_in (channels_of e) (block_in (channels_of e) s))) in omega arith)
      (λ ok. omega arith)
      (λ ok. absurd (unknown-refused (standing_of t) (length s) ok))

  -- what stands after it is what judging alone says
  standing-next : standing_of (next_of t (record_at t s)) ≡ standing_after (standing_of t) (record_at t s)
  unfolding next_of standing_after started_with after_reset erle_settings
  standing-next =
      by-kinds (standing_of t) s (λ r. standing_of (next_of t r) ≡ standing_after (standing_of t) r) refl
      (ap (λ (g : ErleSettings). record { num_capture_channels = g.num_capture_channels }) (update-settings e (update_in (channels_of e) (block_in (channels_of e) s))))
      refl refl

-- ---- along a trace

abbrev Holds : Trace → Standing → Type 0
Holds t st = (trace_ok t ≡ true) × (standing_of t ≡ st)

along : (t : Trace) → t.rows_due ≤ channels_of t.estimator → Sound t.estimator → (ss : List (List ℕ)) → Holds (state_along t ss) (standing_along (standing_of t) ss)
unfolding state_along standing_along
along t few sound [] = (sound-ok t few sound, refl)
along t few sound (s ∷ ss) =
    go (eqb (refusal_at t s) accepted) refl (λ ok. along (next_of t (record_at t s)) (due-next t s ok) (sound-next t s sound ok) ss)
  where
    go :
        (b : Bool) → eqb (refusal_at t s) accepted ≡ b
        → (refusal_at t s ≡ accepted → Holds (state_along (next_of t (record_at t s)) ss) (standing_along (standing_of (next_of t (record_at t s))) ss))
        → Holds (cond b (state_along (next_of t (record_at t s)) ss) t) (cond b (standing_along (standing_after (standing_of t) (record_at t s)) ss) (standing_of t))
    go true e later =
        let (passes, same) = later (eqb-true (refusal_at t s) accepted e) in
        (passes, same ∙ ap (λ (st : Standing). standing_along st ss) (standing-next t s))
    go false e later = (sound-ok t few sound, refl)

pub judged-alone : JudgedAlone beginning
unfolding JudgedAlone beginning started_with refused_settings
judged-alone = along beginning (omega arith) sound-beginning
