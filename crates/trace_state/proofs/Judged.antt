-- The estimator's own judging adds nothing to the record's.
use mathlib.Core.Path.{◌≡◌, refl, sym, ◌∙◌}
use mathlib.Core.Bool.{true, ◌&&◌, ◌||◌}
use mathlib.Core.List.{List, [], ◌∷◌, ◌++◌}
use Prim.Native.Nat.{ℕ, zero, suc, ◌≤◌}
use native.Mathlib.Omega.{arith}
use borrow.Author.Tests.{eq-eqb, ne_eqb, eqb-true, leb-true, le-leb}
use lib.Dec.{eqb, leb}
use lib.Ieee.{of_bits, le, lt, eq}
use Rattle.aec3_common.specs.Binary32.{zero32}
use Rattle.aec3_common.specs.Calls.{value_refusal}
use Rattle.std.specs.List.{list_all}
use Rattle.aec3_common.specs.Lists.{tab}
use Rattle.aec3_common.specs.Refusal.{first_of, accepted}
use Rattle.aec3_common.specs.Settings.{sections_ok, sectioned_settings_refusal, settings_refusal}
use Rattle.aec3_common.proofs.Choices.{and_left, and_right}
use Rattle.aec3_common.proofs.Every.{list_all-by}
use Rattle.aec3_common.proofs.Values.{accepted-behind, no-values, copies-accepted}
use Rattle.aec3_common.proofs.Tables.{length-tab, get_or-tab}
use Rattle.section_echoes.specs.Packed.{total}
use Rattle.signal_dependent_erle_estimator.specs.SignalDependent.{ring_refusal, responses_ok}
use Rattle.erle_estimator.specs.declared.ErleEstimator.{ErleEstimator}
use Rattle.erle_estimator.specs.Erle.{state_ok, lent_lengths_ok, lent_values, update_refusal}
use Rattle.trace_records.specs.declared.records.SettingsRecord.{SettingsRecord}
use Rattle.trace_records.specs.Records.{BlockRecord, settings, block, erle_settings, block_in}
use Rattle.trace_records.specs.Judge.{content_refusal}
use Rattle.trace_records.proofs.Blocks.{length-flags, length-render, length-capture, length-residual}
use Rattle.trace_state.specs.declared.Trace.{Trace}
use Rattle.trace_state.specs.Apply.{channels_of, trace_ok, update_in}

-- a refusal, and nothing after it
first_alone : (n : ℕ) → first_of n accepted ≡ n
first_alone zero = refl
first_alone (suc n) = rw (ne_eqb (suc n) accepted (λ e. omega arith))

-- a settings record has one section, which number 3 lets pass
pub start-judged : (s : SettingsRecord) → settings_refusal (erle_settings s) ≡ content_refusal (settings s)
unfolding settings_refusal sectioned_settings_refusal sections_ok erle_settings content_refusal
start-judged s = first_alone (content_refusal (settings s))

-- no response blocks
abbrev none : ℕ → ℕ
none ch = 0

total-none : (n : ℕ) → total (tab n none) ≡ 0
unfolding total tab
total-none zero = refl
total-none (suc n) = omega (arith, total-none n)

-- the ring that is lent holds zeros, which are accepted
zero-accepted : value_refusal (zero32 ∷ []) ≡ accepted
unfolding value_refusal of_bits le lt eq
zero-accepted = refl

module _ (n : ℕ) (r : List ℕ) where
  abbrev b : BlockRecord
  b = block_in n r

  -- all that a block is lent has the length that is asked
  lengths-pass : (filter_length : ℕ) → lent_lengths_ok filter_length (update_in n b) ≡ true
  unfolding lent_lengths_ok responses_ok update_in block_in
  lengths-pass filter_length =
      simp (
        eq-eqb _ _ (length-flags n r),
        eq-eqb _ _ (length-render n r),
        eq-eqb _ _ (length-capture n r),
        eq-eqb _ _ (length-residual n r),
        eq-eqb _ _ (length-tab 65 (λ k. zero32)),
        eq-eqb _ _ (length-tab n none),
        none_above,
        total-none n,
      )
    where
      none_above : list_all (λ k. leb k filter_length) (tab n none) ≡ true
      none_above =
          list_all-by (λ k. leb k filter_length) (tab n none) 0
          (λ k h. rw (get_or-tab n none k 0 (omega (arith, length-tab n none))) (le-leb 0 filter_length (omega arith)))

  -- and only the record's own values can be turned away
  values_same : value_refusal (lent_values (update_in n b)) ≡ value_refusal (b.render ++ b.capture ++ b.residual)
  unfolding lent_values update_in
  values_same =
      accepted-behind (b.render ++ b.capture ++ b.residual ++ tab 65 (λ k. zero32)) [] no-values
      ∙ accepted-behind (b.render ++ b.capture ++ b.residual) (tab 65 (λ k. zero32)) (copies-accepted 65 zero32 zero-accepted)

  -- the estimator's judging of a block in form, of a state that number 20 lets pass and that has no headroom: the record's values, no more
  pub update-judged :
      (e : ErleEstimator) → channels_of e ≡ n → state_ok e ≡ true → e.settings.layout.delay_headroom_samples ≡ 0
      → update_refusal e (update_in n b) ≡ content_refusal (block b)
  unfolding update_refusal content_refusal update_in ring_refusal
  update-judged e count ok flat =
      rw (ok, eq-eqb n (channels_of e) (sym count), flat, lengths-pass e.settings.layout.filter_length_blocks, values_same)

-- no more rows are due than there are channels
pub due-few : (t : Trace) → trace_ok t ≡ true → t.rows_due ≤ channels_of t.estimator
unfolding trace_ok
due-few t ok = leb-true t.rows_due (channels_of t.estimator) (and_left (leb t.rows_due (channels_of t.estimator)) _ ok)

-- a state with channels that 20 lets pass
pub passing :
    (t : Trace) → 1 ≤ channels_of t.estimator → trace_ok t ≡ true → (state_ok t.estimator ≡ true) × (t.estimator.settings.layout.num_sections ≡ 1)
unfolding trace_ok
passing t some ok =
    let e = t.estimator in
    let one = eqb e.settings.layout.num_sections 1 in
    let flat = eqb e.settings.layout.delay_headroom_samples 0 in
    let later = and_right (leb t.rows_due (channels_of e)) (eqb (channels_of e) 0 || (state_ok e && (one && flat))) ok in
    let both : state_ok e && (one && flat) ≡ true = rw (ne_eqb (channels_of e) 0 (λ z. omega arith)) at later in
    (and_left (state_ok e) (one && flat) both, eqb-true _ _ (and_left one flat (and_right (state_ok e) (one && flat) both)))
