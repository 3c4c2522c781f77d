use Rattle.std.proofs.Common.{◌≡◌, ℕ, ◌<◌, Bool, true, ◌&&◌, List, [], length, get_or, sym, ◌∙◌, rules, arith, Result, is_ok, eqb-true}
use Rattle.aec3_common.specs.declared.refusal.Refusal.{Refusal}
use Rattle.aec3_common.specs.Answers.{number_of}
use Rattle.aec3_common.specs.Calls.{value_refusal}
use Rattle.aec3_common.specs.Refusal.{accepted, lesser}
use Rattle.aec3_common.specs.Settings.{headroom_blocks}
use Rattle.aec3_common.proofs.Choices.{and-true}
use Rattle.aec3_common.proofs.Values.{lesser-none}
use Rattle.aec3_common.proofs.Tables.{length-mapped}
use Rattle.section_echoes.specs.Steps.{all_active}
use Rattle.aec3_common.proofs.Refusals.{outcome-told}
use Rattle.subband_erle_estimator.proofs.Judged.{points-few}
use Rattle.signal_dependent_erle_estimator.specs.declared.settings.SignalDependentSettings.{SignalDependentSettings}
use Rattle.signal_dependent_erle_estimator.specs.SignalDependent.{refusal_by}
use Rattle.signal_dependent_erle_estimator.proofs.Judged.{one-section, eight-sections}
use Rattle.signal_dependent_erle_estimator.proofs.Updates.{found-asks, found-at, found-within}
use Rattle.fullband_channel.proofs.Judged.{few-points}
use Rattle.fullband_erle_estimator.proofs.Judged.{channel-passed}
use Rattle.erle_estimator.specs.declared.ErleEstimator.{ErleEstimator}
use Rattle.erle_estimator.specs.Parts.{signal_settings, subband_part, signal_part, fullband_part}
use Rattle.erle_estimator.specs.Erle.{Update, powers_of, lent_lengths_ok, lent_values, state_ok, update_refusal, after_block, after_accepted, update_answer}
use Rattle.erle_estimator.specs.Steps.{BlockFits, PointsFit, SectionsFit}
use Rattle.erle_estimator.proofs.Judged.{Accepted, accepted-call, subband-passed, fullband-passed}
use Rattle.erle_estimator.proofs.Sections.{sections-alone}
use Rattle.erle_estimator.proofs.ErleEstimator.update.Goals as goal

-- ---- the judging

-- the call is judged by the state, and nothing is lent besides
refused-by :
    (s : ErleEstimator) (u : Update) {ok : Bool} {g : SignalDependentSettings} {n : ℕ}
    → ok ≡ state_ok s → g ≡ signal_settings s.settings
    → n ≡ refusal_by ok g u (lent_lengths_ok g.layout.filter_length_blocks u && true) (lesser (value_refusal (lent_values u)) accepted)
    → update_refusal s u ≡ n
unfolding update_refusal
refused-by s u passes given e =
    sym (e ∙ (λ i.
    refusal_by (passes i) (given i) u (and-true (lent_lengths_ok (given i).layout.filter_length_blocks u) i) (lesser-none (value_refusal (lent_values u)) i)))

-- an outcome that is no refusal has number 0
passed : (r : Result (Unit {0}) Refusal) → is_ok r ≡ true → number_of r ≡ accepted
passed r ok = eqb-true (number_of r) accepted (outcome-told r ∙ ok)

-- ---- an accepted update

-- a block that fits the inner update, and the active sections that are found
module _
    {s : ErleEstimator} {u : Update} (a : Accepted s u) {g : SignalDependentSettings} (given : g ≡ signal_settings s.settings)
    {active : List (List ℕ)}
    (found :
    1 < g.layout.num_sections
    → active ≡ all_active u.ring u.spectra (headroom_blocks g.layout.delay_headroom_samples) s.section_boundaries_blocks g.layout.num_sections u.counts u.responses)
  where
    block-fits : BlockFits s u.channels (powers_of u)
    block-fits =
        record {
          count = a.count;
          few = omega (arith, a.count, a.few);
          flags = a.lent.flags;
          render = a.lent.render;
          capture = a.lent.capture;
          residual = a.lent.residual;
        }

    points-fit : length s.subband ≡ 4 → length s.fullband ≡ 4 → PointsFit s u.channels
    points-fit four four-fullband =
        record {
          points = λ ch h. points-few (subband_part s) ch (subband-passed s a.state) four (omega (arith, a.count));
          points_fullband = λ ch h. few-points _ (channel-passed (fullband_part s) (fullband-passed s a.state) ch four-fullband (omega (arith, a.count)));
        }

    sections-fit : 1 < s.settings.layout.num_sections → SectionsFit s u.channels (λ ch. get_or active ch [])
    sections-fit many =
        let ok = a.lent.state in
        record {
          some = one-section (signal_settings s.settings) ok;
          few = eight-sections (signal_settings s.settings) ok;
          below = found-within (signal_part s) u a.lent (rw given at found) many;
        }

    found-is : after_block s (powers_of u) (λ ch. get_or active ch []) ≡ after_accepted s u
    unfolding after_accepted
    found-is = sections-alone s (powers_of u) (λ many ch h. found-at (signal_part s) u a.lent (rw given at found) many ch (omega (arith, a.count)))

pub active_sections-active-requires : goal.active_sections-active-requires
active_sections-active-requires c =
    let told = refused-by c.args.self _ c.ok.ensures c.from-signal_part.ensures c.judge_beside-outcome.ensures in
    let a = accepted-call _ _ (told ∙ passed c.judge_beside-outcome.result (sym c.is_ok.ensures.value ∙ c.if-is_ok.true)) in
    record {
      ring_fits = a.lent.ring;
      delay_headroom_samples_bound = rw c.from-signal_part.ensures (found-asks (signal_part c.args.self) _ a.lent);
      response_blocks_value = (a.lent.blocks, a.lent.responses);
    }

pub advance-requires : goal.advance-requires
advance-requires c =
    let told = refused-by c.args.self _ c.ok.ensures c.from-signal_part.ensures c.judge_beside-outcome.ensures in
    let a = accepted-call _ _ (told ∙ passed c.judge_beside-outcome.result (sym c.is_ok.ensures.value ∙ c.if-is_ok.true)) in
    record {
      fits = block-fits a c.from-signal_part.ensures c.active_sections-active.ensures;
      held = points-fit a c.from-signal_part.ensures c.active_sections-active.ensures (search (rules, length-mapped)) (search (rules, length-mapped));
      sections = sections-fit a c.from-signal_part.ensures c.active_sections-active.ensures;
    }

-- ---- the answer

pub returns-then-is_ok : goal.returns-then-is_ok
unfolding update_answer
returns-then-is_ok c =
    let told = refused-by c.args.self _ c.ok.ensures c.from-signal_part.ensures c.judge_beside-outcome.ensures in
    let a = accepted-call _ _ (told ∙ passed c.judge_beside-outcome.result (sym c.is_ok.ensures.value ∙ c.if-is_ok.true)) in
    simp (
      told,
      outcome-told c.judge_beside-outcome.result ∙ sym c.is_ok.ensures.value ∙ c.if-is_ok.true,
      c.advance.ensures ∙ found-is a c.from-signal_part.ensures c.active_sections-active.ensures,
    )

pub returns-else-is_ok : goal.returns-else-is_ok
unfolding update_answer
returns-else-is_ok c =
    let told = refused-by c.args.self _ c.ok.ensures c.from-signal_part.ensures c.judge_beside-outcome.ensures in
    simp (told, outcome-told c.judge_beside-outcome.result ∙ sym c.is_ok.ensures.value ∙ c.if-is_ok.false)
