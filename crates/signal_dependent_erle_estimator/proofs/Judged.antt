-- What the judging of settings, of a state and of an update tells.
use mathlib.Core.Path.{◌≡◌}
use mathlib.Core.Bool.{Bool, true}
use mathlib.Core.List.{List, [], ◌∷◌, ◌++◌}
use Prim.Native.Nat.{ℕ, zero, suc, ◌*◌, ◌≤◌, ◌<◌}
use native.Mathlib.Omega.{arith}
use borrow.Author.Tests.{eqb-true, ltb-true}
use lib.Dec.{leb, ltb, eqb}
use lib.Ieee.{Float}
use lib.ListN.{length, get_or}
use Rattle.aec3_common.specs.Binary32.{values_ok}
use Rattle.aec3_common.specs.Calls.{lengths_ok, value_refusal}
use Rattle.std.specs.List.{list_all}
use Rattle.aec3_common.specs.Refusal.{unless, first_of, accepted, bad_ring, bad_place, bad_state}
use Rattle.aec3_common.specs.Settings.{max_render_channels, headroom_blocks, render_channels_ok, ranges_ok, sections_ok, max_filter_length_blocks}
use Rattle.aec3_common.proofs.Calls.{few-channels, first-passed, sections-passed}
use Rattle.aec3_common.proofs.Choices.{cond_has, and_left, and_right, each-of-three, each-of-four, passed, later-passed, first-of-passed}
use Rattle.aec3_common.proofs.Values.{values-passed, both-accepted}
use Rattle.aec3_common.proofs.Ranges.{to-hi, some-sections, few-sections, short-filter, sections-in-ranges, room-for-sections}
use Rattle.spectrum_buffer.specs.Ring.{max_slots, slots_ok, place_ok}
use Rattle.section_echoes.specs.declared.RenderRing.{RenderRing}
use Rattle.section_echoes.specs.Packed.{total}
use Rattle.section_echoes.specs.Walk.{slot_length}
use Rattle.section_echoes.proofs.Packed.{each-at-most}
use Rattle.signal_dependent_erle_estimator.specs.declared.settings.SignalDependentSettings.{SignalDependentSettings}
use Rattle.signal_dependent_erle_estimator.specs.declared.SignalDependentErleEstimator.{SignalDependentErleEstimator}
use Rattle.signal_dependent_erle_estimator.specs.Steps.{Passed}
use Rattle.signal_dependent_erle_estimator.specs.SignalDependent.{Update, settings_refusal, state_ok, slots_reach, ring_refusal, responses_ok, lent_lengths_ok, all_lengths_ok, lent_values, refusal_by, refusal_of, update_refusal}

-- ---- settings

module _ (g : SignalDependentSettings) (ok : settings_refusal g ≡ accepted) where
  pub few-captures : g.num_capture_channels ≤ 4
  unfolding settings_refusal
  few-captures =
      few-channels g.limits.min g.limits.max_l g.limits.max_h g.num_capture_channels
      (first-passed g.limits.min g.limits.max_l g.limits.max_h g.num_capture_channels g.layout.num_sections g.layout.filter_length_blocks g.layout.delay_headroom_samples ok)

  three-passed : sections_ok g.layout.num_sections g.layout.filter_length_blocks g.layout.delay_headroom_samples ≡ true
  unfolding settings_refusal
  three-passed =
      sections-passed g.limits.min g.limits.max_l g.limits.max_h g.num_capture_channels g.layout.num_sections g.layout.filter_length_blocks g.layout.delay_headroom_samples ok

  in-ranges : ranges_ok g.layout.num_sections g.layout.filter_length_blocks g.layout.delay_headroom_samples ≡ true
  in-ranges = sections-in-ranges g.layout.num_sections g.layout.filter_length_blocks g.layout.delay_headroom_samples three-passed

  pub one-section : 1 ≤ g.layout.num_sections
  one-section = some-sections g.layout.num_sections g.layout.filter_length_blocks g.layout.delay_headroom_samples in-ranges

  pub eight-sections : g.layout.num_sections ≤ 8
  eight-sections = few-sections g.layout.num_sections g.layout.filter_length_blocks g.layout.delay_headroom_samples in-ranges

  pub filter-within : g.layout.filter_length_blocks ≤ max_filter_length_blocks
  filter-within = short-filter g.layout.num_sections g.layout.filter_length_blocks g.layout.delay_headroom_samples in-ranges

  -- with two sections or more the headroom leaves room in the filter
  pub headroom-inside : 2 ≤ g.layout.num_sections → headroom_blocks g.layout.delay_headroom_samples < max_filter_length_blocks
  headroom-inside many =
      omega (
        arith,
        room-for-sections g.layout.num_sections g.layout.filter_length_blocks g.layout.delay_headroom_samples three-passed many,
        filter-within,
      )

pub settings-passed : (s : SignalDependentErleEstimator) → state_ok s ≡ true → settings_refusal s.settings ≡ accepted
unfolding state_ok
settings-passed s ok = eqb-true _ _ (and_left (eqb (settings_refusal s.settings) accepted) _ (and_left _ _ ok))

-- ---- a ring

pub record RingPassed (ring : RenderRing) : Type 0 where
  pub channels : ring.channels ≤ 2
  pub slots : ring.slots ≤ max_slots
  pub place : ring.position < ring.slots

pub ring-passed : (headroom : ℕ) (ring : RenderRing) → ring_refusal headroom ring ≡ accepted → RingPassed ring
unfolding ring_refusal
ring-passed headroom ring e =
    let channels = render_channels_ok ring.channels in
    let reach = slots_reach ring.slots headroom in
    let place = place_ok ring.slots ring.position in
    let placed = unless place bad_place accepted in
    let reached = unless reach bad_ring placed in
    let later = later-passed channels 1 reached e in
    record {
      channels = to-hi 1 max_render_channels ring.channels (passed channels 1 reached e);
      slots = to-hi 1 max_slots ring.slots (and_left (slots_ok ring.slots) (leb headroom ring.slots) (passed reach 3 placed later));
      place = ltb-true ring.position ring.slots (passed place 8 accepted (later-passed reach 3 placed later));
    }

-- ---- an update

-- what a chain that says 0 has judged
pub record Judged (passes20 : Bool) (g : SignalDependentSettings) (u : Update) (lengths : Bool) (values : ℕ) : Type 0 where
  pub state : passes20 ≡ true
  pub count : u.channels ≡ g.num_capture_channels
  pub ring : RingPassed u.ring
  pub long : lengths ≡ true
  pub none : values ≡ accepted

pub all-judged :
    (passes20 : Bool) (g : SignalDependentSettings) (u : Update) (lengths : Bool) (values : ℕ)
    → refusal_by passes20 g u lengths values ≡ accepted → Judged passes20 g u lengths values
all-judged passes20 g u lengths values e =
    let same = eqb u.channels g.num_capture_channels in
    let headroom = headroom_blocks g.layout.delay_headroom_samples in
    let ring = ring_refusal headroom u.ring in
    let after-ring = unless lengths 5 values in
    let after_same = first_of ring after-ring in
    let after-state = unless same 21 after_same in
    let counted = later-passed passes20 19 after-state e in
    let ringed = first-of-passed ring after-ring (later-passed same 20 after_same counted) in
    record {
      state = passed passes20 19 after-state e;
      count = eqb-true _ _ (passed same 20 after_same counted);
      ring = ring-passed headroom u.ring ringed.0;
      long = passed lengths 4 values ringed.1;
      none = later-passed lengths 4 values ringed.1;
    }

-- what is lent has the length that is asked
pub lent-passed :
    (g : SignalDependentSettings) (u : Update) → settings_refusal g ≡ accepted → u.channels ≡ g.num_capture_channels → RingPassed u.ring
    → lent_lengths_ok g.layout.filter_length_blocks u ≡ true → Passed g u
unfolding lent_lengths_ok responses_ok
lent-passed g u settings count ring long =
    let most = g.layout.filter_length_blocks in
    let first = lengths_ok u.channels u.converged u.render u.capture u.residual in
    let spectra = eqb (length u.spectra) (u.ring.slots * slot_length u.ring.channels) in
    let responses = responses_ok u.channels most u.counts u.responses in
    let (firsts, slots, responded) = each-of-three first spectra responses long in
    let (flagged, rendered, captured, left) =
    each-of-four (eqb (length u.converged) u.channels) (eqb (length u.render) 65) (eqb (length u.capture) (u.channels * 65)) (eqb (length u.residual) (u.channels * 65)) firsts in
    let (listed, few, packed) =
    each-of-three (eqb (length u.counts) u.channels) (list_all (λ n. leb n most) u.counts) (eqb (length u.responses) (total u.counts * 65))
    responded in
    record {
      state = settings;
      count = count;
      ring = record { slots = ring.slots; channels = ring.channels; place = ring.place; long = eqb-true _ _ slots };
      flags = eqb-true _ _ flagged;
      render = eqb-true _ _ rendered;
      capture = eqb-true _ _ captured;
      residual = eqb-true _ _ left;
      counts = eqb-true _ _ listed;
      blocks = each-at-most most max_filter_length_blocks u.counts (filter-within g settings) few;
      responses = eqb-true _ _ packed;
    }

-- and the captures and residuals among it lie in 0 to 2^100
pub powers-passed : (u : Update) → value_refusal (lent_values u) ≡ accepted → (values_ok u.capture ≡ true) × (values_ok u.residual ≡ true)
unfolding lent_values
powers-passed u e =
    let (before-responses, responses) = both-accepted (u.render ++ u.capture ++ u.residual ++ u.spectra) u.responses e in
    let (powers, spectra) = both-accepted (u.render ++ u.capture ++ u.residual) u.spectra before-responses in
    let (before-residual, residual) = both-accepted (u.render ++ u.capture) u.residual powers in
    let (render, capture) = both-accepted u.render u.capture before-residual in
    (values-passed u.capture capture, values-passed u.residual residual)

-- an accepted update: what is lent and two streams, all of the length that is asked, of values from 0 to 2^100
pub record UpdatePassed (s : SignalDependentErleEstimator) (u : Update) (average average_compensated : List Float) : Type 0 where
  pub lent : Passed s.settings u
  pub plain : length average ≡ u.channels * 65
  pub compensated : length average_compensated ≡ u.channels * 65
  pub capture_ok : values_ok u.capture ≡ true
  pub plain_ok : values_ok average ≡ true
  pub compensated_ok : values_ok average_compensated ≡ true

pub update-passed :
    (s : SignalDependentErleEstimator) (u : Update) (average average_compensated : List Float)
    → update_refusal s u average average_compensated ≡ accepted → UpdatePassed s u average average_compensated
unfolding update_refusal refusal_of all_lengths_ok
update-passed s u average average_compensated e =
    let most = s.settings.layout.filter_length_blocks in
    let long = all_lengths_ok most u average average_compensated in
    let all = lent_values u ++ average ++ average_compensated in
    let judged = all-judged (state_ok s) s.settings u long (value_refusal all) e in
    let plain = eqb (length average) (u.channels * 65) in
    let compensated = eqb (length average_compensated) (u.channels * 65) in
    let (lent, plains, compensateds) = each-of-three (lent_lengths_ok most u) plain compensated judged.long in
    let (before-compensated, compensated_ok) = both-accepted (lent_values u ++ average) average_compensated judged.none in
    let (lent_ok, plain_ok) = both-accepted (lent_values u) average before-compensated in
    record {
      lent = lent-passed s.settings u (settings-passed s judged.state) judged.count judged.ring lent;
      plain = eqb-true _ _ plains;
      compensated = eqb-true _ _ compensateds;
      capture_ok = (powers-passed u lent_ok).0;
      plain_ok = values-passed average plain_ok;
      compensated_ok = values-passed average_compensated compensated_ok;
    }

-- ---- number 20

-- a refusal that is not 20, before others that are not
chain-not-20 : (t : Bool) (n later : ℕ) → (n ≡ 20 → ⊥) → (later ≡ 20 → ⊥) → unless t n later ≡ 20 → ⊥
chain-not-20 t n later here on = cond_has (λ m. m ≡ 20 → ⊥) t (λ q. on) (λ q. here)

-- an update of a state that number 20 lets pass is not refused under it
pub refusal-not-20 :
    (g : SignalDependentSettings) (u : Update) (lengths : Bool) (values : ℕ)
    → (values ≡ bad_state → ⊥) → refusal_by true g u lengths values ≡ bad_state → ⊥
unfolding ring_refusal
refusal-not-20 g u lengths values last =
    let headroom = headroom_blocks g.layout.delay_headroom_samples in
    let after-ring : unless lengths 5 values ≡ 20 → ⊥ = chain-not-20 lengths 5 values (λ e. omega arith) last in
    let place = place_ok u.ring.slots u.ring.position in
    let reach = slots_reach u.ring.slots headroom in
    let ring : ring_refusal headroom u.ring ≡ 20 → ⊥ =
    chain-not-20 (render_channels_ok u.ring.channels) 2 (unless reach 4 (unless place 9 0)) (λ e. omega arith)
    (chain-not-20 reach 4 (unless place 9 0) (λ e. omega arith) (chain-not-20 place 9 0 (λ e. omega arith) (λ e. omega arith))) in
    chain-not-20 (eqb u.channels g.num_capture_channels) 21 _ (λ e. omega arith)
    (chain-not-20 (eqb (ring_refusal headroom u.ring) accepted) (ring_refusal headroom u.ring) _ ring after-ring)

-- ---- active sections

-- sections below a count of eight or fewer are below eight, and so is what stands where there is none
pub one-of-eight :
    (sections : ℕ) (active : List ℕ) → sections ≤ 8 → list_all (λ n. ltb n sections) active ≡ true → (k : ℕ) → get_or active k 0 < 8
one-of-eight sections [] few ok k = omega arith
one-of-eight sections (n ∷ ns) few ok zero = omega (arith, ltb-true n sections (and_left (ltb n sections) (list_all (λ m. ltb m sections) ns) ok))
one-of-eight sections (n ∷ ns) few ok (suc k) =
    one-of-eight sections ns few (and_right (ltb n sections) (list_all (λ m. ltb m sections) ns) ok) k
