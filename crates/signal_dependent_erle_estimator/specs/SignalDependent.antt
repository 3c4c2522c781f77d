-- The signal-dependent estimator: start, update and reset, and the calls that are turned away.
use Rattle.std.specs.Prelude.{Bool, true, false, cond, ◌&&◌, List, [], ◌++◌, ℕ, zero, suc, ◌*◌, leb, ltb, eqb, Float, length, get_or, take, Result}
use Rattle.std.specs.Result.{result_unwrap_or}
use Rattle.aec3_common.specs.declared.block.Block.{Block}
use Rattle.aec3_common.specs.Answers.{Answered, answer_case}
use Rattle.aec3_common.specs.Calls.{lengths_ok, value_refusal}
use Rattle.std.specs.List.{list_all}
use Rattle.aec3_common.specs.Lists.{tab}
use Rattle.aec3_common.specs.Refusal.{unless, first_of, lesser, accepted, bad_channel_count, bad_ring, bad_length, bad_place, bad_state, other_channel_count}
use Rattle.aec3_common.specs.Settings.{max_capture_channels, max_sections, headroom_blocks, render_channels_ok, sectioned_settings_refusal}
use Rattle.aec3_common.specs.Spectra.{part}
use Rattle.spectrum_buffer.specs.Ring.{slots_ok, place_ok}
use Rattle.filter_sections.specs.Sections.{sections_answer}
use Rattle.section_echoes.specs.declared.RenderRing.{RenderRing}
use Rattle.section_echoes.specs.declared.RenderBuffer.{RenderBuffer}
use Rattle.section_echoes.specs.declared.FilterResponses.{FilterResponses}
use Rattle.section_echoes.specs.Walk.{slot_length}
use Rattle.section_echoes.specs.Packed.{total, responses_of}
use Rattle.section_echoes.specs.Echoes.{active_sections}
use Rattle.correction_factors.specs.Factors.{subband_sums}
use Rattle.signal_dependent_erle_estimator.specs.declared.Inputs.{Inputs}
use Rattle.signal_dependent_erle_estimator.specs.declared.settings.SignalDependentSettings.{SignalDependentSettings}
use Rattle.signal_dependent_erle_estimator.specs.declared.channel.SignalDependentChannel.{SignalDependentChannel}
use Rattle.signal_dependent_erle_estimator.specs.declared.SignalDependentErleEstimator.{SignalDependentErleEstimator}
use Rattle.signal_dependent_erle_estimator.specs.Channel.{Lent, fresh_channel, channel_after}

-- What an update is lent, here and in the whole estimator: the call's channel count; the ring and its spectra, which make the echoes;
-- the number of response blocks of each channel and the responses, packed; the render power that is learnt from, one spectrum of 65
-- numbers for all channels together, not the ring's; capture and residual power, 65 numbers for each channel, packed; the flags. Here the
-- subband estimator's plain and compensated streams come beside it.
pub record Update : Type 0 where
  pub channels : ℕ
  pub ring : RenderRing
  pub spectra : List Float
  pub counts : List ℕ
  pub responses : List Float
  pub render : List Float
  pub capture : List Float
  pub residual : List Float
  pub converged : List Bool

-- as a call lends it
abbrev pub update_lent : RenderBuffer → FilterResponses → Block → Update
update_lent render responses block =
    record {
      channels = block.num_capture_channels;
      ring = render.ring;
      spectra = render.spectra.now;
      counts = responses.blocks.now;
      responses = responses.responses.now;
      render = block.x2.now;
      capture = block.y2.now;
      residual = block.e2.now;
      converged = block.converged_filters.now;
    }

abbrev pub update_of : Inputs → Update
update_of inputs = update_lent inputs.render inputs.responses inputs.block

-- An update in two, beside its channel count: what the echoes are made of, which give the active sections; and the powers and flags, which by
-- these sections (and here the two streams) move the estimator.
pub record Echoes : Type 0 where
  pub ring : RenderRing
  pub spectra : List Float
  pub counts : List ℕ
  pub responses : List Float

abbrev pub echoes_of : Update → Echoes
echoes_of u = record { ring = u.ring; spectra = u.spectra; counts = u.counts; responses = u.responses }

pub record Powers : Type 0 where
  pub render : List Float
  pub capture : List Float
  pub residual : List Float
  pub converged : List Bool

abbrev pub powers_of : Update → Powers
powers_of u = record { render = u.render; capture = u.capture; residual = u.residual; converged = u.converged }

-- as a call lends them
abbrev pub powers_lent : Block → Powers
powers_lent block =
    record {
      render = block.x2.now;
      capture = block.y2.now;
      residual = block.e2.now;
      converged = block.converged_filters.now;
    }

-- ---- calls turned away

-- the first of 1, 2 and 3 that the settings break, or 0
unfoldable pub settings_refusal : SignalDependentSettings → ℕ
settings_refusal s =
    sectioned_settings_refusal s.limits.min s.limits.max_l s.limits.max_h s.num_capture_channels
    s.layout.num_sections s.layout.filter_length_blocks s.layout.delay_headroom_samples

-- the boundaries that the settings give, zeros behind them; zeros alone where number 3 turns the settings away
unfoldable pub boundaries_of : SignalDependentSettings → List ℕ
boundaries_of s =
    result_unwrap_or (sections_answer s.layout.num_sections s.layout.filter_length_blocks s.layout.delay_headroom_samples)
    (tab (suc max_sections) (λ k. 0))

-- whether two lists have the same first n numbers
unfoldable pub same_first : ℕ → List ℕ → List ℕ → Bool
same_first zero xs ys = true
same_first (suc n) xs ys = same_first n xs ys && eqb (get_or xs n 0) (get_or ys n 0)

-- the settings break none of 1, 2 and 3, and the boundaries held are those that they give
abbrev pub settings_pass : SignalDependentSettings → List ℕ → Bool
settings_pass s held = eqb (settings_refusal s) accepted && same_first (suc s.layout.num_sections) held (boundaries_of s)

-- every active section is below the section count
unfoldable pub channel_ok : ℕ → SignalDependentChannel → Bool
channel_ok sections c = list_all (λ n. ltb n sections) c.n_active_sections

-- Number 20: settings and section boundaries pass, and each of the state's channels. Records beyond them are not judged, nor numbers
-- behind the last boundary.
unfoldable pub state_ok : SignalDependentErleEstimator → Bool
state_ok s =
    let g = s.settings in
    settings_pass g s.section_boundaries_blocks && list_all (channel_ok g.layout.num_sections) (take g.num_capture_channels s.channels)

-- a reset is turned away under 20 alone
unfoldable pub state_refusal : SignalDependentErleEstimator → ℕ
state_refusal s = unless (state_ok s) bad_state accepted

-- number 4: the slots are in their range, and the headroom blocks are not above them
abbrev pub slots_reach : ℕ → ℕ → Bool
slots_reach slots headroom = slots_ok slots && leb headroom slots

-- the first of 2, 4 and 9 that a ring breaks, or 0
unfoldable pub ring_refusal : ℕ → RenderRing → ℕ
ring_refusal headroom ring =
    unless (render_channels_ok ring.channels) bad_channel_count
    (unless (slots_reach ring.slots headroom) bad_ring
    (unless (place_ok ring.slots ring.position) bad_place
    accepted))

-- a count of response blocks for each channel, none above the filter length, and 65 numbers for each block
unfoldable pub responses_ok : ℕ → ℕ → List ℕ → List Float → Bool
responses_ok channels filter_length counts responses =
    eqb (length counts) channels && list_all (λ n. leb n filter_length) counts && eqb (length responses) (total counts * 65)

-- number 5, of what an update is lent
unfoldable pub lent_lengths_ok : ℕ → Update → Bool
lent_lengths_ok filter_length u =
    lengths_ok u.channels u.converged u.render u.capture u.residual
    && eqb (length u.spectra) (u.ring.slots * slot_length u.ring.channels)
    && responses_ok u.channels filter_length u.counts u.responses

-- and of the two streams beside it
unfoldable pub all_lengths_ok : ℕ → Update → List Float → List Float → Bool
all_lengths_ok filter_length u average average_compensated =
    lent_lengths_ok filter_length u && eqb (length average) (u.channels * 65) && eqb (length average_compensated) (u.channels * 65)

-- all values that an update is lent, one list behind the other
unfoldable pub lent_values : Update → List Float
lent_values u = u.render ++ u.capture ++ u.residual ++ u.spectra ++ u.responses

-- The first of 20, 21, 2, 4, 9, 5 and 6, or 0, where it is known whether 20 and 5 let the call pass, and what is said of its values; here
-- and in the whole estimator. 2 is of the ring's render channels, since 21 has judged the capture channels; 1 and 3 are in 20; 8 does not
-- arise: the headroom blocks are the only offset, and 4 has judged them against the slots.
abbrev pub refusal_by : Bool → SignalDependentSettings → Update → Bool → ℕ → ℕ
refusal_by passes20 g u lengths_ok values_refused =
    unless passes20 bad_state
    (unless (eqb u.channels g.num_capture_channels) other_channel_count
    (first_of (ring_refusal (headroom_blocks g.layout.delay_headroom_samples) u.ring)
    (unless lengths_ok bad_length
    values_refused)))

-- The same where the caller is lent more: it is known whether that has the length that 5 asks, and under which number its values are turned away.
abbrev pub refusal_beside : Bool → SignalDependentSettings → Update → (others_lengths_ok : Bool) → (others_refused : ℕ) → ℕ
refusal_beside passes20 g u others_lengths_ok others_refused =
    refusal_by passes20 g u (lent_lengths_ok g.layout.filter_length_blocks u && others_lengths_ok) (lesser (value_refusal (lent_values u)) others_refused)

-- a lent average is judged as a spectrum value; the state is told by whether number 20 lets it pass, and by its settings
unfoldable pub refusal_of : Bool → SignalDependentSettings → Update → List Float → List Float → ℕ
refusal_of passes20 g u average average_compensated =
    refusal_by passes20 g u
    (all_lengths_ok g.layout.filter_length_blocks u average average_compensated)
    (value_refusal (lent_values u ++ average ++ average_compensated))

unfoldable pub update_refusal : SignalDependentErleEstimator → Update → List Float → List Float → ℕ
update_refusal s u average average_compensated = refusal_of (state_ok s) s.settings u average average_compensated

-- ---- start, reset, update

-- a start fills all four records
unfoldable pub started : SignalDependentSettings → SignalDependentErleEstimator
started s =
    record {
      settings = s;
      section_boundaries_blocks = boundaries_of s;
      channels = tab max_capture_channels (λ ch. fresh_channel s.limits.min);
    }

-- a start is accepted, or refused under 1, 2 or 3
unfoldable pub start_answer : SignalDependentSettings → Result SignalDependentErleEstimator ℕ
start_answer s = answer_case (settings_refusal s) (started s)

-- a reset leaves what a start with the state's settings gives
unfoldable pub reset_answer : SignalDependentErleEstimator → Answered SignalDependentErleEstimator
reset_answer s =
    let n = state_refusal s in
    record { state = cond (eqb n accepted) (started s.settings) s; refused = n }

-- what stands where a list of channels has no record
abbrev pub no_channel : SignalDependentChannel
no_channel =
    record {
      erle = [];
      erle_onset_compensated = [];
      corrections =
          record { erle_estimators = []; erle_ref = []; correction_factors = []; num_updates = [] };
      n_active_sections = [];
    }

abbrev pub channel_at : SignalDependentErleEstimator → ℕ → SignalDependentChannel
channel_at s ch = get_or s.channels ch no_channel

-- the active sections of a channel: they depend on settings, boundaries, ring and responses, and on nothing else
unfoldable pub sections_found : SignalDependentSettings → List ℕ → Echoes → ℕ → List ℕ
sections_found g boundaries e ch =
    active_sections e.ring e.spectra (headroom_blocks g.layout.delay_headroom_samples) boundaries
    g.layout.num_sections (get_or e.counts ch 0) (responses_of e.counts e.responses ch)

-- of a state, in an update
abbrev pub active_of : SignalDependentErleEstimator → Update → ℕ → List ℕ
active_of s u ch = sections_found s.settings s.section_boundaries_blocks (echoes_of u) ch

-- what a channel is lent, with its own streams of the subband estimator
abbrev pub lent_to : Powers → (ℕ → List Float) → (ℕ → List Float) → ℕ → Lent
lent_to p average average_compensated ch =
    record {
      converged = get_or p.converged ch false;
      capture = part p.capture ch;
      residual = part p.residual ch;
      average = average ch;
      average_compensated = average_compensated ch;
    }

-- A block, by the active sections and the streams of each channel, moves the state's channels; records beyond them stay.
unfoldable pub updated :
    SignalDependentErleEstimator → Powers → (active : ℕ → List ℕ) → (average average_compensated : ℕ → List Float) → SignalDependentErleEstimator
updated s p active average average_compensated =
    record {
      settings = s.settings;
      section_boundaries_blocks = s.section_boundaries_blocks;
      channels =
          tab max_capture_channels
          (λ ch.
          cond (ltb ch s.settings.num_capture_channels)
          (channel_after s.settings (active ch) (subband_sums p.render) (lent_to p average average_compensated ch) (channel_at s ch))
          (channel_at s ch));
    }

-- With one section it changes nothing.
unfoldable pub after_block :
    SignalDependentErleEstimator → Powers → (active : ℕ → List ℕ) → (average average_compensated : ℕ → List Float) → SignalDependentErleEstimator
after_block s p active average average_compensated = cond (ltb 1 s.settings.layout.num_sections) (updated s p active average average_compensated) s

-- An accepted update is that, by the active sections that it finds. The two streams are lent packed, 65 numbers for each channel.
unfoldable pub after_accepted : SignalDependentErleEstimator → Update → List Float → List Float → SignalDependentErleEstimator
after_accepted s u average average_compensated = after_block s (powers_of u) (active_of s u) (part average) (part average_compensated)

-- The answer: the next state and 0; or the state as it was and the refusal.
unfoldable pub update_answer : SignalDependentErleEstimator → Update → List Float → List Float → Answered SignalDependentErleEstimator
update_answer s u average average_compensated =
    let n = update_refusal s u average average_compensated in
    record { state = cond (eqb n accepted) (after_accepted s u average average_compensated) s; refused = n }
