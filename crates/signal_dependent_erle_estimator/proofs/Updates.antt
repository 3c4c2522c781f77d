-- The channels of an update: their active sections, and the records that it leaves.
use mathlib.Core.Path.{◌≡◌, ap, ◌∙◌}
use mathlib.Core.Bool.{true}
use mathlib.Core.List.{List, []}
use Prim.Native.Nat.{ℕ, ◌≤◌, ◌<◌}
use native.Mathlib.Omega.{arith}
use borrow.Author.Tests.{lt-ltb, ltb-true}
use lib.Dec.{ltb}
use lib.Ieee.{Float}
use lib.ListN.{length, get_or}
use Rattle.std.specs.List.{list_all}
use Rattle.aec3_common.specs.Settings.{headroom_blocks, max_filter_length_blocks}
use Rattle.aec3_common.specs.Steps.{Changed}
use Rattle.aec3_common.proofs.Changes.{changed-firsts}
use Rattle.aec3_common.proofs.Choices.{cond_same}
use Rattle.aec3_common.proofs.Every.{list_all-by}
use Rattle.aec3_common.proofs.Tables.{length-tab, get_or-tab, get_or-tab-first, tab-same}
use Rattle.section_echoes.specs.Echoes.{active_section, active_sections, echo_sum, section_echo}
use Rattle.section_echoes.specs.Packed.{responses_of}
use Rattle.section_echoes.specs.Steps.{bands, all_active}
use Rattle.section_echoes.proofs.Least.{active-below}
use Rattle.correction_factors.specs.Factors.{subband_sums}
use Rattle.signal_dependent_erle_estimator.specs.declared.settings.SignalDependentSettings.{SignalDependentSettings}
use Rattle.signal_dependent_erle_estimator.specs.declared.channel.SignalDependentChannel.{SignalDependentChannel}
use Rattle.signal_dependent_erle_estimator.specs.declared.SignalDependentErleEstimator.{SignalDependentErleEstimator}
use Rattle.signal_dependent_erle_estimator.specs.Channel.{channel_after}
use Rattle.signal_dependent_erle_estimator.specs.SignalDependent.{Update, Powers, no_channel, channel_at, sections_found, active_of, lent_to, updated, after_block}
use Rattle.signal_dependent_erle_estimator.specs.Steps.{Passed}
use Rattle.signal_dependent_erle_estimator.proofs.Judged.{few-captures, one-section, eight-sections, headroom-inside}

-- in each band, by the echo sums of the sections
abbrev active_in : SignalDependentErleEstimator → Update → ℕ → ℕ → ℕ
active_in s u ch k =
    let g = s.settings in
    let headroom = headroom_blocks g.layout.delay_headroom_samples in
    let boundaries = s.section_boundaries_blocks in
    let count = get_or u.counts ch 0 in
    active_section g.layout.num_sections
    (echo_sum (λ t. section_echo u.ring u.spectra headroom boundaries count (responses_of u.counts u.responses ch) t k))

-- each is one of the sections
pub active-within :
    (s : SignalDependentErleEstimator) (u : Update) (ch : ℕ) → 1 ≤ s.settings.layout.num_sections
    → list_all (λ n. ltb n s.settings.layout.num_sections) (active_of s u ch) ≡ true
unfolding sections_found active_sections
active-within s u ch some =
    list_all-by (λ n. ltb n s.settings.layout.num_sections) (active_of s u ch) 0
    (λ k h.
    let b : k < 65 = omega (arith, length-tab 65 (active_in s u ch)) in
    rw (get_or-tab 65 (active_in s u ch) k 0 b) (lt-ltb _ s.settings.layout.num_sections (active-below s.settings.layout.num_sections _ some)))

-- An accepted update: what is asked of finding active sections, and what is found with two sections or more.
module _ (s : SignalDependentErleEstimator) (u : Update) (ok : Passed s.settings u) where
  abbrev g : SignalDependentSettings
  g = s.settings

  few-counts : length u.counts ≤ 4
  few-counts = omega (arith, ok.counts, ok.count, few-captures g ok.state)

  pub found-asks : (1 < g.layout.num_sections → headroom_blocks g.layout.delay_headroom_samples < max_filter_length_blocks) × (g.layout.num_sections ≤ 8) × (length u.counts ≤ 4)
  found-asks = (λ many. headroom-inside g ok.state many, eight-sections g ok.state, few-counts)

  module _
      {active : List (List ℕ)}
      (found :
      1 < g.layout.num_sections
      → active ≡ all_active u.ring u.spectra (headroom_blocks g.layout.delay_headroom_samples) s.section_boundaries_blocks g.layout.num_sections u.counts u.responses)
    where
      pub found-at : 1 < g.layout.num_sections → (ch : ℕ) → ch < u.channels → get_or active ch [] ≡ active_of s u ch
      unfolding sections_found all_active
      found-at many ch h =
          ap (λ (l : List (List ℕ)). get_or l ch []) (found many)
          ∙ get_or-tab-first 4 (length u.counts) _ (λ j. bands (λ k. 0)) ch [] few-counts (omega (arith, h, ok.counts))

      pub found-within : 1 < g.layout.num_sections → (ch : ℕ) → ch < u.channels → list_all (λ n. ltb n g.layout.num_sections) (get_or active ch []) ≡ true
      found-within many ch h = rw (found-at many ch h) (active-within s u ch (one-section g ok.state))

-- The records of a block that is accepted, each made of what it was.
module _
    (s : SignalDependentErleEstimator) (p : Powers) (active : ℕ → List ℕ) (average average_compensated : ℕ → List Float)
    {R : ℕ → SignalDependentChannel → SignalDependentChannel → Type 0} {channels : List SignalDependentChannel}
    (c : Changed R 0 s.settings.num_capture_channels s.channels channels) (long : length channels ≡ 4)
    (made :
    (k : ℕ) (x y : SignalDependentChannel) → k < s.settings.num_capture_channels → R k x y
    → y ≡ channel_after s.settings (active k) (subband_sums p.render) (lent_to p average average_compensated k) x)
  where
    pub made-updated : channels ≡ (updated s p active average average_compensated).channels
    unfolding updated
    made-updated =
        changed-firsts no_channel
        (λ k. channel_after s.settings (active k) (subband_sums p.render) (lent_to p average average_compensated k))
        c long made

    -- and so is what a block leaves, with two sections or more
    pub made-after :
        1 < s.settings.layout.num_sections
        → ◌≡◌ {A = SignalDependentErleEstimator}
        (record { settings = s.settings; section_boundaries_blocks = s.section_boundaries_blocks; channels = channels })
        (after_block s p active average average_compensated)
    unfolding after_block updated
    made-after many =
        rw (lt-ltb 1 s.settings.layout.num_sections many)
        (λ i. record { settings = s.settings; section_boundaries_blocks = s.section_boundaries_blocks; channels = made-updated i })

-- Of the active sections only those of the state's channels count, and with one section none.
pub block-alone :
    (s : SignalDependentErleEstimator) (p : Powers) {active other : ℕ → List ℕ} (average average_compensated : ℕ → List Float)
    → (1 < s.settings.layout.num_sections → (ch : ℕ) → ch < s.settings.num_capture_channels → active ch ≡ other ch)
    → after_block s p active average average_compensated ≡ after_block s p other average average_compensated
unfolding after_block updated
block-alone s p average average_compensated same =
    cond_same (ltb 1 s.settings.layout.num_sections) s
    (λ many i.
    record {
      settings = s.settings;
      section_boundaries_blocks = s.section_boundaries_blocks;
      channels =
          tab-same 4 no_channel _ _
          (λ j b.
          cond_same (ltb j s.settings.num_capture_channels) (channel_at s j)
          (λ q.
          ap (λ (l : List ℕ). channel_after s.settings l (subband_sums p.render) (lent_to p average average_compensated j) (channel_at s j))
          (same (ltb-true 1 s.settings.layout.num_sections many) j (ltb-true j s.settings.num_capture_channels q)))) i;
    })
