-- Echo return loss: the ERL of each band, and the time-domain ERL.
use Rattle.std.specs.Prelude.{Bool, cond, ◌&&◌, ◌||◌, List, [], ◌∷◌, ◌++◌, map, ℕ, suc, ◌-◌, ◌*◌, ltb, eqb, ℤ, pos, Float, length, get_or}
use Rattle.std.specs.Float.{nan}
use Rattle.aec3_common.specs.Answers.{Answered}
use Rattle.aec3_common.specs.Lists.{tab}
use Rattle.aec3_common.specs.Binary32.{energy_threshold, sum_threshold}
use Rattle.aec3_common.specs.Calls.{value_refusal}
use Rattle.aec3_common.specs.Counts.{one_more}
use Rattle.aec3_common.specs.Refusal.{unless, accepted, bad_channel_count, bad_length}
use Rattle.aec3_common.specs.Settings.{capture_channels_ok, render_channels_ok}
use Rattle.aec3_common.specs.Spectra.{band_of, shown_band, flagged, sum, greatest_from}
use Rattle.erl_bands.specs.declared.figure.Figure.{Figure}
use Rattle.erl_bands.specs.Figure.{max_erl, after_block}
use Rattle.erl_estimator.specs.declared.ErlEstimator.{ErlEstimator}

-- ---- spectra reduced to their per-band greatest over some channels

abbrev pub greatest_over : List Float → List ℕ → ℕ → Float
greatest_over spectra [] k = nan
greatest_over spectra (first ∷ others) k =
    greatest_from (band_of spectra first k) (map (λ ch. band_of spectra ch k) others)

unfoldable pub reduced : List Float → List ℕ → List Float
reduced spectra channels = tab 65 (greatest_over spectra channels)

-- ---- the whole estimator

-- a start gives 1,000 and holds 0
unfoldable pub started : ℕ → ErlEstimator
started startup =
    record {
      erl = tab 65 (λ k. max_erl);
      hold_counters = tab 63 (λ k. pos 0);
      erl_time_domain = max_erl;
      hold_counter_time_domain = pos 0;
      startup_phase_length_blocks = startup;
      blocks_since_reset = 0;
    }

-- the state with another block count, the rest as it was
abbrev pub with_count : ErlEstimator → ℕ → ErlEstimator
with_count s n =
    record {
      erl = s.erl;
      hold_counters = s.hold_counters;
      erl_time_domain = s.erl_time_domain;
      hold_counter_time_domain = s.hold_counter_time_domain;
      startup_phase_length_blocks = s.startup_phase_length_blocks;
      blocks_since_reset = n;
    }

-- the state with one block more counted
abbrev pub counted : ErlEstimator → ErlEstimator
counted s = with_count s (one_more s.blocks_since_reset)

-- a reset clears the block count only
unfoldable pub after_reset : ErlEstimator → ErlEstimator
after_reset s = with_count s 0

-- the figure of a band of 1 to 63, one block later: the ERL stands at the band's place, the hold one place before
unfoldable pub band_after : List Float → List Float → List Float → List ℤ → ℕ → Figure
band_after render capture erl holds k =
    after_block energy_threshold (get_or render k nan) (get_or capture k nan)
    (record { erl = get_or erl k nan; hold = get_or holds (k - 1) (pos 0) })

-- every figure one block later, by the reduced spectra
unfoldable pub learnt_from : ErlEstimator → List Float → List Float → ErlEstimator
learnt_from s render capture =
    let band : ℕ → Figure = band_after render capture s.erl s.hold_counters in
    let time : Figure =
    after_block sum_threshold (sum render) (sum capture)
    (record { erl = s.erl_time_domain; hold = s.hold_counter_time_domain }) in
    record {
      erl = tab 65 (λ k. (band (shown_band k)).erl);
      hold_counters = tab 63 (λ k. (band (suc k)).hold);
      erl_time_domain = time.erl;
      hold_counter_time_domain = time.hold;
      startup_phase_length_blocks = s.startup_phase_length_blocks;
      blocks_since_reset = s.blocks_since_reset;
    }

-- An accepted update counts one block first. Without a converged channel, or if the count is then below the startup count, nothing else
-- happens. Otherwise converged captures and all renders are reduced and every figure goes one block on.
unfoldable pub updated : ErlEstimator → ℕ → List Bool → List Float → List Float → ErlEstimator
updated s renders converged render capture =
    let channels = flagged 0 converged in
    cond (eqb (length channels) 0 || ltb (counted s).blocks_since_reset s.startup_phase_length_blocks) (counted s)
    (learnt_from (counted s) (reduced render (tab renders (λ ch. ch))) (reduced capture channels))

-- ---- calls turned away

abbrev pub channels_ok : ℕ → ℕ → Bool
channels_ok captures renders = capture_channels_ok captures && render_channels_ok renders

abbrev pub lengths_ok : ℕ → ℕ → List Bool → List Float → List Float → Bool
lengths_ok captures renders converged render capture =
    eqb (length converged) captures && eqb (length render) (renders * 65) && eqb (length capture) (captures * 65)

-- the first of 2, 5 and 6
unfoldable pub update_refusal : ℕ → ℕ → List Bool → List Float → List Float → ℕ
update_refusal captures renders converged render capture =
    unless (channels_ok captures renders) bad_channel_count
    (unless (lengths_ok captures renders converged render capture) bad_length
    (value_refusal (render ++ capture)))

-- The answer: the next state and 0, or the state as it was and the refusal.
unfoldable pub update_answer : ErlEstimator → ℕ → ℕ → List Bool → List Float → List Float → Answered ErlEstimator
update_answer s captures renders converged render capture =
    let n = update_refusal captures renders converged render capture in
    record { state = cond (eqb n accepted) (updated s renders converged render capture) s; refused = n }
