-- What inner functions of the code promise or ask; no part of the definition.
use Rattle.std.specs.Prelude.{◌≡◌, true, List, ℕ, ◌*◌, ◌≤◌, ◌<◌, ltb, length}
use Rattle.std.specs.List.{list_all}
use Rattle.subband_erle_estimator.specs.Subband.{channel_at as Subband·channel_at, updated as Subband·updated}
use Rattle.signal_dependent_erle_estimator.specs.SignalDependent.{updated as SignalDependent·updated}
use Rattle.fullband_erle_estimator.specs.FullBand.{channel_at as FullBand·channel_at, updated as FullBand·updated}
use Rattle.erle_estimator.specs.declared.ErleEstimator.{ErleEstimator}
use Rattle.erle_estimator.specs.Parts.{subband_part, signal_part, fullband_part, with_records}
use Rattle.erle_estimator.specs.Erle.{Powers}

-- ---- the inner update

-- a block's powers for it: all that is lent as long as the channels ask
pub record BlockFits (s : ErleEstimator) (channels : ℕ) (p : Powers) : Type 0 where
  pub count : channels ≡ s.settings.num_capture_channels
  pub few : channels ≤ 4
  pub flags : length p.converged ≡ channels
  pub render : length p.render ≡ 65
  pub capture : length p.capture ≡ channels * 65
  pub residual : length p.residual ≡ channels * 65

-- no more points than a record can hold
pub record PointsFit (s : ErleEstimator) (channels : ℕ) : Type 0 where
  pub points : (ch : ℕ) → ch < channels → (Subband·channel_at (subband_part s) ch).num_points ≤ 6
  pub points_fullband : (ch : ℕ) → ch < channels → (FullBand·channel_at (fullband_part s) ch).instantaneous_erle.num_points ≤ 5

-- active sections: below the section count, which a record can hold
pub record SectionsFit (s : ErleEstimator) (channels : ℕ) (active : ℕ → List ℕ) : Type 0 where
  pub some : 1 ≤ s.settings.layout.num_sections
  pub few : s.settings.layout.num_sections ≤ 8
  pub below : (ch : ℕ) → ch < channels → list_all (λ n. ltb n s.settings.layout.num_sections) (active ch) ≡ true

-- the subband and the fullband part one block later
unfoldable pub moved_by_powers : ErleEstimator → Powers → ErleEstimator
moved_by_powers s p =
    with_records s s.blocks_since_reset
    (Subband·updated (subband_part s) p.converged p.render p.capture p.residual).channels
    s.signal_dependent
    (FullBand·updated (fullband_part s) p.converged p.render p.capture p.residual).channels

-- the signal-dependent part, by the subband streams as they stand
unfoldable pub moved_by_sections : ErleEstimator → Powers → (ℕ → List ℕ) → ErleEstimator
moved_by_sections s p active =
    let own = Subband·channel_at (subband_part s) in
    with_records s s.blocks_since_reset s.subband
    (SignalDependent·updated (signal_part s) p active (λ ch. (own ch).erle) (λ ch. (own ch).erle_onset_compensated)).channels
    s.fullband
