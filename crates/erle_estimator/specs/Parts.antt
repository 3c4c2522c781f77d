-- The three parts of the ERLE estimator under its one set of settings.
use Rattle.std.specs.Prelude.{List, ℕ}
use Rattle.subband_erle_estimator.specs.declared.channel.SubbandChannel.{SubbandChannel}
use Rattle.subband_erle_estimator.specs.declared.SubbandErleEstimator.{SubbandErleEstimator}
use Rattle.signal_dependent_erle_estimator.specs.declared.channel.SignalDependentChannel.{SignalDependentChannel}
use Rattle.signal_dependent_erle_estimator.specs.declared.SignalDependentErleEstimator.{SignalDependentErleEstimator}
use Rattle.fullband_channel.specs.declared.channel.FullBandChannel.{FullBandChannel}
use Rattle.fullband_erle_estimator.specs.declared.FullBandErleEstimator.{FullBandErleEstimator}
use Rattle.erle_estimator.specs.declared.ErleEstimator.{ErleEstimator}
-- ---- settings

-- a part's share of the one set
pub use Rattle.subband_erle_estimator.specs.Subband.{subband_settings}
pub use Rattle.signal_dependent_erle_estimator.specs.Settings.{signal_settings}
pub use Rattle.fullband_erle_estimator.specs.FullBand.{fullband_settings}

-- ---- states

-- a part's own state: its records, and its share of the one set of settings
abbrev pub subband_part : ErleEstimator → SubbandErleEstimator
subband_part s = record { settings = subband_settings s.settings; channels = s.subband }

abbrev pub signal_part : ErleEstimator → SignalDependentErleEstimator
signal_part s =
    record {
      settings = signal_settings s.settings;
      section_boundaries_blocks = s.section_boundaries_blocks;
      channels = s.signal_dependent;
    }

abbrev pub fullband_part : ErleEstimator → FullBandErleEstimator
fullband_part s = record { settings = fullband_settings s.settings; channels = s.fullband }

-- the estimator with a block count and records of the three parts; whatever else it holds stays
abbrev pub with_records : ErleEstimator → ℕ → List SubbandChannel → List SignalDependentChannel → List FullBandChannel → ErleEstimator
with_records s blocks subband signal fullband =
    record {
      settings = s.settings;
      startup_phase_length_blocks = s.startup_phase_length_blocks;
      blocks_since_reset = blocks;
      section_boundaries_blocks = s.section_boundaries_blocks;
      subband = subband;
      signal_dependent = signal;
      fullband = fullband;
    }
