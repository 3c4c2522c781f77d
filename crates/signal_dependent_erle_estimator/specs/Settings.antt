-- The settings of the signal-dependent estimator, as a share of the whole estimator's.
use Rattle.aec3_common.specs.declared.settings.ErleSettings.{ErleSettings}
use Rattle.signal_dependent_erle_estimator.specs.declared.settings.SignalDependentSettings.{SignalDependentSettings}

abbrev pub signal_settings : ErleSettings → SignalDependentSettings
signal_settings g =
    record {
      limits = g.limits;
      onset_detection = g.onset_detection;
      num_capture_channels = g.num_capture_channels;
      layout = g.layout;
    }
