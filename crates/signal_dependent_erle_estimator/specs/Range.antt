-- The range that every figure keeps, over lists of calls.
use Rattle.std.specs.Prelude.{◌≡◌, true, List, ℕ, ◌<◌, get_or}
use Rattle.std.specs.Float.{nan}
use Rattle.aec3_common.specs.Binary32.{number_from}
use Rattle.filter_sections.specs.Subbands.{max_erle}
use Rattle.correction_factors.specs.Range.{LearntInRange}
use Rattle.signal_dependent_erle_estimator.specs.declared.settings.SignalDependentSettings.{SignalDependentSettings}
use Rattle.signal_dependent_erle_estimator.specs.declared.channel.SignalDependentChannel.{SignalDependentChannel}
use Rattle.signal_dependent_erle_estimator.specs.declared.SignalDependentErleEstimator.{SignalDependentErleEstimator}
use Rattle.signal_dependent_erle_estimator.specs.SignalDependent.{channel_at}
use Rattle.signal_dependent_erle_estimator.specs.Runs.{Call, run}

-- What a channel shows and what it has learnt: plain and compensated ERLE of every band are numbers, not below the minimum nor above the
-- band's maximum; so are estimates and references, by their subbands, and the factors keep their range.
pub record ChannelInRange (g : SignalDependentSettings) (c : SignalDependentChannel) : Type 0 where
  pub plain : (k : ℕ) → k < 65 → number_from g.limits.min (max_erle g.limits.max_l g.limits.max_h k) (get_or c.erle k nan) ≡ true
  pub compensated : (k : ℕ) → k < 65 → number_from g.limits.min (max_erle g.limits.max_l g.limits.max_h k) (get_or c.erle_onset_compensated k nan) ≡ true
  pub learnt : LearntInRange g.limits.min g.limits.max_l g.limits.max_h c.corrections

-- Claim, which `SignalDependentErleEstimator::new` promises of the settings that it accepts and the state that it answers with: after any
-- list of updates and resets, refused calls among them, every channel is in range.
--
-- Phrase by phrase:
-- "section estimates and references stay within the limits; correction factors stay numbers not below 0" -> learnt, by LearntInRange
-- "averages lent to it may lie anywhere in 0 to 2^100" -> calls, whose updates lend any lists; 6 alone judges their numbers
-- "its streams are numbers within limits all the same" -> plain and compensated, each of the 65 bands
unfoldable pub FiguresInRange : SignalDependentSettings → SignalDependentErleEstimator → Type 0
FiguresInRange g start = (calls : List Call) (ch : ℕ) → ch < g.num_capture_channels → ChannelInRange g (channel_at (run start calls) ch)
