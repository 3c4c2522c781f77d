-- The range that every figure keeps, over lists of calls.
use Rattle.std.specs.Prelude.{◌≡◌, true, cond, List, ℕ, ◌<◌, Float, get_or}
use Rattle.std.specs.Float.{nan}
use Rattle.aec3_common.specs.declared.settings.ErleSettings.{ErleSettings}
use Rattle.aec3_common.specs.Binary32.{number_from}
use Rattle.aec3_common.specs.Settings.{greatest_erle}
use Rattle.filter_sections.specs.Subbands.{max_erle}
use Rattle.fullband_erle_estimator.specs.Runs.{NotBelowMinimum, AreNumbers}
use Rattle.erle_estimator.specs.declared.ErleEstimator.{ErleEstimator}
use Rattle.erle_estimator.specs.declared.streams.ErleStreams.{ErleStreams}
use Rattle.erle_estimator.specs.Erle.{sectioned, streams_of}
use Rattle.erle_estimator.specs.Parts.{fullband_settings, fullband_part}
use Rattle.erle_estimator.specs.Runs.{Call, run}

-- what the uncapped answer is not above: 100,000, and with two or more sections the band's maximum
abbrev pub uncapped_max_at : ErleSettings → ℕ → Float
uncapped_max_at g k = cond (sectioned g) (max_erle g.limits.max_l g.limits.max_h k) greatest_erle

-- what a channel shows of band k: what `erle` answers, without and with the compensated stream asked for, what `erle_unbounded` answers, and
-- the onset value, which is the minimum
pub record InRange (g : ErleSettings) (shown : ErleStreams) (k : ℕ) : Type 0 where
  pub plain : number_from g.limits.min (max_erle g.limits.max_l g.limits.max_h k) (get_or shown.plain k nan) ≡ true
  pub compensated : number_from g.limits.min (max_erle g.limits.max_l g.limits.max_h k) (get_or shown.compensated k nan) ≡ true
  pub uncapped : number_from g.limits.min (uncapped_max_at g k) (get_or shown.unbounded k nan) ≡ true
  pub onset : get_or shown.onsets k nan ≡ g.limits.min

-- what a state shows of every channel and band; and the fullband part, whose figures and qualities the fullband readers answer: figures, decibels,
-- extremes and qualities are finite, qualities from 0 to 1 where both clamps are on, and no log2 figure is below log2 of (the minimum plus 0.001)
pub record AllInRange (g : ErleSettings) (s : ErleEstimator) : Type 0 where
  pub bands : (ch k : ℕ) → ch < g.num_capture_channels → k < 65 → InRange g (streams_of s ch) k
  pub fullband : AreNumbers (fullband_settings g) (fullband_part s)
  pub fullband_minimum : NotBelowMinimum (fullband_settings g) (fullband_part s)

-- Claim, which `ErleEstimator::new` promises of the settings that it accepts and the state that it answers with: after any list of
-- updates and resets, refused calls among them, every figure is in range.
--
-- Phrase by phrase:
-- "after an accepted start", "no premise" beside it -> `new` promises the claim where it answers 0, and asks nothing else
-- "lists of calls of the whole estimator" -> calls, any List Call; each takes up the state that the last one left, by run
-- "updates with any ring, responses and powers; resets with either flag" -> Call's two cases, of any Update and any Bool
-- "refused calls among them" -> they pass on the state that they got, by update_answer and reset_answer
-- "in every channel and band" -> bands, each ch below the channel count and k below 65
-- "`erle` without and with the compensated stream asked for" -> InRange's plain and compensated, by erle_shown
-- "and `erle_unbounded`" -> InRange's uncapped, by streams_shown
-- "a number, not below the minimum nor above" -> number_from g.limits.min
-- "the band's maximum" -> max_erle
-- "100,000 (with sections: its band's maximum)" -> uncapped_max_at
-- "One claim, one statement, sections or not" -> streams_of chooses by the section count, as `erle` and `erle_unbounded` do
-- Onset values and the fullband part are there beside what these phrases ask.
unfoldable pub FiguresInRange : ErleSettings → ErleEstimator → Type 0
FiguresInRange g start = (calls : List Call) → AllInRange g (run start calls)
