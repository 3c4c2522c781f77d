-- The range that every figure keeps, and the rest that a channel reaches which stays unconverged, over lists of calls.
use Rattle.std.specs.Prelude.{◌≡◌, Bool, true, false, cond, not, List, [], ◌∷◌, ◌++◌, ℕ, ◌≤◌, ◌<◌, eqb, Float, length, get_or}
use Rattle.aec3_common.specs.Answers.{Answered}
use Rattle.aec3_common.specs.Binary32.{number_from}
use Rattle.aec3_common.specs.Calls.{Call, update, reset, run_by}
use Rattle.std.specs.List.{list_all}
use Rattle.aec3_common.specs.Refusal.{accepted}
use Rattle.aec3_common.specs.Settings.{greatest_erle}
use Rattle.subband_erle_estimator.specs.declared.settings.SubbandSettings.{SubbandSettings}
use Rattle.subband_erle_estimator.specs.declared.SubbandErleEstimator.{SubbandErleEstimator}
use Rattle.subband_erle_estimator.specs.Channel.{streams_at, onset_at, max_at}
use Rattle.subband_erle_estimator.specs.Subband.{started, update_answer, reset_answer, channel_at}

-- ---- lists of calls

unfoldable pub answer : SubbandErleEstimator → Call → Answered SubbandErleEstimator
answer s (update channels converged render capture residual) = update_answer s channels converged render capture residual
answer s reset = reset_answer s

-- each call takes up the state that the last one left; a refused one passes on what it got
unfoldable pub run : SubbandErleEstimator → List Call → SubbandErleEstimator
run s calls = run_by (λ t c. (answer t c).state) s calls

-- the calls of the list that are accepted, in their order
unfoldable pub accepted_of : SubbandErleEstimator → List Call → List Call
accepted_of s [] = []
accepted_of s (c ∷ cs) =
    let others = accepted_of (answer s c).state cs in
    cond (eqb (answer s c).refused accepted) (c ∷ others) others

-- an update in which a channel stands unconverged
unfoldable pub unconverged : ℕ → Call → Bool
unconverged ch (update channels converged render capture residual) = not (get_or converged ch true)
unconverged ch reset = false

-- ---- what a state shows of channel ch and band k

abbrev pub plain_of : SubbandErleEstimator → ℕ → ℕ → Float
plain_of s ch k = (streams_at (channel_at s ch) k).plain

abbrev pub uncapped_of : SubbandErleEstimator → ℕ → ℕ → Float
uncapped_of s ch k = (streams_at (channel_at s ch) k).uncapped

abbrev pub compensated_of : SubbandErleEstimator → ℕ → ℕ → Float
compensated_of s ch k = (onset_at (channel_at s ch) k).compensated

abbrev pub waits_of : SubbandErleEstimator → ℕ → ℕ → Bool
waits_of s ch k = (onset_at (channel_at s ch) k).waits

-- ---- the claim

-- plain, compensated and uncapped ERLE are numbers, not below the minimum nor above the band's maximum, which for the
-- uncapped one is 100,000
pub record InRange (settings : SubbandSettings) (s : SubbandErleEstimator) (ch k : ℕ) : Type 0 where
  pub plain : number_from settings.limits.min (max_at settings k) (plain_of s ch k) ≡ true
  pub compensated : number_from settings.limits.min (max_at settings k) (compensated_of s ch k) ≡ true
  pub uncapped : number_from settings.limits.min greatest_erle (uncapped_of s ch k) ≡ true

-- the compensated ERLE is exactly the minimum, the band waits for an onset, and plain and uncapped ERLE have the bits that
-- they had before
pub record AtRest (settings : SubbandSettings) (before s : SubbandErleEstimator) (ch k : ℕ) : Type 0 where
  pub compensated : compensated_of s ch k ≡ settings.limits.min
  pub waits : waits_of s ch k ≡ true
  pub plain : plain_of s ch k ≡ plain_of before ch k
  pub uncapped : uncapped_of s ch k ≡ uncapped_of before ch k

-- Claim, which `SubbandErleEstimator::new` promises of the settings that it accepts: after any list of updates and resets, refused
-- calls among them, every channel and band is in range. If onset detection is on and the last 500 accepted calls are all updates in
-- which one and the same channel stands unconverged, each of that channel's bands is at rest, compared with the state before these 500.
--
-- The order's demand 3, phrase by phrase:
-- "Take an accepted start" -> `new` promises the claim where it accepts, and answers `started settings` then
-- "any list of its updates and resets after it, empty or with refused calls among them" -> calls, any List Call
-- "each call taking up the state the last one left" -> run
-- "At the list's end the definition of demand 2 gives" -> run (started settings) calls, by answer
-- "in every channel and band" -> in_range, each ch below the channel count and k below 65
-- "a plain, an uncapped and an onset-compensated ERLE" -> the fields of InRange, of plain_of, uncapped_of, compensated_of
-- "that are numbers, not below the minimum nor above" -> number_from settings.limits.min
-- "their band's maximum" -> max_at, in InRange's plain and compensated
-- "which for the uncapped one is 100,000" -> greatest_erle, in InRange's uncapped
-- "If onset detection is on" -> settings.onset_detection ≡ true, in at_rest
-- "the last 500 accepted calls of the list" -> calls is cut in two so that 500 of later are accepted, taking up what earlier left;
--     every list with 500 accepted calls or more can be cut so (LastCallsCutOff), and they are its last
-- "are all updates in which one and the same channel stands unconverged" -> list_all (unconverged ch); a reset fails it
-- "whatever their powers and other channels" -> unconverged looks at the flag of ch alone
-- "whatever calls are refused among or after them" -> accepted_of leaves these out, later and run take them up
-- "each of that channel's 65 bands" -> each k below 65, in at_rest
-- "its onset-compensated ERLE at exactly the minimum" -> AtRest's compensated
-- "waits for an onset" -> AtRest's waits
-- "its plain and uncapped ERLE have the bits they had before the 500" -> AtRest's plain and uncapped, beside run start earlier
pub record RangeAndRest (settings : SubbandSettings) (calls : List Call) : Type 0 where
  pub in_range :
      let s = run (started settings) calls in
      (ch k : ℕ) → ch < settings.num_capture_channels → k < 65 → InRange settings s ch k
  pub at_rest :
      let start = started settings in
      (earlier later : List Call) → earlier ++ later ≡ calls
      → let before = run start earlier in
      let taken = accepted_of before later in
      (ch : ℕ) → ch < settings.num_capture_channels → settings.onset_detection ≡ true
      → length taken ≡ 500 → list_all (unconverged ch) taken ≡ true
      → (k : ℕ) → k < 65 → AtRest settings before (run start calls) ch k

-- ---- the last accepted calls of a list

-- a list of calls cut in two: n of the later ones are accepted, taking up what the earlier ones left, and these are the list's last
pub record CutOff (n : ℕ) (s : SubbandErleEstimator) (calls : List Call) : Type 0 where
  pub earlier : List Call
  pub later : List Call
  pub whole : earlier ++ later ≡ calls
  pub many : length (accepted_of (run s earlier) later) ≡ n
  pub last : accepted_of s earlier ++ accepted_of (run s earlier) later ≡ accepted_of s calls

-- Claim: a list with n accepted calls or more can be cut so.
unfoldable pub LastCallsCutOff : Type 0
LastCallsCutOff = (n : ℕ) (s : SubbandErleEstimator) (calls : List Call) → n ≤ length (accepted_of s calls) → CutOff n s calls
