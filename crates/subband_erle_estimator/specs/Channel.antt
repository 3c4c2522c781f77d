-- One channel of the subband estimator: what its 65 bands hold, and a count of points.
use Rattle.std.specs.Prelude.{Bool, false, cond, ◌&&◌, List, [], ℕ, suc, eqb, pos, Float, get_or}
use Rattle.std.specs.Float.{nan}
use Rattle.aec3_common.specs.Lists.{tab}
use Rattle.aec3_common.specs.Spectra.{shown_band}
use Rattle.filter_sections.specs.Subbands.{max_erle}
use Rattle.erle_bands.specs.Band.{Sums, fresh_sums, added, ratio, learns, hold_falls, Streams, fresh_streams, streams_learnt, Onset, fresh_onset, onset_learnt, one_block_less}
use Rattle.subband_erle_estimator.specs.declared.settings.SubbandSettings.{SubbandSettings}
use Rattle.subband_erle_estimator.specs.declared.channel.SubbandChannel.{SubbandChannel}

-- ---- a record and its parts

-- what one band holds
abbrev pub sums_at : SubbandChannel → ℕ → Sums
sums_at c k =
    record { capture = get_or c.y2 k nan; residual = get_or c.e2 k nan; low = get_or c.low_render_energy k false }

abbrev pub streams_at : SubbandChannel → ℕ → Streams
streams_at c k = record { plain = get_or c.erle k nan; uncapped = get_or c.erle_unbounded k nan }

abbrev pub onset_at : SubbandChannel → ℕ → Onset
onset_at c k =
    record {
      compensated = get_or c.erle_onset_compensated k nan;
      onset = get_or c.erle_onsets k nan;
      waits = get_or c.coming_onset k false;
      hold = get_or c.hold_counters k (pos 0);
    }

-- and back: the record whose sums are of so many points and whose bands hold these. Start, reset and update put records together here.
unfoldable pub channel_from : ℕ → (ℕ → Sums) → (ℕ → Streams) → (ℕ → Onset) → SubbandChannel
channel_from points sums streams onset =
    record {
      num_points = points;
      y2 = tab 65 (λ k. (sums k).capture);
      e2 = tab 65 (λ k. (sums k).residual);
      low_render_energy = tab 65 (λ k. (sums k).low);
      erle = tab 65 (λ k. (streams k).plain);
      erle_unbounded = tab 65 (λ k. (streams k).uncapped);
      erle_onset_compensated = tab 65 (λ k. (onset k).compensated);
      erle_onsets = tab 65 (λ k. (onset k).onset);
      coming_onset = tab 65 (λ k. (onset k).waits);
      hold_counters = tab 65 (λ k. (onset k).hold);
    }

-- the compensated stream with bands 0 and 64 as copies of 1 and 63; what stands beside it is each band's own
unfoldable pub compensated_shown : (ℕ → Onset) → ℕ → Onset
compensated_shown onset k =
    let own = onset k in
    record { compensated = (onset (shown_band k)).compensated; onset = own.onset; waits = own.waits; hold = own.hold }

-- ---- a reset

-- A reset fills all 65 places; the points are 0. So does a start.
unfoldable pub fresh : Float → SubbandChannel
fresh min = channel_from 0 (λ k. fresh_sums) (λ k. fresh_streams min) (λ k. fresh_onset min)

-- ---- an update

-- what an update brings a channel: its flag, and per band render, capture and residual power
pub record Block : Type 0 where
  pub converged : Bool
  pub render : List Float
  pub capture : List Float
  pub residual : List Float

-- a block in which the channel stands unconverged: its powers are not looked at
abbrev pub unconverged_block : Block
unconverged_block = record { converged = false; render = []; capture = []; residual = [] }

-- the band's maximum
abbrev pub max_at : SubbandSettings → ℕ → Float
max_at s k = max_erle s.limits.max_l s.limits.max_h k

-- For bands 1 to 63 with residual sum above 0, the ratio of the sums is new.
module _ (s : SubbandSettings) (k : ℕ) (sums : Sums) where
  unfoldable pub streams_learnt_at : Streams → Streams
  streams_learnt_at held =
      cond (learns k sums.residual)
      (streams_learnt s.limits.min (max_at s k) (ratio sums.capture sums.residual) sums.low held)
      held

  unfoldable pub onset_learnt_at : Onset → Onset
  onset_learnt_at held =
      cond (learns k sums.residual)
      (onset_learnt s.limits.min (max_at s k) (ratio sums.capture sums.residual) sums.low held)
      held

-- after six points the ratio is looked at
abbrev pub all_points : ℕ
all_points = 6

-- the points held after a converged block; the one after a sixth is a first again
abbrev pub points_with : ℕ → ℕ
points_with points = suc (cond (eqb points all_points) 0 points)

module _ (s : SubbandSettings) (b : Block) (c : SubbandChannel) where
  abbrev pub points_after : ℕ
  points_after = cond b.converged (points_with c.num_points) c.num_points

  -- the band's sums with the block's powers: all 65 bands, of a converged channel only; after a sixth point they begin again
  unfoldable pub sums_after : ℕ → Sums
  sums_after k =
      cond b.converged
      (added (eqb c.num_points all_points) (get_or b.render k nan) (get_or b.capture k nan) (get_or b.residual k nan) (sums_at c k))
      (sums_at c k)

  -- on the sixth converged block the bands learn
  abbrev pub is_sixth : Bool
  is_sixth = b.converged && eqb (points_with c.num_points) all_points

  unfoldable pub streams_after : ℕ → Streams
  streams_after k = let held = streams_at c k in cond is_sixth (streams_learnt_at s k (sums_after k) held) held

  -- With onset detection on only, bands 1 to 63: what onset detection holds learns too; then, in every update, the hold falls, and by
  -- it the compensated value decays and the band waits.
  unfoldable pub onset_after : ℕ → Onset
  onset_after k =
      let held = onset_at c k in
      cond (hold_falls s.onset_detection k)
      (one_block_less s.limits.min (cond is_sixth (onset_learnt_at s k (sums_after k) held) held))
      held

  -- Bands 0 and 64 copy 1 and 63 in the three streams.
  unfoldable pub channel_after : SubbandChannel
  channel_after = channel_from points_after sums_after (λ k. streams_after (shown_band k)) (compensated_shown onset_after)
