-- What blocks ask of a state: states that have it, and that it stays so.
use mathlib.Core.Path.{◌≡◌, refl}
use mathlib.Core.Bool.{Bool, true, false, cond, ◌&&◌}
use mathlib.Core.List.{List}
use Prim.Native.Nat.{ℕ, suc, ◌≤◌}
use native.Mathlib.Omega.{arith}
use borrow.Author.Tests.{eqb-true, eqb-false}
use lib.Dec.{eqb, ltb}
use lib.Ieee.{Float, lt}
use lib.ListN.{length}
use Rattle.aec3_common.specs.Binary32.{zero32, sum_threshold}
use Rattle.aec3_common.specs.Counts.{one_more, fallen, is_zero}
use Rattle.aec3_common.specs.Spectra.{sum}
use Rattle.aec3_common.proofs.Tables.{get_or-tab, get_or-tab-first}
use Rattle.subband_erle_estimator.specs.declared.settings.SubbandSettings.{SubbandSettings}
use Rattle.subband_erle_estimator.specs.declared.channel.SubbandChannel.{SubbandChannel}
use Rattle.subband_erle_estimator.specs.Channel.{Block, channel_from, fresh, channel_after as Subband·channel_after}
use Rattle.subband_erle_estimator.specs.Subband.{no_channel as Subband·no_channel, channel_at as Subband·channel_at, started as Subband·started, updated as Subband·updated}
use Rattle.subband_erle_estimator.proofs.Judged.{state-few, points-few}
use Rattle.subband_erle_estimator.proofs.Updates.{channel_of as Subband·channel_of}
use Rattle.fullband_channel.specs.declared.instantaneous.ErleInstantaneous.{ErleInstantaneous}
use Rattle.fullband_channel.specs.declared.instantaneous.OptionalNumber.{OptionalNumber}
use Rattle.fullband_channel.specs.declared.instantaneous.OptionalNumber.TheVariants.{Absent, Number}
use Rattle.fullband_channel.specs.Instantaneous.{capture_with, residual_with, holding, accumulated, new_log2, learnt, cleared, accumulators_reset, fresh as Instantaneous·fresh}
use Rattle.fullband_channel.specs.declared.channel.FullBandChannel.{FullBandChannel}
use Rattle.fullband_channel.specs.Channel.{fresh_channel, with_new, with_point, one_block_less, channel_after as FullBand·channel_after}
use Rattle.fullband_channel.proofs.Judged.{few-points}
use Rattle.fullband_erle_estimator.specs.FullBand.{min_log2, no_channel as FullBand·no_channel, channel_at as FullBand·channel_at, started as FullBand·started, updated as FullBand·updated}
use Rattle.fullband_erle_estimator.proofs.Judged.{channel-passed}
use Rattle.fullband_erle_estimator.proofs.Updates.{channel_of as FullBand·channel_of}
use Rattle.erle_estimator.specs.declared.ErleEstimator.{ErleEstimator}
use Rattle.aec3_common.specs.declared.settings.ErleSettings.{ErleSettings}
use Rattle.erle_estimator.specs.Parts.{fullband_settings, subband_part, fullband_part}
use Rattle.erle_estimator.specs.Erle.{Update, Powers, powers_of, active_in, started_with, counted, updated, after_block, after_accepted}
use Rattle.erle_estimator.proofs.Judged.{subband-passed, fullband-passed}
use Rattle.trace_state.specs.declared.Trace.{Trace}
use Rattle.trace_state.specs.Apply.{channels_of, trace_ok}
use Rattle.trace_blocks.specs.Steps.{Ready}
use Rattle.trace_state.proofs.Judged.{passing}

-- ---- a block

-- no more points than a record can hold
points-stay : (g : SubbandSettings) (b : Block) (c : SubbandChannel) → c.num_points ≤ 6 → (Subband·channel_after g b c).num_points ≤ 6
unfolding Subband·channel_after channel_from
points-stay g b c h = go b.converged (eqb c.num_points 6) refl
  where
    go : (conv six : Bool) → eqb c.num_points 6 ≡ six → cond conv (suc (cond six 0 c.num_points)) c.num_points ≤ 6
    go false six e = h
    go true true e = omega arith
    go true false e = omega (arith, eqb-false c.num_points 6 e)

points-stay-fullband :
    (least : Float) (conv : Bool) (x y e : List Float) (c : FullBandChannel) → c.instantaneous_erle.num_points ≤ 5
    → (FullBand·channel_after least conv x y e c).instantaneous_erle.num_points ≤ 5
unfolding FullBand·channel_after one_block_less accumulators_reset cleared accumulated holding with_point learnt
points-stay-fullband least conv x y e c h =
    less (cond (conv && lt sum_threshold (sum x)) (with_point least (sum y) (sum e) c) c) (heard (conv && lt sum_threshold (sum x)))
  where
    less : (d : FullBandChannel) → d.instantaneous_erle.num_points ≤ 5 → (one_block_less d).instantaneous_erle.num_points ≤ 5
    less d l = go (is_zero (fallen d.hold_counter_time_domain))
      where
        go : (b : Bool) → (cond b (accumulators_reset d.instantaneous_erle) d.instantaneous_erle).num_points ≤ 5
        go true = omega arith
        go false = l

    added : (accumulated (sum y) (sum e) c.instantaneous_erle).num_points ≤ 5
    added = go (eqb (suc c.instantaneous_erle.num_points) 6) refl
      where
        i : ErleInstantaneous
        i = c.instantaneous_erle

        go : (b : Bool) → eqb (suc i.num_points) 6 ≡ b → (cond b (holding zero32 zero32 0 i) (holding (capture_with (sum y) (sum e) i) (residual_with (sum y) (sum e) i) (suc i.num_points) i)).num_points ≤ 5
        go true q = omega arith
        go false q = omega (arith, eqb-false (suc i.num_points) 6 q)

    pointed : (with_point least (sum y) (sum e) c).instantaneous_erle.num_points ≤ 5
    pointed = go (new_log2 (sum y) (sum e) c.instantaneous_erle)
      where
        held : FullBandChannel
        held =
            record {
              instantaneous_erle = accumulated (sum y) (sum e) c.instantaneous_erle;
              erle_time_domain_log2 = c.erle_time_domain_log2;
              hold_counter_time_domain = c.hold_counter_time_domain;
            }

        go : (new : OptionalNumber) → (with_new least new held).instantaneous_erle.num_points ≤ 5
        go Absent = added
        go (Number value) = added

    heard : (b : Bool) → (cond b (with_point least (sum y) (sum e) c) c).instantaneous_erle.num_points ≤ 5
    heard true = pointed
    heard false = h

module _ (s : ErleEstimator) (p : Powers) (active : ℕ → List ℕ) (ready : Ready s) where
  abbrev after : ErleEstimator
  after = updated s p active

  ready-updated : Ready after
  unfolding updated Subband·updated Subband·channel_of FullBand·updated FullBand·channel_of
  ready-updated =
      let moved = Subband·channel_of (subband_part s) p.converged p.render p.capture p.residual in
      let moved-fullband = FullBand·channel_of (fullband_part s) p.converged p.render p.capture p.residual in
      record {
        few = ready.few;
        section = ready.section;
        points = λ ch h.
            rw (get_or-tab-first 4 (channels_of s) moved (Subband·channel_at (subband_part s)) ch Subband·no_channel ready.few h)
            (points-stay _ _ _ (ready.points ch h));
        points_fullband = λ ch h.
            rw (get_or-tab-first 4 (channels_of s) moved-fullband (FullBand·channel_at (fullband_part s)) ch FullBand·no_channel ready.few h)
            (points-stay-fullband _ _ _ _ _ _ (ready.points_fullband ch h));
      }

-- after a block a state is ready for the next
pub ready-after : (e : ErleEstimator) (u : Update) → Ready e → Ready (after_accepted e u)
unfolding after_accepted after_block counted
ready-after e u ready = go (ltb (one_more e.blocks_since_reset) e.startup_phase_length_blocks)
  where
    still : Ready (counted e)
    still = record { few = ready.few; section = ready.section; points = ready.points; points_fullband = ready.points_fullband }

    go : (b : Bool) → Ready (cond b (counted e) (updated (counted e) (powers_of u) (active_in e u)))
    go true = still
    go false = ready-updated (counted e) (powers_of u) (active_in e u) still

-- ---- other states that are ready for blocks

-- one that 20 lets pass
pub ready-passing : (t : Trace) → length t.estimator.subband ≡ 4 → length t.estimator.fullband ≡ 4 → trace_ok t ≡ true → Ready t.estimator
ready-passing t four four-fullband ok = go (eqb (channels_of t.estimator) 0) refl
  where
    e : ErleEstimator
    e = t.estimator

    go : (b : Bool) → eqb (channels_of e) 0 ≡ b → Ready e
    go true none =
        let zero = eqb-true (channels_of e) 0 none in
        record {
          few = omega arith;
          section = λ some. absurd (omega arith);
          points = λ ch h. absurd (omega arith);
          points_fullband = λ ch h. absurd (omega arith);
        }
    go false there =
        let some : 1 ≤ channels_of e = omega (arith, eqb-false (channels_of e) 0 there) in
        let (passes, section) = passing t some ok in
        record {
          few = state-few (subband_part e) (subband-passed e passes);
          section = λ more. section;
          points = λ ch h. points-few (subband_part e) ch (subband-passed e passes) four h;
          points_fullband = λ ch h. few-points _ (channel-passed (fullband_part e) (fullband-passed e passes) ch four-fullband h);
        }

-- one that has just begun
pub ready-started :
    (startup blocks : ℕ) (g : ErleSettings) → g.num_capture_channels ≤ 4 → (1 ≤ g.num_capture_channels → g.layout.num_sections ≡ 1)
    → Ready (started_with startup blocks g)
unfolding started_with Subband·started FullBand·started fresh channel_from fresh_channel Instantaneous·fresh cleared
ready-started startup blocks g few section =
    record {
      few = few;
      section = section;
      points = λ ch h. rw (get_or-tab 4 (λ k. fresh g.limits.min) ch Subband·no_channel (omega arith)) (no-points g.limits.min);
      points_fullband = λ ch h. rw (get_or-tab 4 (λ k. fresh_channel (min_log2 (fullband_settings g))) ch FullBand·no_channel (omega arith)) (no-points-fullband (min_log2 (fullband_settings g)));
    }
  where
    no-points : (min : Float) → (fresh min).num_points ≤ 6
    no-points min = omega arith

    no-points-fullband : (least : Float) → (fresh_channel least).instantaneous_erle.num_points ≤ 5
    no-points-fullband least = omega arith
