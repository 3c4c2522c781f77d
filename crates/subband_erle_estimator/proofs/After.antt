-- A channel's record after an update: what the steps of the code leave is what the definition says of each band.
use mathlib.Core.Path.{◌≡◌, refl, sym, ap, ◌∙◌, subst}
use mathlib.Core.Bool.{Bool, true, false, cond, ◌&&◌}
use mathlib.Core.List.{List}
use Prim.Native.Nat.{ℕ, ◌<◌}
use lib.Dec.{ltb, eqb}
use lib.IntN.{ℤ, pos}
use lib.Ieee.{Float, nan}
use lib.ListN.{length, get_or}
use Rattle.std.specs.Prelude.{Option, None, Some, if◌then◌else◌, is_some, unwrap_or}
use Rattle.aec3_common.specs.declared.settings.ErleLimits.{ErleLimits}
use Rattle.aec3_common.specs.Lists.{tab}
use Rattle.aec3_common.specs.Settings.{greatest_erle}
use Rattle.aec3_common.specs.Spectra.{inner_band, shown_band, ends_copied}
use Rattle.aec3_common.proofs.Bands.{ends-are, shown-below}
use Rattle.aec3_common.proofs.Choices.{and-true, and-false}
use Rattle.aec3_common.proofs.Tables.{length-tab, get_or-tab, tab-same}
use Rattle.filter_sections.specs.Subbands.{max_erle}
use Rattle.erle_bands.specs.Band.{Sums, added, has_ratio, ratio, new_ratio, learns, hold_falls, stream_moved, Streams, streams_learnt, Onset, onset_learnt, hold_less, compensated_beside, waits_beside, waits_learnt, hold_learnt, one_block_less}
use Rattle.erle_bands.specs.Steps.{sums_with, lows_with, new_ratios_of, all_streams_moved, all_waits_learnt, all_holds_learnt, all_holds_less, all_compensated_beside, all_waits_beside}
use Rattle.erle_bands.proofs.Bands.{bands-stay}
use Rattle.erle_bands.proofs.Begun.{sums-begun, lows-begun}
use Rattle.subband_erle_estimator.specs.declared.settings.SubbandSettings.{SubbandSettings}
use Rattle.subband_erle_estimator.specs.declared.channel.SubbandChannel.{SubbandChannel}
use Rattle.subband_erle_estimator.specs.Channel.{sums_at, streams_at, onset_at, channel_from, compensated_shown, Block, unconverged_block, max_at, streams_learnt_at, onset_learnt_at, all_points, points_with, points_after, sums_after, is_sixth, streams_after, onset_after, channel_after}
use Rattle.subband_erle_estimator.specs.Steps.{uncapped_limits, sums_cleared, learnt_by}
use Rattle.subband_erle_estimator.proofs.Parts.{Long, sums-from, streams-from, onset-from, same_parts, own-parts}

-- a field of a choice is a choice of fields
field : {A B : Type 0} (f : A → B) (t : Bool) (x y : A) → cond t (f x) (f y) ≡ f (cond t x y)
field f true x y = refl
field f false x y = refl

-- ---- the powers of a converged block are added

module _ (x y e : List Float) (c : SubbandChannel) where
  -- the band's sums with the block's powers
  unfoldable pub heard_sums : ℕ → Sums
  heard_sums k = added (eqb c.num_points all_points) (get_or x k nan) (get_or y k nan) (get_or e k nan) (sums_at c k)

  unfoldable pub heard_by : SubbandChannel
  heard_by = channel_from (points_with c.num_points) heard_sums (streams_at c) (onset_at c)

  heard-with :
      {y2 e2 : List Float} {low : List Bool} {points : ℕ} → Long c
      → y2 ≡ sums_with (eqb c.num_points all_points) c.y2 y
      → e2 ≡ sums_with (eqb c.num_points all_points) c.e2 e
      → low ≡ lows_with (eqb c.num_points all_points) c.low_render_energy x
      → points ≡ points_with c.num_points
      → ◌≡◌ {A = SubbandChannel}
      (record {
        erle = c.erle;
        erle_onset_compensated = c.erle_onset_compensated;
        erle_unbounded = c.erle_unbounded;
        erle_onsets = c.erle_onsets;
        coming_onset = c.coming_onset;
        hold_counters = c.hold_counters;
        y2 = y2;
        e2 = e2;
        low_render_energy = low;
        num_points = points;
      })
      heard_by
  unfolding heard_by heard_sums channel_from sums_with lows_with added
  heard-with l capture residual low points =
      λ i.
      record {
        num_points = points i;
        y2 = capture i;
        e2 = residual i;
        low_render_energy = low i;
        erle = bands-stay nan c.erle l.plain i;
        erle_unbounded = bands-stay nan c.erle_unbounded l.uncapped i;
        erle_onset_compensated = bands-stay nan c.erle_onset_compensated l.compensated i;
        erle_onsets = bands-stay nan c.erle_onsets l.onset i;
        coming_onset = bands-stay false c.coming_onset l.waits i;
        hold_counters = bands-stay (pos 0) c.hold_counters l.hold i;
      }

  abbrev with_sums : List Float → List Float → List Bool → ℕ → SubbandChannel → SubbandChannel
  with_sums y2 e2 low points r =
      record {
        erle = r.erle;
        erle_onset_compensated = r.erle_onset_compensated;
        erle_unbounded = r.erle_unbounded;
        erle_onsets = r.erle_onsets;
        coming_onset = r.coming_onset;
        hold_counters = r.hold_counters;
        y2 = y2;
        e2 = e2;
        low_render_energy = low;
        num_points = points;
      }

  record Begun (t : Bool) (r : SubbandChannel) : Type 0 where
    pub capture : sums_with false r.y2 y ≡ sums_with t c.y2 y
    pub residual : sums_with false r.e2 e ≡ sums_with t c.e2 e
    pub low : lows_with false r.low_render_energy x ≡ lows_with t c.low_render_energy x
    pub others : (y2 e2 : List Float) (low : List Bool) (points : ℕ) → with_sums y2 e2 low points r ≡ with_sums y2 e2 low points c

  begun-is : (t : Bool) → Begun t (cond t (sums_cleared c) c)
  unfolding sums_cleared
  begun-is true =
      record {
        capture = sums-begun true c.y2 y;
        residual = sums-begun true c.e2 e;
        low = lows-begun true c.low_render_energy x;
        others = λ y2 e2 low points. refl;
      }
  begun-is false = record { capture = refl; residual = refl; low = refl; others = λ y2 e2 low points. refl }

  pub heard-is :
      {y2 e2 : List Float} {low : List Bool} {points : ℕ} (b : SubbandChannel) → Long c
      → b ≡ cond (eqb c.num_points all_points) (sums_cleared c) c
      → y2 ≡ sums_with false b.y2 y → e2 ≡ sums_with false b.e2 e → low ≡ lows_with false b.low_render_energy x → points ≡ points_with c.num_points
      → ◌≡◌ {A = SubbandChannel}
      (record {
        erle = b.erle;
        erle_onset_compensated = b.erle_onset_compensated;
        erle_unbounded = b.erle_unbounded;
        erle_onsets = b.erle_onsets;
        coming_onset = b.coming_onset;
        hold_counters = b.hold_counters;
        y2 = y2;
        e2 = e2;
        low_render_energy = low;
        num_points = points;
      })
      heard_by
  heard-is {y2} {e2} {low} {points} b l begins capture residual lows count =
      let t = eqb c.num_points all_points in
      let m : Begun t b = subst (Begun t) (sym begins) (begun-is t) in
      m.others y2 e2 low points ∙ heard-with l (capture ∙ m.capture) (residual ∙ m.residual) (lows ∙ m.low) count

  -- and on a sixth point learnt from
  unfoldable pub converged_by : SubbandSettings → SubbandChannel
  converged_by s = cond (eqb (points_with c.num_points) all_points) (learnt_by s heard_by) heard_by

  module _ (s : SubbandSettings) (r : SubbandChannel) (h : r ≡ heard_by) where
    points-heard : r.num_points ≡ points_with c.num_points
    unfolding heard_by channel_from
    points-heard = ap (λ (z : SubbandChannel). z.num_points) h

    pub converged-six : eqb r.num_points all_points ≡ true → learnt_by s r ≡ converged_by s
    unfolding converged_by
    converged-six six = let six : eqb (points_with c.num_points) all_points ≡ true = rw points-heard at six in simp (six, h)

    pub converged-few : eqb r.num_points all_points ≡ false → r ≡ converged_by s
    unfolding converged_by
    converged-few few = let few : eqb (points_with c.num_points) all_points ≡ false = rw points-heard at few in simp (few, h)

-- ---- new ratios are learnt from

-- the maximum of a stream that has the same one in all bands
same-maxima : (v : Float) (k : ℕ) → max_erle v v k ≡ v
unfolding max_erle
same-maxima v k = go (ltb k 32)
  where
    go : (t : Bool) → cond t v v ≡ v
    go true = refl
    go false = refl

-- what a new ratio makes of a band's value, where there is one
by-ratio :
    {A : Type 0} (inner has : Bool) (r : Float) (f : Float → A) (old : A)
    → cond (inner && is_some (if has then Some r else None)) (f (unwrap_or (if has then Some r else None) nan)) old ≡ cond (inner && has) (f r) old
by-ratio true true r f old = refl
by-ratio true false r f old = refl
by-ratio false has r f old = refl

-- by ratios of the record's own sums
module _ (s : SubbandSettings) (c : SubbandChannel) (l : Long c) {news : List (Option Float)} (n : news ≡ new_ratios_of c.y2 c.e2) where
  -- the new ratio of a band
  new-at : (k : ℕ) → k < 65 → get_or news k None ≡ new_ratio (sums_at c k).capture (sums_at c k).residual
  unfolding new_ratios_of
  new-at k h =
      ap (λ (z : List (Option Float)). get_or z k None) n ∙ get_or-tab 65 (λ j. new_ratio (get_or c.y2 j nan) (get_or c.e2 j nan)) k None h

  -- a moved stream in a band
  stream_at :
      (g : ErleLimits) {new : List Float} (old : List Float) → new ≡ all_streams_moved g news c.low_render_energy old → (k : ℕ) → k < 65
      → get_or new k nan
      ≡ cond (learns k (sums_at c k).residual)
      (stream_moved g.min (max_erle g.max_l g.max_h k) (ratio (sums_at c k).capture (sums_at c k).residual) (sums_at c k).low (get_or old k nan))
      (get_or old k nan)
  unfolding all_streams_moved
  stream_at g old e k h =
      ap (λ (z : List Float). get_or z k nan) e ∙ get_or-tab 65 _ k nan h
      ∙ rw (new-at k h)
      (by-ratio (inner_band k) (has_ratio (sums_at c k).residual) (ratio (sums_at c k).capture (sums_at c k).residual)
      (λ new. stream_moved g.min (max_erle g.max_l g.max_h k) new (sums_at c k).low (get_or old k nan)) (get_or old k nan))

  -- what the streams of a band become, and what onset detection holds of it
  abbrev streams_new : ℕ → Streams
  streams_new k = streams_learnt s.limits.min (max_at s k) (ratio (sums_at c k).capture (sums_at c k).residual) (sums_at c k).low (streams_at c k)

  abbrev onset_new : ℕ → Onset
  onset_new k = onset_learnt s.limits.min (max_at s k) (ratio (sums_at c k).capture (sums_at c k).residual) (sums_at c k).low (onset_at c k)

  module _ {plain uncapped : List Float}
      (p : plain ≡ all_streams_moved s.limits news c.low_render_energy c.erle)
      (u : uncapped ≡ all_streams_moved (uncapped_limits s) news c.low_render_energy c.erle_unbounded)
    where
      streams-moved :
          (k : ℕ) → k < 65
          → ◌≡◌ {A = Streams} (record { plain = get_or plain k nan; uncapped = get_or uncapped k nan }) (streams_learnt_at s k (sums_at c k) (streams_at c k))
      unfolding streams_learnt_at streams_learnt
      streams-moved k h =
          let t = learns k (sums_at c k).residual in
          λ i.
          record {
            plain = (stream_at s.limits c.erle p k h ∙ field (λ (z : Streams). z.plain) t (streams_new k) (streams_at c k)) i;
            uncapped =
                (rw (same-maxima greatest_erle k) at (stream_at (uncapped_limits s) c.erle_unbounded u k h)
                ∙ field (λ (z : Streams). z.uncapped) t (streams_new k) (streams_at c k))
                i;
          }

      -- a record with these streams and with what onset detection holds
      abbrev moved : List Float → List Bool → List ℤ → SubbandChannel
      moved compensated waits holds =
          record {
            erle = plain;
            erle_onset_compensated = compensated;
            erle_unbounded = uncapped;
            erle_onsets = c.erle_onsets;
            coming_onset = waits;
            hold_counters = holds;
            y2 = c.y2;
            e2 = c.e2;
            low_render_energy = c.low_render_energy;
            num_points = c.num_points;
          }

      moved-long :
          {compensated : List Float} {waits : List Bool} {holds : List ℤ}
          → length compensated ≡ 65 → length waits ≡ 65 → length holds ≡ 65 → Long (moved compensated waits holds)
      unfolding all_streams_moved
      moved-long compensated waits holds =
          record {
            capture = l.capture;
            residual = l.residual;
            low = l.low;
            plain = ap length p ∙ length-tab 65 _;
            uncapped = ap length u ∙ length-tab 65 _;
            compensated = compensated;
            onset = l.onset;
            waits = waits;
            hold = holds;
          }

      pub learnt-off : s.onset_detection ≡ false → moved c.erle_onset_compensated c.coming_onset c.hold_counters ≡ learnt_by s c
      unfolding learnt_by
      learnt-off off =
          own-parts (moved c.erle_onset_compensated c.coming_onset c.hold_counters) (moved-long l.compensated l.waits l.hold)
          ∙ same_parts refl (λ k h. refl) streams-moved (λ k h. rw off)

      module _ {compensated : List Float} {waits : List Bool} {holds : List ℤ}
          (o : compensated ≡ all_streams_moved s.limits news c.low_render_energy c.erle_onset_compensated)
          (w : waits ≡ all_waits_learnt news c.low_render_energy c.coming_onset)
          (d : holds ≡ all_holds_learnt news c.low_render_energy c.hold_counters)
        where
          onset-moved : (k : ℕ) → k < 65 → onset_at (moved compensated waits holds) k ≡ onset_learnt_at s k (sums_at c k) (onset_at c k)
          unfolding onset_learnt_at onset_learnt all_waits_learnt all_holds_learnt
          onset-moved k h =
              let t = learns k (sums_at c k).residual in
              λ i.
              record {
                compensated = (stream_at s.limits c.erle_onset_compensated o k h ∙ field (λ (z : Onset). z.compensated) t (onset_new k) (onset_at c k)) i;
                onset = stays t (onset_new k) (onset_at c k) refl i;
                waits =
                    (ap (λ (z : List Bool). get_or z k false) w ∙ get_or-tab 65 _ k false h
                    ∙ rw (new-at k h)
                    (by-ratio (inner_band k) (has_ratio (sums_at c k).residual) (ratio (sums_at c k).capture (sums_at c k).residual)
                    (λ new. waits_learnt (sums_at c k).low (onset_at c k).waits) (onset_at c k).waits)
                    ∙ field (λ (z : Onset). z.waits) t (onset_new k) (onset_at c k)) i;
                hold =
                    (ap (λ (z : List ℤ). get_or z k (pos 0)) d ∙ get_or-tab 65 _ k (pos 0) h
                    ∙ rw (new-at k h)
                    (by-ratio (inner_band k) (has_ratio (sums_at c k).residual) (ratio (sums_at c k).capture (sums_at c k).residual)
                    (λ new. hold_learnt (sums_at c k).low (onset_at c k).hold) (onset_at c k).hold)
                    ∙ field (λ (z : Onset). z.hold) t (onset_new k) (onset_at c k)) i;
              }
            where
              stays : (t : Bool) (x y : Onset) → x.onset ≡ y.onset → y.onset ≡ (cond t x y).onset
              stays true x y e = sym e
              stays false x y e = refl

          pub learnt-on : s.onset_detection ≡ true → moved compensated waits holds ≡ learnt_by s c
          unfolding learnt_by onset_learnt_at all_streams_moved all_waits_learnt all_holds_learnt
          learnt-on on =
              own-parts (moved compensated waits holds)
              (moved-long (ap length o ∙ length-tab 65 _) (ap length w ∙ length-tab 65 _) (ap length d ∙ length-tab 65 _))
              ∙ same_parts refl (λ k h. refl) streams-moved (λ k h. rw on (onset-moved k h))

-- ---- one block less to hold, and bands 0 and 64 of the three streams

module _ (s : SubbandSettings) (c : SubbandChannel) where
  unfoldable pub lowered_onset : ℕ → Onset
  lowered_onset k = cond (hold_falls s.onset_detection k) (one_block_less s.limits.min (onset_at c k)) (onset_at c k)

  unfoldable pub lowered_by : SubbandChannel
  lowered_by = channel_from c.num_points (sums_at c) (λ k. streams_at c (shown_band k)) (compensated_shown lowered_onset)

  module _ {holds : List ℤ} (lower : holds ≡ all_holds_less s.onset_detection c.hold_counters) where
    -- a hold after it
    hold_at : (k : ℕ) → k < 65 → get_or holds k (pos 0) ≡ (lowered_onset k).hold
    unfolding all_holds_less lowered_onset one_block_less
    hold_at k h =
        ap (λ (z : List ℤ). get_or z k (pos 0)) lower
        ∙ get_or-tab 65 (λ j. cond (hold_falls s.onset_detection j) (hold_less (get_or c.hold_counters j (pos 0))) (get_or c.hold_counters j (pos 0))) k (pos 0) h
        ∙ field (λ (o : Onset). o.hold) (hold_falls s.onset_detection k) (one_block_less s.limits.min (onset_at c k)) (onset_at c k)

    hold-all : holds ≡ tab 65 (λ k. (lowered_onset k).hold)
    unfolding all_holds_less lowered_onset one_block_less
    hold-all = lower ∙ tab-same 65 (pos 0) _ _ (λ k h. field (λ (o : Onset). o.hold) (hold_falls s.onset_detection k) (one_block_less s.limits.min (onset_at c k)) (onset_at c k))

    waits-all : {waits : List Bool} → waits ≡ all_waits_beside s.onset_detection holds c.coming_onset → waits ≡ tab 65 (λ k. (lowered_onset k).waits)
    unfolding all_waits_beside lowered_onset one_block_less
    waits-all e =
        e
        ∙ tab-same 65 false _ _
        (λ k h. rw (hold_at k h) (go k (hold_falls s.onset_detection k)))
      where
        go :
            (k : ℕ) (t : Bool)
            → cond t (waits_beside (cond t (one_block_less s.limits.min (onset_at c k)) (onset_at c k)).hold (onset_at c k).waits) (onset_at c k).waits
            ≡ (cond t (one_block_less s.limits.min (onset_at c k)) (onset_at c k)).waits
        go k true = refl
        go k false = refl

    compensated-all :
        {decayed : List Float} → decayed ≡ all_compensated_beside s.onset_detection s.limits.min holds c.erle_onsets c.erle_onset_compensated
        → ends_copied decayed ≡ tab 65 (λ k. (lowered_onset (shown_band k)).compensated)
    unfolding all_compensated_beside lowered_onset one_block_less
    compensated-all {decayed} e =
        ap ends_copied e
        ∙ ends-are (tab 65 f) (λ k. (lowered_onset k).compensated) (length-tab 65 f)
        (λ k h inner. get_or-tab 65 f k nan h ∙ rw (hold_at k h) (go k (hold_falls s.onset_detection k)))
      where
        f : ℕ → Float
        f k =
            cond (hold_falls s.onset_detection k)
            (compensated_beside s.limits.min (get_or holds k (pos 0)) (get_or c.erle_onsets k nan) (get_or c.erle_onset_compensated k nan))
            (get_or c.erle_onset_compensated k nan)

        go :
            (k : ℕ) (t : Bool)
            → cond t (compensated_beside s.limits.min (cond t (one_block_less s.limits.min (onset_at c k)) (onset_at c k)).hold (onset_at c k).onset (onset_at c k).compensated) (onset_at c k).compensated
            ≡ (cond t (one_block_less s.limits.min (onset_at c k)) (onset_at c k)).compensated
        go k true = refl
        go k false = refl

    -- the onset values stay
    onsets-all : Long c → c.erle_onsets ≡ tab 65 (λ k. (lowered_onset k).onset)
    unfolding lowered_onset one_block_less
    onsets-all l =
        bands-stay nan c.erle_onsets l.onset
        ∙ tab-same 65 nan _ _ (λ k h. go k (hold_falls s.onset_detection k))
      where
        go : (k : ℕ) (t : Bool) → (onset_at c k).onset ≡ (cond t (one_block_less s.limits.min (onset_at c k)) (onset_at c k)).onset
        go k true = refl
        go k false = refl

    lowered_is :
        {decayed plain compensated uncapped : List Float} {waits : List Bool} → Long c
        → decayed ≡ all_compensated_beside s.onset_detection s.limits.min holds c.erle_onsets c.erle_onset_compensated
        → waits ≡ all_waits_beside s.onset_detection holds c.coming_onset
        → plain ≡ ends_copied c.erle → compensated ≡ ends_copied decayed → uncapped ≡ ends_copied c.erle_unbounded
        → ◌≡◌ {A = SubbandChannel}
        (record {
          erle = plain;
          erle_onset_compensated = compensated;
          erle_unbounded = uncapped;
          erle_onsets = c.erle_onsets;
          coming_onset = waits;
          hold_counters = holds;
          y2 = c.y2;
          e2 = c.e2;
          low_render_energy = c.low_render_energy;
          num_points = c.num_points;
        })
        lowered_by
    unfolding lowered_by channel_from compensated_shown
    lowered_is l decay wait plain compensated uncapped =
        λ i.
        record {
          num_points = c.num_points;
          y2 = bands-stay nan c.y2 l.capture i;
          e2 = bands-stay nan c.e2 l.residual i;
          low_render_energy = bands-stay false c.low_render_energy l.low i;
          erle = (plain ∙ ends-are c.erle (λ k. get_or c.erle k nan) l.plain (λ k h inner. refl)) i;
          erle_unbounded = (uncapped ∙ ends-are c.erle_unbounded (λ k. get_or c.erle_unbounded k nan) l.uncapped (λ k h inner. refl)) i;
          erle_onset_compensated = (compensated ∙ compensated-all decay) i;
          erle_onsets = onsets-all l i;
          coming_onset = waits-all wait i;
          hold_counters = hold-all i;
        }

-- ---- what onset detection holds is lowered where it is on, and the ends are copied

module _ (s : SubbandSettings) (c : SubbandChannel) where
  unfoldable pub held_by : SubbandChannel
  held_by =
      let holds = all_holds_less s.onset_detection c.hold_counters in
      record {
        erle = c.erle;
        erle_onset_compensated = all_compensated_beside s.onset_detection s.limits.min holds c.erle_onsets c.erle_onset_compensated;
        erle_unbounded = c.erle_unbounded;
        erle_onsets = c.erle_onsets;
        coming_onset = all_waits_beside s.onset_detection holds c.coming_onset;
        hold_counters = holds;
        y2 = c.y2;
        e2 = c.e2;
        low_render_energy = c.low_render_energy;
        num_points = c.num_points;
      }

  pub held-on :
      {holds : List ℤ} {decayed : List Float} {waits : List Bool} → s.onset_detection ≡ true
      → holds ≡ all_holds_less true c.hold_counters
      → decayed ≡ all_compensated_beside true s.limits.min holds c.erle_onsets c.erle_onset_compensated
      → waits ≡ all_waits_beside true holds c.coming_onset
      → ◌≡◌ {A = SubbandChannel}
      (record {
        erle = c.erle;
        erle_onset_compensated = decayed;
        erle_unbounded = c.erle_unbounded;
        erle_onsets = c.erle_onsets;
        coming_onset = waits;
        hold_counters = holds;
        y2 = c.y2;
        e2 = c.e2;
        low_render_energy = c.low_render_energy;
        num_points = c.num_points;
      })
      held_by
  unfolding held_by
  held-on on lower decay wait = simp (on, ← lower, ← decay, ← wait)

  -- where it is off each band stays
  pub held-off : s.onset_detection ≡ false → Long c → c ≡ held_by
  unfolding held_by all_holds_less all_compensated_beside all_waits_beside
  held-off off l =
      rw off
      (λ i.
      record {
        erle = c.erle;
        erle_onset_compensated = bands-stay nan c.erle_onset_compensated l.compensated i;
        erle_unbounded = c.erle_unbounded;
        erle_onsets = c.erle_onsets;
        coming_onset = bands-stay false c.coming_onset l.waits i;
        hold_counters = bands-stay (pos 0) c.hold_counters l.hold i;
        y2 = c.y2;
        e2 = c.e2;
        low_render_energy = c.low_render_energy;
        num_points = c.num_points;
      })

  pub shown-is :
      {plain compensated uncapped : List Float} (r : SubbandChannel) → Long c → r ≡ held_by
      → plain ≡ ends_copied r.erle → compensated ≡ ends_copied r.erle_onset_compensated → uncapped ≡ ends_copied r.erle_unbounded
      → ◌≡◌ {A = SubbandChannel}
      (record {
        erle = plain;
        erle_onset_compensated = compensated;
        erle_unbounded = uncapped;
        erle_onsets = r.erle_onsets;
        coming_onset = r.coming_onset;
        hold_counters = r.hold_counters;
        y2 = r.y2;
        e2 = r.e2;
        low_render_energy = r.low_render_energy;
        num_points = r.num_points;
      })
      (lowered_by s c)
  unfolding held_by
  shown-is r l held plain compensated uncapped =
      (λ i.
      record {
        erle = (plain ∙ ap (λ (z : SubbandChannel). ends_copied z.erle) held) i;
        erle_onset_compensated = (compensated ∙ ap (λ (z : SubbandChannel). ends_copied z.erle_onset_compensated) held) i;
        erle_unbounded = (uncapped ∙ ap (λ (z : SubbandChannel). ends_copied z.erle_unbounded) held) i;
        erle_onsets = (held i).erle_onsets;
        coming_onset = (held i).coming_onset;
        hold_counters = (held i).hold_counters;
        y2 = (held i).y2;
        e2 = (held i).e2;
        low_render_energy = (held i).low_render_energy;
        num_points = (held i).num_points;
      })
      ∙ lowered_is s c refl l refl refl refl refl refl

-- ---- the definition

module _ (s : SubbandSettings) (b : Block) (c : SubbandChannel) where
  -- what onset detection holds of a band after learning, before its hold falls
  unfoldable pub onset_learned : ℕ → Onset
  onset_learned k = let held = onset_at c k in cond (s.onset_detection && is_sixth s b c) (onset_learnt_at s k (sums_after s b c k) held) held

  -- a record that has learnt what the block brought, band by band
  pub record Learned (r : SubbandChannel) : Type 0 where
    pub points : r.num_points ≡ points_after s b c
    pub sums : (k : ℕ) → k < 65 → sums_at r k ≡ sums_after s b c k
    pub streams : (k : ℕ) → k < 65 → streams_at r k ≡ streams_after s b c k
    pub onset : (k : ℕ) → k < 65 → onset_at r k ≡ onset_learned k

  module _ (r : SubbandChannel) (m : Learned r) where
    -- then the hold falls
    onset-lowered : (k : ℕ) → k < 65 → lowered_onset s r k ≡ onset_after s b c k
    unfolding lowered_onset onset_after onset_learned onset_learnt_at
    onset-lowered k h =
        rw (m.onset k h)
        (go s.onset_detection (inner_band k) (is_sixth s b c) (has_ratio (sums_after s b c k).residual))
      where
        held : Onset
        held = onset_at c k

        new : Onset
        new =
            onset_learnt s.limits.min (max_at s k) (ratio (sums_after s b c k).capture (sums_after s b c k).residual) (sums_after s b c k).low held

        go :
            (on inner six has : Bool)
            → cond (on && inner) (one_block_less s.limits.min (cond (on && six) (cond (inner && has) new held) held)) (cond (on && six) (cond (inner && has) new held) held)
            ≡ cond (on && inner) (one_block_less s.limits.min (cond six (cond (inner && has) new held) held)) held
        go true true six has = refl
        go true false true has = refl
        go true false false has = refl
        go false inner six has = refl

    pub after-learned : lowered_by s r ≡ channel_after s b c
    unfolding lowered_by channel_after compensated_shown
    after-learned =
        same_parts m.points m.sums (λ k h. m.streams (shown_band k) (shown-below k h))
        (λ k h.
        λ i.
        record {
          compensated = (onset-lowered (shown_band k) (shown-below k h) i).compensated;
          onset = (onset-lowered k h i).onset;
          waits = (onset-lowered k h i).waits;
          hold = (onset-lowered k h i).hold;
        })

-- ---- a channel that stands unconverged learns nothing

pub after-unconverged : (s : SubbandSettings) (c : SubbandChannel) → lowered_by s c ≡ channel_after s unconverged_block c
unfolding sums_after streams_after onset_learned
after-unconverged s c =
    after-learned s unconverged_block c c
    (record { points = refl; sums = λ k h. refl; streams = λ k h. refl; onset = λ k h. rw (and-false s.onset_detection) })

-- and its powers are not looked at
pub quiet-any :
    (g : SubbandSettings) (c : SubbandChannel) (x y e : List Float)
    → channel_after g unconverged_block c ≡ channel_after g (record { converged = false; render = x; capture = y; residual = e }) c
unfolding channel_after sums_after streams_after onset_after
quiet-any g c x y e = refl

-- ---- a converged channel

module _ (s : SubbandSettings) (x y e : List Float) (c : SubbandChannel) where
  block : Block
  block = record { converged = true; render = x; capture = y; residual = e }

  module _ (k : ℕ) (h : k < 65) where
    heard-sums : sums_at (heard_by x y e c) k ≡ sums_after s block c k
    unfolding heard_by heard_sums sums_after block
    heard-sums = sums-from (points_with c.num_points) (heard_sums x y e c) (streams_at c) (onset_at c) k h

    heard-streams : streams_at (heard_by x y e c) k ≡ streams_at c k
    unfolding heard_by
    heard-streams = streams-from (points_with c.num_points) (heard_sums x y e c) (streams_at c) (onset_at c) k h

    heard-onset : onset_at (heard_by x y e c) k ≡ onset_at c k
    unfolding heard_by
    heard-onset = onset-from (points_with c.num_points) (heard_sums x y e c) (streams_at c) (onset_at c) k h

  -- before the sixth point no ratio is new
  few-learned : eqb (points_with c.num_points) all_points ≡ false → Learned s block c (heard_by x y e c)
  unfolding heard_by channel_from streams_after onset_learned block
  few-learned few =
      record {
        points = refl;
        sums = heard-sums;
        streams = λ k h. heard-streams k h ∙ rw few;
        onset = λ k h. heard-onset k h ∙ rw (few, and-false s.onset_detection);
      }

  -- on the sixth they are
  six-learned : eqb (points_with c.num_points) all_points ≡ true → Learned s block c (learnt_by s (heard_by x y e c))
  unfolding learnt_by channel_from heard_by streams_after onset_learned block
  six-learned six =
      let r = heard_by x y e c in
      let streams : ℕ → Streams = λ k. streams_learnt_at s k (sums_at r k) (streams_at r k) in
      let onset : ℕ → Onset = λ k. cond s.onset_detection (onset_learnt_at s k (sums_at r k) (onset_at r k)) (onset_at r k) in
      record {
        points = refl;
        sums = λ k h. sums-from r.num_points (sums_at r) streams onset k h ∙ heard-sums k h;
        streams = λ k h.
            streams-from r.num_points (sums_at r) streams onset k h
            ∙ (λ i. streams_learnt_at s k (heard-sums k h i) (heard-streams k h i))
            ∙ rw six;
        onset = λ k h.
            onset-from r.num_points (sums_at r) streams onset k h
            ∙ (λ i. cond s.onset_detection (onset_learnt_at s k (heard-sums k h i) (heard-onset k h i)) (heard-onset k h i))
            ∙ rw (six, and-true s.onset_detection);
      }

  converged-learned : Learned s block c (converged_by x y e c s)
  unfolding converged_by
  converged-learned = go (eqb (points_with c.num_points) all_points) refl
    where
      go :
          (t : Bool) → eqb (points_with c.num_points) all_points ≡ t
          → Learned s block c (cond t (learnt_by s (heard_by x y e c)) (heard_by x y e c))
      go true six = six-learned six
      go false few = few-learned few

  -- then the hold falls, as in a block in which it stands unconverged
  pub after-converged :
      channel_after s unconverged_block (converged_by x y e c s)
      ≡ channel_after s (record { converged = true; render = x; capture = y; residual = e }) c
  unfolding block
  after-converged = sym (after-unconverged s (converged_by x y e c s)) ∙ after-learned s block c (converged_by x y e c s) converged-learned
