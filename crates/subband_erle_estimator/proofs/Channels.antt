-- What a channel keeps over resets and updates.
use mathlib.Core.Path.{◌≡◌, refl, sym, ap, ◌∙◌, subst}
use mathlib.Core.Bool.{Bool, true, false, cond}
use Prim.Native.Nat.{ℕ, ◌<◌}
use native.Mathlib.Omega.{arith}
use borrow.Author.Tests.{eqb-true, lt-ltb, le-ltb}
use lib.Dec.{ltb, eqb}
use lib.Ieee.{Float}
use Rattle.aec3_common.specs.Spectra.{inner_band, shown_band}
use Rattle.aec3_common.proofs.Bands.{shown-inner, inner-shown, shown-below}
use Rattle.aec3_common.proofs.Choices.{and_right, and-false, cond_has}
use Rattle.aec3_common.proofs.Rounding.{Signed}
use Rattle.filter_sections.specs.Subbands.{max_erle}
use Rattle.erle_bands.specs.Band.{Sums, fresh_sums, has_ratio, ratio, learns, hold_falls, Streams, fresh_streams, Onset, fresh_onset, onset_learnt, one_block_less}
use Rattle.aec3_common.proofs.Limits.{min-between, uncapped-in-order}
use Rattle.filter_sections.proofs.Limits.{AllInOrder}
use Rattle.erle_bands.proofs.Range.{ratio-signed, StreamsKept, streams-learnt-kept, OnsetKept, onset-learnt-kept, one-block-less-kept}
use Rattle.subband_erle_estimator.specs.declared.settings.SubbandSettings.{SubbandSettings}
use Rattle.subband_erle_estimator.specs.declared.channel.SubbandChannel.{SubbandChannel}
use Rattle.subband_erle_estimator.specs.Channel.{streams_at, onset_at, channel_from, compensated_shown, fresh, Block, max_at, onset_learnt_at, streams_learnt_at, points_after, sums_after, is_sixth, streams_after, onset_after, channel_after}
use Rattle.subband_erle_estimator.proofs.Parts.{Long, long-from, streams-from, onset-from}
use Rattle.subband_erle_estimator.proofs.Sums.{ChannelSums, fresh-sums, BlockOk, sums-after, after-sums}

-- ---- bands

-- a band has the maximum of the band that it shows
max-shown : (l h : Float) (k : ℕ) → max_erle l h (shown_band k) ≡ max_erle l h k
unfolding max_erle
max-shown l h k = ap (λ (t : Bool). cond t l h) (go (eqb k 0) refl (eqb k 64) refl)
  where
    go : (a : Bool) → eqb k 0 ≡ a → (z : Bool) → eqb k 64 ≡ z → ltb (cond a 1 (cond z 63 k)) 32 ≡ ltb k 32
    go true f z g = sym (lt-ltb k 32 (omega (arith, eqb-true k 0 f)))
    go false f true g = sym (le-ltb k 32 (omega (arith, eqb-true k 64 g)))
    go false f false g = refl

-- ---- a channel

-- the figures of a band are those of the band that it shows
pub record Copied (c : SubbandChannel) (k : ℕ) : Type 0 where
  pub streams : streams_at c k ≡ streams_at c (shown_band k)
  pub compensated : (onset_at c k).compensated ≡ (onset_at c (shown_band k)).compensated

-- What a channel keeps: its lengths and sums, bands in range, onset values at the minimum, bands 0 and 64 as copies that wait.
pub record ChannelKept (s : SubbandSettings) (c : SubbandChannel) : Type 0 where
  pub long : Long c
  pub sums : ChannelSums c
  pub streams : (k : ℕ) → k < 65 → StreamsKept s.limits.min (max_at s k) (streams_at c k)
  pub onset : (k : ℕ) → k < 65 → OnsetKept s.limits.min (max_at s k) (onset_at c k)
  pub onset_min : (k : ℕ) → k < 65 → (onset_at c k).onset ≡ s.limits.min
  pub copied : (k : ℕ) → k < 65 → Copied c k
  pub outer : (k : ℕ) → k < 65 → inner_band k ≡ false → (onset_at c k).waits ≡ true

-- a record that is put together of streams as they are shown
module _ (s : SubbandSettings) (n : ℕ) (sums : ℕ → Sums) (streams : ℕ → Streams) (onset : ℕ → Onset) where
  record-shown : SubbandChannel
  record-shown = channel_from n sums (λ k. streams (shown_band k)) (compensated_shown onset)

  module _ (k : ℕ) (h : k < 65) where
    streams-shown : streams_at record-shown k ≡ streams (shown_band k)
    unfolding record-shown
    streams-shown = streams-from n sums (λ j. streams (shown_band j)) (compensated_shown onset) k h

    onset-shown : onset_at record-shown k ≡ compensated_shown onset k
    unfolding record-shown
    onset-shown = onset-from n sums (λ j. streams (shown_band j)) (compensated_shown onset) k h

  -- a band shows what the band that it shows does
  shown-twice : (k : ℕ) → k < 65 → shown_band (shown_band k) ≡ shown_band k
  shown-twice k h = inner-shown (shown_band k) (shown-inner k h)

  module _
      (heard : ChannelSums record-shown)
      (in_range : (k : ℕ) → k < 65 → StreamsKept s.limits.min (max_at s k) (streams k))
      (held : (k : ℕ) → k < 65 → OnsetKept s.limits.min (max_at s k) (onset k))
      (least : (k : ℕ) → k < 65 → (onset k).onset ≡ s.limits.min)
      (waiting : (k : ℕ) → k < 65 → inner_band k ≡ false → (onset k).waits ≡ true)
    where
      shown-kept : ChannelKept s record-shown
      unfolding compensated_shown record-shown
      shown-kept =
          record {
            long = long-from n sums (λ k. streams (shown_band k)) (compensated_shown onset);
            sums = heard;
            streams = λ k h.
                subst (StreamsKept s.limits.min (max_at s k)) (sym (streams-shown k h))
                (rw (← max-shown s.limits.max_l s.limits.max_h k) (in_range (shown_band k) (shown-below k h)));
            onset = λ k h.
                subst (OnsetKept s.limits.min (max_at s k)) (sym (onset-shown k h))
                (record {
                  compensated = rw (← max-shown s.limits.max_l s.limits.max_h k) (held (shown_band k) (shown-below k h)).compensated;
                  onset = (held k h).onset;
                  hold = (held k h).hold;
                });
            onset_min = λ k h. ap (λ (o : Onset). o.onset) (onset-shown k h) ∙ least k h;
            copied = λ k h.
                record {
                  streams = streams-shown k h ∙ ap streams (sym (shown-twice k h)) ∙ sym (streams-shown (shown_band k) (shown-below k h));
                  compensated =
                      ap (λ (o : Onset). o.compensated) (onset-shown k h) ∙ ap (λ (j : ℕ). (onset j).compensated) (sym (shown-twice k h))
                      ∙ ap (λ (o : Onset). o.compensated) (sym (onset-shown (shown_band k) (shown-below k h)));
                };
            outer = λ k h out. ap (λ (o : Onset). o.waits) (onset-shown k h) ∙ waiting k h out;
          }

pub fresh_kept : (s : SubbandSettings) → AllInOrder s.limits.min s.limits.max_l s.limits.max_h → ChannelKept s (fresh s.limits.min)
unfolding fresh record-shown compensated_shown
fresh_kept s limits =
    shown-kept s 0 (λ k. fresh_sums) (λ k. fresh_streams s.limits.min) (λ k. fresh_onset s.limits.min) (fresh-sums s.limits.min)
    (λ k h. record { plain = min-between (limits k); uncapped = min-between (uncapped-in-order (limits k)) })
    (λ k h. record { compensated = min-between (limits k); onset = min-between (limits k); hold = refl })
    (λ k h. refl)
    (λ k h out. refl)

module _ (s : SubbandSettings) (b : Block) (c : SubbandChannel) where
  -- no update moves an onset value, nor what onset detection holds in bands 0 and 64
  onset-stays : (k : ℕ) → (onset_after s b c k).onset ≡ (onset_at c k).onset
  unfolding onset_after onset_learnt_at onset_learnt one_block_less
  onset-stays k =
      let Stays : Onset → Type 0 = λ o. o.onset ≡ (onset_at c k).onset in
      cond_has Stays (hold_falls s.onset_detection k)
      (λ on.
      cond_has Stays (is_sixth s b c) (λ six. cond_has Stays (learns k (sums_after s b c k).residual) (λ e. refl) (λ e. refl)) (λ few. refl))
      (λ off. refl)

  outer-stays : (k : ℕ) → inner_band k ≡ false → onset_after s b c k ≡ onset_at c k
  unfolding onset_after
  outer-stays k out = rw (out, and-false s.onset_detection)

  module _ (limits : AllInOrder s.limits.min s.limits.max_l s.limits.max_h) (ok : BlockOk b) (kept : ChannelKept s c) where
    ratio-plus :
        (k : ℕ) → k < 65 → learns k (sums_after s b c k).residual ≡ true
        → Signed false (ratio (sums_after s b c k).capture (sums_after s b c k).residual)
    ratio-plus k h e = ratio-signed (and_right (inner_band k) (has_ratio (sums_after s b c k).residual) e) (sums-after s b c ok kept.sums k h)

    streams-kept : (k : ℕ) → k < 65 → StreamsKept s.limits.min (max_at s k) (streams_after s b c k)
    unfolding streams_after streams_learnt_at
    streams-kept k h =
        let Kept : Streams → Type 0 = StreamsKept s.limits.min (max_at s k) in
        cond_has Kept (is_sixth s b c)
        (λ six.
        cond_has Kept (learns k (sums_after s b c k).residual)
        (λ e. streams-learnt-kept (sums_after s b c k).low (limits k) (ratio-plus k h e) (kept.streams k h))
        (λ e. kept.streams k h))
        (λ few. kept.streams k h)

    onset-kept : (k : ℕ) → k < 65 → OnsetKept s.limits.min (max_at s k) (onset_after s b c k)
    unfolding onset_after onset_learnt_at
    onset-kept k h =
        let Kept : Onset → Type 0 = OnsetKept s.limits.min (max_at s k) in
        cond_has Kept (hold_falls s.onset_detection k)
        (λ on. one-block-less-kept (limits k)
        (cond_has Kept (is_sixth s b c)
        (λ six.
        cond_has Kept (learns k (sums_after s b c k).residual)
        (λ e. onset-learnt-kept (sums_after s b c k).low (limits k) (ratio-plus k h e) (kept.onset k h))
        (λ e. kept.onset k h))
        (λ few. kept.onset k h)))
        (λ off. kept.onset k h)

    pub after_kept : ChannelKept s (channel_after s b c)
    unfolding channel_after record-shown
    after_kept =
        shown-kept s (points_after s b c) (sums_after s b c) (streams_after s b c) (onset_after s b c) (after-sums s b c ok kept.sums) streams-kept onset-kept
        (λ k h. onset-stays k ∙ kept.onset_min k h)
        (λ k h out. ap (λ (o : Onset). o.waits) (outer-stays k out) ∙ kept.outer k h out)
