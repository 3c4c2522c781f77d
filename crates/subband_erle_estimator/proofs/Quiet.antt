-- A channel that stands unconverged: its plain and uncapped ERLE stay, its compensated ERLE becomes the minimum, its bands wait.
use mathlib.Core.Path.{◌≡◌, refl, sym, ◌∙◌, subst}
use mathlib.Core.Bool.{Bool, true, false}
use Prim.Native.Nat.{ℕ, zero, suc, ◌<◌}
use Rattle.aec3_common.specs.Spectra.{inner_band, shown_band}
use Rattle.aec3_common.proofs.Bands.{shown-inner, inner-shown, shown-below}
use Rattle.aec3_common.proofs.Fitting.{level-is-same}
use Rattle.erle_bands.specs.Band.{one_block_less}
use Rattle.aec3_common.proofs.Limits.{between-positive}
use Rattle.filter_sections.proofs.Limits.{AllInOrder}
use Rattle.erle_bands.proofs.Rest.{Resting, one-block-less-resting, resting-end}
use Rattle.subband_erle_estimator.specs.declared.settings.SubbandSettings.{SubbandSettings}
use Rattle.subband_erle_estimator.specs.declared.channel.SubbandChannel.{SubbandChannel}
use Rattle.subband_erle_estimator.specs.Channel.{streams_at, onset_at, compensated_shown, Block, points_after, sums_after, streams_after, onset_after, channel_after}
use Rattle.subband_erle_estimator.proofs.Parts.{streams-from, onset-from}
use Rattle.subband_erle_estimator.proofs.Channels.{ChannelKept}

-- with r blocks to go bands 1 to 63 rest, and the two other streams are what they were before
pub record ChannelResting (r : ℕ) (before c : SubbandChannel) : Type 0 where
  pub onset : (k : ℕ) → k < 65 → inner_band k ≡ true → Resting r (onset_at c k)
  pub streams : (k : ℕ) → k < 65 → streams_at c k ≡ streams_at before k

module _ (s : SubbandSettings) (limits : AllInOrder s.limits.min s.limits.max_l s.limits.max_h) (c : SubbandChannel) (kept : ChannelKept s c) where
  module _ (b : Block) (on : s.onset_detection ≡ true) (off : b.converged ≡ false) (k : ℕ) (h : k < 65) where
    -- an unconverged block leaves the streams
    quiet-streams : streams_at (channel_after s b c) k ≡ streams_at c k
    unfolding channel_after streams_after
    quiet-streams =
        streams-from (points_after s b c) (sums_after s b c) _ _ k h
        ∙ rw off (sym (kept.copied k h).streams)

    -- and lets the holds of bands 1 to 63 fall
    quiet-onset : inner_band k ≡ true → onset_at (channel_after s b c) k ≡ one_block_less s.limits.min (onset_at c k)
    unfolding channel_after compensated_shown onset_after
    quiet-onset inner =
        onset-from (points_after s b c) (sums_after s b c) _ _ k h
        ∙ rw (inner-shown k inner, on, inner, off)

  -- one block less to go
  pub after-resting :
      (b : Block) → s.onset_detection ≡ true → b.converged ≡ false
      → {r : ℕ} {before : SubbandChannel} → ChannelResting (suc r) before c → ChannelResting r before (channel_after s b c)
  after-resting b on off {r} resting =
      record {
        onset = λ k h inner.
            subst (Resting r) (sym (quiet-onset b on off k h inner)) (one-block-less-resting (limits k) (kept.onset k h) (resting.onset k h inner));
        streams = λ k h. quiet-streams b on off k h ∙ resting.streams k h;
      }

  module _ {before : SubbandChannel} (resting : ChannelResting zero before c) where
    -- at rest every band shows the minimum, and waits
    pub rest-compensated : (k : ℕ) → k < 65 → (onset_at c k).compensated ≡ s.limits.min
    rest-compensated k h =
        let j = shown_band k in
        let below = shown-below k h in
        let held = kept.onset j below in
        let end = resting-end (limits j) held (resting.onset j below (shown-inner k h)) in
        (kept.copied k h).compensated
        ∙ level-is-same (onset_at c j).compensated (onset_at c j).onset
        (between-positive (limits j) held.compensated) (between-positive (limits j) held.onset)
        held.compensated.held held.onset.held end.0
        (rw (kept.onset_min j below) held.compensated.least)
        ∙ kept.onset_min j below

    pub rest-waits : (k : ℕ) → k < 65 → (onset_at c k).waits ≡ true
    rest-waits k h = go (inner_band k) refl
      where
        go : (t : Bool) → inner_band k ≡ t → (onset_at c k).waits ≡ true
        go true inner = (resting-end (limits k) (kept.onset k h) (resting.onset k h inner)).1
        go false out = kept.outer k h out
