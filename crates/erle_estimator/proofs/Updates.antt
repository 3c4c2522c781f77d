-- The loops over the channels in an update of the whole.
use mathlib.Core.Path.{◌≡◌, refl, ◌∙◌}
use mathlib.Core.Bool.{Bool, true, false, cond, ◌&&◌}
use mathlib.Core.List.{List}
use Prim.Native.Nat.{ℕ, ◌+◌, ◌≤◌, ◌<◌}
use native.Mathlib.Omega.{arith}
use lib.Dec.{ltb}
use lib.Ieee.{Float}
use lib.ListN.{length, get_or, set}
use Rattle.aec3_common.specs.Spectra.{part, sum}
use Rattle.aec3_common.specs.Steps.{Changed}
use Rattle.aec3_common.proofs.Tables.{Stored, stored-none, stored_more, stored-firsts}
use Rattle.correction_factors.specs.Factors.{subband_sums}
use Rattle.subband_erle_estimator.specs.declared.settings.SubbandSettings.{SubbandSettings}
use Rattle.subband_erle_estimator.specs.declared.channel.SubbandChannel.{SubbandChannel}
use Rattle.subband_erle_estimator.specs.declared.SubbandErleEstimator.{SubbandErleEstimator}
use Rattle.subband_erle_estimator.specs.Channel.{channel_after as Subband·channel_after}
use Rattle.subband_erle_estimator.specs.Subband.{no_channel as Subband·no_channel, channel_at as Subband·channel_at, updated as Subband·updated}
use Rattle.subband_erle_estimator.proofs.Updates.{channel_of as Subband·channel_of}
use Rattle.signal_dependent_erle_estimator.specs.declared.channel.SignalDependentChannel.{SignalDependentChannel}
use Rattle.signal_dependent_erle_estimator.proofs.Updates.{made-updated}
use Rattle.signal_dependent_erle_estimator.specs.Channel.{channel_after as SignalDependent·channel_after}
use Rattle.signal_dependent_erle_estimator.specs.SignalDependent.{lent_to, updated as SignalDependent·updated, after_block as SignalDependent·after_block}
use Rattle.fullband_channel.specs.declared.channel.FullBandChannel.{FullBandChannel}
use Rattle.fullband_channel.specs.Channel.{with_point, one_block_less, channel_after as FullBand·channel_after}
use Rattle.fullband_erle_estimator.specs.FullBand.{min_log2, no_channel as FullBand·no_channel, channel_at as FullBand·channel_at, updated as FullBand·updated}
use Rattle.fullband_erle_estimator.specs.Steps.{loud_for}
use Rattle.fullband_erle_estimator.proofs.Updates.{after-is}
use Rattle.erle_estimator.specs.declared.ErleEstimator.{ErleEstimator}
use Rattle.erle_estimator.specs.Parts.{subband_settings, signal_settings, fullband_settings, subband_part, signal_part, fullband_part, with_records}
use Rattle.fullband_erle_estimator.specs.declared.FullBandErleEstimator.{FullBandErleEstimator}
use Rattle.signal_dependent_erle_estimator.specs.declared.SignalDependentErleEstimator.{SignalDependentErleEstimator}
use Rattle.erle_estimator.specs.Erle.{Powers, updated}
use Rattle.erle_estimator.specs.Steps.{moved_by_powers, moved_by_sections}

module _ (s : ErleEstimator) (converged : List Bool) (x y e : List Float) where
  -- the subband record of a channel after the update, and the fullband one
  abbrev pub subband_of : ℕ → SubbandChannel
  subband_of = Subband·channel_of (subband_part s) converged x y e

  abbrev pub fullband_of : ℕ → FullBandChannel
  fullband_of ch =
      FullBand·channel_after (min_log2 (fullband_settings s.settings)) (get_or converged ch false) x (part y ch) (part e ch)
      (FullBand·channel_at (fullband_part s) ch)

  -- What the loop over subband and fullband records has done at ch: the records before it are updated; the rest of the state stands.
  pub record MovingByPowers (r : ErleEstimator) (ch : ℕ) : Type 0 where
    rest : r ≡ with_records s s.blocks_since_reset r.subband s.signal_dependent r.fullband
    pub subband : Stored 4 Subband·no_channel 0 s.settings.num_capture_channels subband_of s.subband r.subband ch
    pub fullband : Stored 4 FullBand·no_channel 0 s.settings.num_capture_channels fullband_of s.fullband r.fullband ch

  pub powers-none : length s.subband ≡ 4 → length s.fullband ≡ 4 → MovingByPowers s 0
  powers-none four four-fullband =
      record { rest = refl; subband = stored-none _ _ _ _ _ (omega arith) four; fullband = stored-none _ _ _ _ _ (omega arith) four-fullband }

  -- one channel more
  pub powers-more :
      {r : ErleEstimator} {ch : ℕ} {c : SubbandChannel} {f : FullBandChannel}
      → MovingByPowers r ch → ch < s.settings.num_capture_channels → s.settings.num_capture_channels ≤ 4 → c ≡ subband_of ch → f ≡ fullband_of ch
      → MovingByPowers (with_records r r.blocks_since_reset (set r.subband ch c) r.signal_dependent (set r.fullband ch f)) (ch + 1)
  powers-more {r = r} {ch = ch} {c = c} {f = f} t h few subband fullband =
      record {
        rest =
            λ i. with_records (t.rest i) (t.rest i).blocks_since_reset
            (set r.subband ch c) (t.rest i).signal_dependent (set r.fullband ch f);
        subband = stored_more c t.subband h few subband;
        fullband = stored_more f t.fullband h few fullband;
      }

  -- the subband record, as the code has it
  pub subband-is :
      (ch : ℕ) {g : SubbandSettings} {capture residual : List Float} {c : SubbandChannel}
      → g ≡ subband_settings s.settings → capture ≡ part y ch → residual ≡ part e ch → c ≡ Subband·channel_at (subband_part s) ch
      → Subband·channel_after g (record { converged = get_or converged ch false; render = x; capture = capture; residual = residual }) c ≡ subband_of ch
  unfolding Subband·channel_of
  subband-is ch given own-capture own-residual held =
      λ i. Subband·channel_after (given i)
      (record { converged = get_or converged ch false; render = x; capture = own-capture i; residual = own-residual i })
      (held i)

  -- the fullband record, as the code has it: heard where the channel is converged and the block is loud
  pub fullband-is :
      (ch : ℕ) {least : Float} {loud : Bool} {capture residual : List Float} {c : FullBandChannel}
      → least ≡ min_log2 (fullband_settings s.settings) → loud ≡ loud_for converged x → capture ≡ part y ch → residual ≡ part e ch
      → ch < length converged → c ≡ FullBand·channel_at (fullband_part s) ch
      → cond (loud && get_or converged ch false) (one_block_less (with_point least (sum capture) (sum residual) c)) (one_block_less c) ≡ fullband_of ch
  fullband-is ch lowest heard own-capture own-residual h held =
      (λ i.
      cond (heard i && get_or converged ch false)
      (one_block_less (with_point (lowest i) (sum (own-capture i)) (sum (own-residual i)) (held i)))
      (one_block_less (held i)))
      ∙ after-is (fullband_part s) converged x y e ch (FullBand·channel_at (fullband_part s) ch) h

-- ---- the loop is over

pub powers-all :
    (s : ErleEstimator) (p : Powers) {r : ErleEstimator} {ch : ℕ}
    → MovingByPowers s p.converged p.render p.capture p.residual r ch → s.settings.num_capture_channels ≤ ch → r ≡ moved_by_powers s p
unfolding moved_by_powers Subband·updated Subband·channel_of FullBand·updated
powers-all s p t over =
    t.rest
    ∙ (λ i. with_records s s.blocks_since_reset (stored-firsts t.subband over i) s.signal_dependent (stored-firsts t.fullband over i))

-- ---- the signal-dependent records

-- each made of what it was, by the subband streams that stand
pub sections-made :
    (s : ErleEstimator) (p : Powers) (active : ℕ → List ℕ)
    {R : ℕ → SignalDependentChannel → SignalDependentChannel → Type 0} {count : ℕ} {channels : List SignalDependentChannel}
    → count ≡ s.settings.num_capture_channels → Changed R 0 count s.signal_dependent channels → length channels ≡ 4
    → ((k : ℕ) (x y : SignalDependentChannel) → k < s.settings.num_capture_channels → R k x y
    → y
    ≡ SignalDependent·channel_after (signal_settings s.settings) (active k) (subband_sums p.render)
    (lent_to p (λ j. (Subband·channel_at (subband_part s) j).erle) (λ j. (Subband·channel_at (subband_part s) j).erle_onset_compensated) k) x)
    → with_records s s.blocks_since_reset s.subband channels s.fullband ≡ moved_by_sections s p active
unfolding moved_by_sections
sections-made s p active {R} {count} {channels} same c long made =
    let own = Subband·channel_at (subband_part s) in
    let all : Changed R 0 s.settings.num_capture_channels s.signal_dependent channels = rw same at c in
    λ i. with_records s s.blocks_since_reset s.subband
    (made-updated (signal_part s) p active (λ j. (own j).erle) (λ j. (own j).erle_onset_compensated) all long made i)
    s.fullband

-- ---- both

-- a block after the startup phase moves the records by its powers, and then, with two sections or more, by its sections
pub updated-is :
    (s : ErleEstimator) (p : Powers) (active : ℕ → List ℕ)
    → cond (ltb 1 s.settings.layout.num_sections) (moved_by_sections (moved_by_powers s p) p active) (moved_by_powers s p) ≡ updated s p active
unfolding updated moved_by_powers moved_by_sections SignalDependent·after_block
updated-is s p active = go (ltb 1 s.settings.layout.num_sections)
  where
    subband : SubbandErleEstimator
    subband = Subband·updated (subband_part s) p.converged p.render p.capture p.residual

    fullband : FullBandErleEstimator
    fullband = FullBand·updated (fullband_part s) p.converged p.render p.capture p.residual

    signal : SignalDependentErleEstimator
    signal = SignalDependent·updated (signal_part s) p active (λ ch. (Subband·channel_at subband ch).erle) (λ ch. (Subband·channel_at subband ch).erle_onset_compensated)

    go :
        (many : Bool)
        → cond many
        (with_records s s.blocks_since_reset subband.channels signal.channels fullband.channels)
        (with_records s s.blocks_since_reset subband.channels s.signal_dependent fullband.channels)
        ≡ with_records s s.blocks_since_reset subband.channels (cond many signal (signal_part s)).channels fullband.channels
    go true = refl
    go false = refl
