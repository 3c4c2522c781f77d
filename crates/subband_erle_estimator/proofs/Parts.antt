-- A channel's record and its parts.
use mathlib.Core.Path.{◌≡◌, ap}
use mathlib.Core.Bool.{false}
use Prim.Native.Nat.{ℕ, ◌<◌}
use lib.IntN.{pos}
use lib.Ieee.{nan}
use lib.ListN.{length}
use Rattle.aec3_common.proofs.Tables.{length-tab, get_or-tab, tab-same}
use Rattle.erle_bands.specs.Band.{Sums, Streams, Onset}
use Rattle.erle_bands.proofs.Bands.{bands-stay}
use Rattle.subband_erle_estimator.specs.declared.channel.SubbandChannel.{SubbandChannel}
use Rattle.subband_erle_estimator.specs.Channel.{sums_at, streams_at, onset_at, channel_from}

-- each array of a record has 65 entries
pub record Long (r : SubbandChannel) : Type 0 where
  pub capture : length r.y2 ≡ 65
  pub residual : length r.e2 ≡ 65
  pub low : length r.low_render_energy ≡ 65
  pub plain : length r.erle ≡ 65
  pub uncapped : length r.erle_unbounded ≡ 65
  pub compensated : length r.erle_onset_compensated ≡ 65
  pub onset : length r.erle_onsets ≡ 65
  pub waits : length r.coming_onset ≡ 65
  pub hold : length r.hold_counters ≡ 65

-- what a record that is put together holds in a band
module _ (points : ℕ) (sums : ℕ → Sums) (streams : ℕ → Streams) (onset : ℕ → Onset) where
  pub long-from : Long (channel_from points sums streams onset)
  unfolding channel_from
  long-from =
      record {
        capture = length-tab 65 _;
        residual = length-tab 65 _;
        low = length-tab 65 _;
        plain = length-tab 65 _;
        uncapped = length-tab 65 _;
        compensated = length-tab 65 _;
        onset = length-tab 65 _;
        waits = length-tab 65 _;
        hold = length-tab 65 _;
      }

  module _ (k : ℕ) (h : k < 65) where
    pub sums-from : sums_at (channel_from points sums streams onset) k ≡ sums k
    unfolding channel_from
    sums-from =
        λ i.
        record {
          capture = get_or-tab 65 (λ j. (sums j).capture) k nan h i;
          residual = get_or-tab 65 (λ j. (sums j).residual) k nan h i;
          low = get_or-tab 65 (λ j. (sums j).low) k false h i;
        }

    pub streams-from : streams_at (channel_from points sums streams onset) k ≡ streams k
    unfolding channel_from
    streams-from =
        λ i. record { plain = get_or-tab 65 (λ j. (streams j).plain) k nan h i; uncapped = get_or-tab 65 (λ j. (streams j).uncapped) k nan h i }

    pub onset-from : onset_at (channel_from points sums streams onset) k ≡ onset k
    unfolding channel_from
    onset-from =
        λ i.
        record {
          compensated = get_or-tab 65 (λ j. (onset j).compensated) k nan h i;
          onset = get_or-tab 65 (λ j. (onset j).onset) k nan h i;
          waits = get_or-tab 65 (λ j. (onset j).waits) k false h i;
          hold = get_or-tab 65 (λ j. (onset j).hold) k (pos 0) h i;
        }

-- records with the same parts are the same
pub same_parts :
    {n m : ℕ} {f g : ℕ → Sums} {s t : ℕ → Streams} {o p : ℕ → Onset}
    → n ≡ m → ((k : ℕ) → k < 65 → f k ≡ g k) → ((k : ℕ) → k < 65 → s k ≡ t k) → ((k : ℕ) → k < 65 → o k ≡ p k)
    → channel_from n f s o ≡ channel_from m g t p
unfolding channel_from
same_parts {f = f} {g = g} {s = s} {t = t} {o = o} {p = p} points sums streams onset =
    λ i.
    record {
      num_points = points i;
      y2 = tab-same 65 nan (λ k. (f k).capture) (λ k. (g k).capture) (λ k h. ap (λ (z : Sums). z.capture) (sums k h)) i;
      e2 = tab-same 65 nan (λ k. (f k).residual) (λ k. (g k).residual) (λ k h. ap (λ (z : Sums). z.residual) (sums k h)) i;
      low_render_energy = tab-same 65 false (λ k. (f k).low) (λ k. (g k).low) (λ k h. ap (λ (z : Sums). z.low) (sums k h)) i;
      erle = tab-same 65 nan (λ k. (s k).plain) (λ k. (t k).plain) (λ k h. ap (λ (z : Streams). z.plain) (streams k h)) i;
      erle_unbounded = tab-same 65 nan (λ k. (s k).uncapped) (λ k. (t k).uncapped) (λ k h. ap (λ (z : Streams). z.uncapped) (streams k h)) i;
      erle_onset_compensated =
          tab-same 65 nan (λ k. (o k).compensated) (λ k. (p k).compensated) (λ k h. ap (λ (z : Onset). z.compensated) (onset k h)) i;
      erle_onsets = tab-same 65 nan (λ k. (o k).onset) (λ k. (p k).onset) (λ k h. ap (λ (z : Onset). z.onset) (onset k h)) i;
      coming_onset = tab-same 65 false (λ k. (o k).waits) (λ k. (p k).waits) (λ k h. ap (λ (z : Onset). z.waits) (onset k h)) i;
      hold_counters = tab-same 65 (pos 0) (λ k. (o k).hold) (λ k. (p k).hold) (λ k h. ap (λ (z : Onset). z.hold) (onset k h)) i;
    }

-- a record is put together from its own parts
pub own-parts : (c : SubbandChannel) → Long c → c ≡ channel_from c.num_points (sums_at c) (streams_at c) (onset_at c)
unfolding channel_from
own-parts c l =
    λ i.
    record {
      num_points = c.num_points;
      y2 = bands-stay nan c.y2 l.capture i;
      e2 = bands-stay nan c.e2 l.residual i;
      low_render_energy = bands-stay false c.low_render_energy l.low i;
      erle = bands-stay nan c.erle l.plain i;
      erle_unbounded = bands-stay nan c.erle_unbounded l.uncapped i;
      erle_onset_compensated = bands-stay nan c.erle_onset_compensated l.compensated i;
      erle_onsets = bands-stay nan c.erle_onsets l.onset i;
      coming_onset = bands-stay false c.coming_onset l.waits i;
      hold_counters = bands-stay (pos 0) c.hold_counters l.hold i;
    }
