-- Sums over blocks and channels, band by band.
use mathlib.Core.Path.{◌≡◌, refl, sym, ap, ◌∙◌}
use mathlib.Core.List.{List, []}
use Prim.Native.Nat.{ℕ, zero, suc, ◌+◌, ◌-◌, ◌*◌, ◌/◌, ◌≤◌, ◌<◌}
use native.Mathlib.Nat.{add-mul, mul_assoc}
use native.Mathlib.Numerals.{add-one}
use native.Mathlib.Omega.{arith}
use lib.Ieee.{Float, nan, binary32, add, mul}
use lib.ListN.{length, get_or, take, drop, length-drop}
use borrow.Rule.Slice.PartMut.{mid_of}
use Rattle.std.proofs.lemmas.List.{length-take-le, take-take, drop-take, drop-drop}
use Rattle.std.specs.Simd.{first_chunks}
use Rattle.aec3_common.specs.Binary32.{zero32}
use Rattle.aec3_common.specs.Lists.{tab}
use Rattle.aec3_common.specs.Spectra.{part, band_of, sum_from}
use Rattle.aec3_common.proofs.Tables.{get_or-tab, tab-is, tab-same}
use Rattle.section_echoes.specs.declared.RenderRing.{RenderRing}
use Rattle.section_echoes.specs.Walk.{walked_place, slot_length}
use Rattle.section_echoes.specs.Echoes.{render_share, render_at, render_sum, response_sum}
use Rattle.section_echoes.specs.Steps.{bands, numbers_from, with_slot}
use Rattle.section_echoes.proofs.Tables.{chunk_at, chunks-long}
use Rattle.section_echoes.proofs.Walks.{position_of}

-- ---- sums of tables

sum-none : (x : Float) (f : ℕ → Float) → sum_from x (tab zero f) ≡ x
unfolding tab
sum-none x f = refl

-- a table with one more entry at its end adds it last
pub sum_more : (n : ℕ) (x : Float) (f : ℕ → Float) → sum_from x (tab (suc n) f) ≡ add binary32 (sum_from x (tab n f)) (f n)
unfolding tab
sum_more zero x f = refl
sum_more (suc n) x f = sum_more n (add binary32 x (f zero)) (λ k. f (suc k))

-- a list that is known by its bands, in a band
pub band-at : {A : Type 0} (d : A) (f : ℕ → A) (xs : List A) (k : ℕ) → xs ≡ bands f → k < 65 → get_or xs k d ≡ f k
band-at d f xs k e b = ap (λ (l : List _). get_or l k d) e ∙ get_or-tab 65 f k d b

-- ---- responses

-- a chunk of responses is a block's part
pub chunk-part :
    (responses : List Float) {blocks : List (List Float)} → blocks ≡ first_chunks 65 (length responses / 65) responses
    → (block : ℕ) → block < length blocks → get_or blocks block [] ≡ part responses block
unfolding part
chunk-part responses cut block h =
    let count : ℕ = length responses / 65 in
    let below : block < count = omega (arith, ap length cut, chunks-long 65 count responses) in
    ap (λ (l : List (List Float)). get_or l block []) cut ∙ chunk_at 65 count responses block below

-- each band with a power added
abbrev pub with_powers : List Float → List Float → List Float
with_powers powers sums = bands (λ k. add binary32 (get_or sums k nan) (get_or powers k nan))

module _ (responses : List Float) (from : ℕ) where
  response-none : (k : ℕ) → response_sum responses from zero k ≡ zero32
  unfolding response_sum
  response-none k = sum-none zero32 (λ j. band_of responses (from + j) k)

  pub response-begun : bands (λ k. zero32) ≡ bands (response_sum responses from zero)
  response-begun = tab-same 65 nan _ _ (λ k b. sym (response-none k))

  response-next : (n k : ℕ) → add binary32 (response_sum responses from n k) (band_of responses (from + n) k) ≡ response_sum responses from (n + 1) k
  unfolding response_sum
  response-next n k =
      sym
      (ap (λ (m : ℕ). sum_from zero32 (tab m (λ j. band_of responses (from + j) k))) (add-one n)
      ∙ sum_more n zero32 (λ j. band_of responses (from + j) k))

  pub response-more :
      (n : ℕ) (sums : List Float) → sums ≡ bands (response_sum responses from n)
      → with_powers (part responses (from + n)) sums ≡ bands (response_sum responses from (n + 1))
  response-more n sums e =
      tab-same 65 nan _ _
      (λ k b.
      ap (λ (x : Float). add binary32 x (band_of responses (from + n) k)) (band-at nan (response_sum responses from n) sums k e b)
      ∙ response-next n k)

-- the sums of so many blocks, where so many were walked
pub sums-over : (f : ℕ → ℕ → Float) {sums : List Float} {n m : ℕ} → sums ≡ bands (f n) → n ≡ m → sums ≡ bands (f m)
sums-over f e same = e ∙ ap (λ (n : ℕ). bands (f n)) same

-- ---- a slot of the ring

-- each band with a share of a power added
abbrev pub with_shares : List Float → Float → List Float → List Float
with_shares powers share sums = bands (λ k. add binary32 (get_or sums k nan) (mul binary32 (get_or powers k nan) share))

-- a slot of so many channels
abbrev pub slot_at : List Float → ℕ → ℕ → List Float
slot_at spectra p channels = mid_of p (p + channels * 65 - p) spectra

module _ (spectra : List Float) (p channels : ℕ) (fits : p + channels * 65 ≤ length spectra) where
  slot_size : length (slot_at spectra p channels) / 65 ≡ channels
  slot_size = omega (arith, length-take-le (p + channels * 65 - p) (drop p spectra) (omega (arith, length-drop p spectra)))

  module _ {chunks : List (List Float)} (cut : chunks ≡ first_chunks 65 (length (slot_at spectra p channels) / 65) (slot_at spectra p channels)) where
    pub slot_chunks-long : length chunks ≡ channels
    slot_chunks-long = ap length cut ∙ chunks-long 65 (length (slot_at spectra p channels) / 65) (slot_at spectra p channels) ∙ slot_size

    -- a channel's numbers in it
    pub slot_chunk : (ch : ℕ) → ch < length chunks → get_or chunks ch [] ≡ numbers_from spectra (p + ch * 65)
    unfolding numbers_from
    slot_chunk ch h =
        let below : ch < channels = omega (arith, slot_chunks-long) in
        let rest : p + channels * 65 - p ≡ ch * 65 + (channels * 65 - ch * 65) = omega arith in
        ap (λ (l : List (List Float)). get_or l ch []) cut
        ∙ chunk_at 65 (length (slot_at spectra p channels) / 65) (slot_at spectra p channels) ch (omega (arith, slot_size))
        ∙ ap (take 65)
        (ap (λ (n : ℕ). drop (ch * 65) (take n (drop p spectra))) rest ∙ drop-take (ch * 65) (channels * 65 - ch * 65) (drop p spectra))
        ∙ take-take 65 (channels * 65 - ch * 65) (drop (ch * 65) (drop p spectra)) (omega arith)
        ∙ ap (take 65) (drop-drop (ch * 65) p spectra)

-- a channel's numbers in a slot are a part of the spectra
numbers-part :
    (spectra : List Float) (place channels ch : ℕ)
    → numbers_from spectra (place * slot_length channels + ch * 65) ≡ part spectra (place * channels + ch)
unfolding numbers_from part
numbers-part spectra place channels ch =
    ap (λ (p : ℕ). take 65 (drop p spectra))
    (ap (λ (n : ℕ). n + ch * 65) (sym (mul_assoc place channels 65)) ∙ sym (add-mul (place * channels) ch 65))

module _ (spectra : List Float) (position : ℕ) (share : Float) (sums : List Float) where
  abbrev share_of : ℕ → ℕ → Float
  share_of k ch = mul binary32 (get_or (numbers_from spectra (position + ch * 65)) k nan) share

  pub slot-none : length sums ≡ 65 → sums ≡ with_slot spectra position zero share sums
  unfolding with_slot
  slot-none long = tab-is 65 nan _ sums long (λ k b. sym (sum-none (get_or sums k nan) (share_of k)))

  pub slot-more :
      (ch : ℕ) (r : List Float) → r ≡ with_slot spectra position ch share sums
      → with_shares (numbers_from spectra (position + ch * 65)) share r ≡ with_slot spectra position (ch + 1) share sums
  unfolding with_slot
  slot-more ch r e =
      tab-same 65 nan _ _
      (λ k b.
      ap (λ (x : Float). add binary32 x (share_of k ch)) (band-at nan (λ j. sum_from (get_or sums j nan) (tab ch (share_of j))) r k e b)
      ∙ sym (sum_more ch (get_or sums k nan) (share_of k))
      ∙ ap (λ (n : ℕ). sum_from (get_or sums k nan) (tab n (share_of k))) (sym (add-one ch)))

  -- all of them
  pub slot-over : {ch channels : ℕ} {r : List Float} → r ≡ with_slot spectra position ch share sums → ch ≡ channels → r ≡ with_slot spectra position channels share sums
  slot-over e all = e ∙ ap (λ (n : ℕ). with_slot spectra position n share sums) all

-- ---- render

module _ (ring : RenderRing) (spectra : List Float) (headroom from : ℕ) where
  render-next :
      (n k : ℕ)
      → sum_from (render_sum ring spectra headroom from n k) (tab ring.channels (λ ch. mul binary32 (render_at ring spectra headroom (from + n) ch k) (render_share ring.channels)))
      ≡ render_sum ring spectra headroom from (n + 1) k
  unfolding render_sum
  render-next n k = ap (λ (m : ℕ). render_sum ring spectra headroom from m k) (sym (add-one n))

  slot_next :
      (n : ℕ) (sums : List Float) → sums ≡ bands (render_sum ring spectra headroom from n)
      → with_slot spectra (position_of ring headroom (from + n)) ring.channels (render_share ring.channels) sums
      ≡ bands (render_sum ring spectra headroom from (n + 1))
  unfolding with_slot render_at
  slot_next n sums e =
      let place : ℕ = walked_place ring.slots ring.position headroom (from + n) in
      tab-same 65 nan _ _
      (λ k b.
      rw (band-at nan (render_sum ring spectra headroom from n) sums k e b)
      (ap (sum_from (render_sum ring spectra headroom from n k))
      (tab-same ring.channels nan _ _
      (λ ch c. ap (λ (l : List Float). mul binary32 (get_or l k nan) (render_share ring.channels)) (numbers-part spectra place ring.channels ch)))
      ∙ render-next n k))

  pub render-more :
      (n : ℕ) (sums : List Float) → sums ≡ bands (render_sum ring spectra headroom from n)
      → {position : ℕ} {share : Float} {r : List Float} → position ≡ position_of ring headroom (from + n) → share ≡ render_share ring.channels
      → r ≡ with_slot spectra position ring.channels share sums → r ≡ bands (render_sum ring spectra headroom from (n + 1))
  render-more n sums e {share = share} at shares stored =
      stored
      ∙ ap (λ (p : ℕ). with_slot spectra p ring.channels share sums) at
      ∙ ap (λ (x : Float). with_slot spectra (position_of ring headroom (from + n)) ring.channels x sums) shares
      ∙ slot_next n sums e
