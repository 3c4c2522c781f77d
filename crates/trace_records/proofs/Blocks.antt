-- A block in tables: how long its lists are, the loop that reads its numbers, and where each list stands among them.
use mathlib.Core.Path.{◌≡◌, refl, ap, ◌∙◌}
use mathlib.Core.Bool.{Bool, true, false}
use mathlib.Core.List.{List, [], ◌∷◌, ◌++◌, map}
use Prim.Native.Nat.{ℕ, zero, suc, ◌+◌, ◌-◌, ◌*◌, ◌/◌, ◌%◌, ◌≤◌, ◌<◌}
use native.Mathlib.Omega.{arith}
use borrow.Author.Tests.{ltb-true, ltb-false}
use borrow.Rule.Slice.PartMut.{put_mid}
use Rattle.std.proofs.Common.{suc-mul, zero-mul, rules, ◌⊎◌, inl, inr}
use Rattle.std.proofs.lemmas.List.{places}
use lib.Dec.{ltb}
use lib.Ieee.{Float, nan}
use lib.ListN.{length, take, drop, get_or, length-append, length-drop}
use lib.Seq.{get_or-take, get_or-drop, drop-drop, length-take-le}
use Rattle.aec3_common.specs.Calls.{value_refusal}
use Rattle.aec3_common.specs.Lists.{tab}
use Rattle.std.specs.Simd.{first_chunks}
use Rattle.aec3_common.proofs.Tables.{length-tab, get_or-tab, get_or-tab-first, tab-is, tab-same}
use Rattle.encoding.specs.Bytes.{byte_at, half_at, word_at}
use Rattle.trace_records.specs.Records.{is_set, value_at, converged_byte, flags_in, spectrum_at, render_place, render_in, spectra_at, capture_place, capture_in, residual_place, residual_in}
use Rattle.trace_records.specs.Steps.{flag_table, numbers_in, BlockRead}
use Rattle.trace_records.proofs.Parts.{two-together, first-of-two, second-of-two}

-- ---- how long the lists are

map-tab : {A B : Type 0} (f : A → B) (n : ℕ) (g : ℕ → A) → map f (tab n g) ≡ tab n (λ k. f (g k))
unfolding tab
map-tab f zero g = refl
map-tab f (suc n) g = ap (λ l. f (g zero) ∷ l) (map-tab f n (λ k. g (suc k)))

-- what the flag bytes say, one by one
pub flags-tab : (n : ℕ) (r : List ℕ) → map is_set (flags_in n r) ≡ tab n (λ ch. is_set (converged_byte r ch))
unfolding flags_in
flags-tab n r = map-tab is_set n (converged_byte r)

pub length-flags : (n : ℕ) (r : List ℕ) → length (map is_set (flags_in n r)) ≡ n
length-flags n r = ap length (flags-tab n r) ∙ length-tab n _

pub length-render : (n : ℕ) (r : List ℕ) → length (render_in n r) ≡ 65
unfolding render_in spectrum_at
length-render n r = length-tab 65 _

length-spectra : (n : ℕ) (r : List ℕ) (i : ℕ) → length (spectra_at n r i) ≡ n * 65
unfolding spectra_at
length-spectra n r i = length-tab (n * 65) _

pub length-capture : (n : ℕ) (r : List ℕ) → length (capture_in n r) ≡ n * 65
unfolding capture_in
length-capture n r = length-spectra n r _

pub length-residual : (n : ℕ) (r : List ℕ) → length (residual_in n r) ≡ n * 65
unfolding residual_in
length-residual n r = length-spectra n r _

-- ---- flags

pub length-flag-table : (n : ℕ) (r : List ℕ) → length (flag_table n r) ≡ 4
unfolding flag_table
length-flag-table n r = length-tab 4 _

-- the table begins with what the flag bytes say
pub flags-front : (n : ℕ) (r : List ℕ) → n ≤ 4 → take n (flag_table n r) ≡ map is_set (flags_in n r)
unfolding flag_table
flags-front n r few =
    rw flags-tab
    (tab-is n false _ (take n (flag_table n r))
    (length-take-le n (flag_table n r) (omega (arith, length-flag-table n r)))
    (λ k b. get_or-take n (flag_table n r) k false b ∙ get_or-tab-first 4 n (λ ch. is_set (converged_byte r ch)) (λ ch. false) k false few b))

-- the flag bytes are a part of the record
pub flags-part : (n : ℕ) (r : List ℕ) → 2 + n ≤ length r → take (2 + n - 2) (drop 2 r) ≡ flags_in n r
unfolding flags_in
flags-part n r h =
    let all : 2 + n - 2 ≡ n = omega arith in
    rw all
    (tab-is n 0 (converged_byte r) (take n (drop 2 r))
    (length-take-le n (drop 2 r) (omega (arith, length-drop 2 r)))
    (λ k b. get_or-take n (drop 2 r) k 0 b ∙ get_or-drop 2 r k 0))

-- ---- 65 numbers, one after the other

-- the number at a place of a part of a record
pub value-part : (r : List ℕ) (place n i : ℕ) → i + 4 ≤ n → value_at (take n (drop place r)) i ≡ value_at r (place + i)
unfolding value_at word_at half_at
value-part r place n i h =
    let byte : (j : ℕ) → j < n → get_or (take n (drop place r)) j 0 ≡ get_or r (place + j) 0 = λ j b. get_or-take n (drop place r) j 0 b ∙ get_or-drop place r j 0 in
    let b0 : byte_at (take n (drop place r)) i ≡ byte_at r (place + i) = byte i (omega arith) in
    let b1 : byte_at (take n (drop place r)) (i + 1) ≡ byte_at r (place + i + 1) = byte (i + 1) (omega arith) ∙ ap (byte_at r) (omega arith) in
    let b2 : byte_at (take n (drop place r)) (i + 2) ≡ byte_at r (place + i + 2) = byte (i + 2) (omega arith) ∙ ap (byte_at r) (omega arith) in
    let b3 : byte_at (take n (drop place r)) (i + 2 + 1) ≡ byte_at r (place + i + 2 + 1) = byte (i + 2 + 1) (omega arith) ∙ ap (byte_at r) (omega arith) in
    rw (b0, b1, b2, b3)

-- what stands in a chunk
get_or-chunks : {A : Type 0} (n m : ℕ) (xs : List A) (k : ℕ) → k < m → get_or (first_chunks n m xs) k [] ≡ take n (drop (k * n) xs)
get_or-chunks n zero xs k h = absurd (omega arith)
get_or-chunks n (suc m) xs zero h = rw zero-mul
get_or-chunks n (suc m) xs (suc k) h =
    let on : k * n + n ≡ suc k * n = rw suc-mul (omega arith) in
    get_or-chunks n m (drop n xs) k (omega arith) ∙ ap (take n) (drop-drop (k * n) n xs ∙ ap (λ (j : ℕ). drop j xs) (omega (arith, on)))

-- a number in its four bytes
pub value-four : (r : List ℕ) (k : ℕ) → k < 65 → value_at (get_or (first_chunks 4 65 r) k []) 0 ≡ value_at r (0 + 4 * k)
value-four r k h =
    ap (λ (four : List ℕ). value_at four 0) (get_or-chunks 4 65 r k h) ∙ value-part r (k * 4) 4 0 (omega arith) ∙ ap (value_at r) (omega arith)

-- ---- one spectrum of each channel

-- Those of the first m channels stand in a table from an index on; channel 0's is at place i of the record.
pub record SpectraRead (r : List ℕ) (i at m : ℕ) (values : List Float) : Type 0 where
  pub each : (k : ℕ) → k < m * 65 → get_or values (at + k) nan ≡ value_at r (i + k / 65 * 520 + 4 * (k % 65))

-- none yet
pub spectra-none : {r : List ℕ} {i at : ℕ} {values : List Float} → SpectraRead r i at 0 values
spectra-none = record { each = λ k b. absurd (omega arith) }

spectra-are : {r : List ℕ} {i at m : ℕ} {values : List Float} → SpectraRead r i at m values → at + m * 65 ≤ length values → take (m * 65) (drop at values) ≡ spectra_at m r i
unfolding spectra_at
spectra-are {at = at} {m = m} {values = values} s room =
    tab-is (m * 65) nan _ (take (m * 65) (drop at values))
    (length-take-le (m * 65) (drop at values) (omega (arith, length-drop at values)))
    (λ k b. get_or-take (m * 65) (drop at values) k nan b ∙ get_or-drop at values k nan ∙ s.each k b)

-- Where the 65 entries from one on are written over with the numbers of a part of a record, they are the numbers from a place on; the others are as
-- they were.
pub record NumbersRead (r : List ℕ) (place : ℕ) (before : List Float) (from : ℕ) (values : List Float) : Type 0 where
  pub long : length values ≡ length before
  pub own : (k : ℕ) → k < 65 → get_or values (from + k) nan ≡ value_at r (place + 4 * k)
  pub under : (k : ℕ) → k < from → get_or values k nan ≡ get_or before k nan
  pub behind : (k : ℕ) → from + 65 ≤ k → get_or values k nan ≡ get_or before k nan

pub numbers-read :
    (place end from to : ℕ) {r : List ℕ} {before new : List Float}
    → new ≡ spectrum_at (take (end - place) (drop place r)) 0 → end ≡ place + 260 → to ≡ from + 65 → from + 65 ≤ length before
    → NumbersRead r place before from (put_mid from (to - from) before new)
unfolding spectrum_at
numbers-read place end from to {r} {before} {new} is bytes count room =
    let long : length new ≡ 65 = ap length is ∙ length-tab 65 _ in
    let entry : (k : ℕ) → k < 65 → get_or new k nan ≡ value_at r (place + 4 * k) =
    λ k b. ap (λ (l : List Float). get_or l k nan) is ∙ get_or-tab 65 _ k nan b ∙ value-part r place (end - place) (0 + 4 * k) (omega arith) ∙ ap (value_at r) (omega arith) in
    record {
      long = search (rules, places);
      own = λ k b. grind (arith, places, entry k b);
      under = λ k b. grind (arith, places);
      behind = λ k b. grind (arith, places);
    }

-- ---- a spectrum more

module _ {r : List ℕ} {i at m place from : ℕ} {before values : List Float} (read : SpectraRead r i at m before) (put : NumbersRead r place before from values) where
  -- the next channel's
  pub spectra-more : place ≡ i + 520 * m → from ≡ at + m * 65 → SpectraRead r i at (m + 1) values
  spectra-more here behind = record { each = λ k b. go k b (ltb k (m * 65)) refl }
    where
      go : (k : ℕ) → k < (m + 1) * 65 → (old : Bool) → ltb k (m * 65) ≡ old → get_or values (at + k) nan ≡ value_at r (i + k / 65 * 520 + 4 * (k % 65))
      go k b true p = put.under (at + k) (omega (arith, ltb-true k (m * 65) p)) ∙ read.each k (ltb-true k (m * 65) p)
      go k b false p =
          let j = k - m * 65 in
          ap (λ (n : ℕ). get_or values n nan) (omega (arith, ltb-false k (m * 65) p)) ∙ put.own j (omega (arith, ltb-false k (m * 65) p))
          ∙ ap (value_at r) (omega (arith, ltb-false k (m * 65) p))

  -- one that stands elsewhere
  pub spectra-kept : (at + m * 65 ≤ from) ⊎ (from + 65 ≤ at) → SpectraRead r i at m values
  spectra-kept (inl before-it) = record { each = λ k b. put.under (at + k) (omega arith) ∙ read.each k b }
  spectra-kept (inr behind-it) = record { each = λ k b. put.behind (at + k) (omega arith) ∙ read.each k b }

-- render power is as one channel's
one-channel : (n : ℕ) (r : List ℕ) → spectra_at 1 r (render_place n) ≡ render_in n r
unfolding spectra_at render_in spectrum_at
one-channel n r = tab-same 65 nan _ _ (λ k b. ap (value_at r) (omega arith))

-- ---- the loop over the channels

-- Render power has been read, and capture and residual power of the channels before ch.
pub record Reading (n : ℕ) (r : List ℕ) (values : List Float) (ch : ℕ) : Type 0 where
  pub long : length values ≡ 585
  pub render : SpectraRead r (render_place n) 0 1 values
  pub capture : SpectraRead r (capture_place n) 65 ch values
  pub residual : SpectraRead r (residual_place n) (65 + 65 * n) ch values

-- the loop has ended, and what was read is judged
pub reading-all :
    {n : ℕ} {r : List ℕ} {values : List Float} {refused : ℕ}
    → n ≤ 4 → Reading n r values n → refused ≡ value_refusal (take (65 + 130 * n) values) → BlockRead n r values refused
unfolding capture_in residual_in
reading-all {n} {r} {values} few s told =
    record { long = s.long; front = front; told = told ∙ ap value_refusal front }
  where
    lists : take (65 + n * 65 + n * 65) values ≡ numbers_in n r
    lists =
        two-together (65 + n * 65) (n * 65) values _ _
        (two-together 65 (n * 65) values _ _
        (spectra-are s.render (omega (arith, few, s.long)) ∙ one-channel n r)
        (spectra-are s.capture (omega (arith, few, s.long))))
        (let at : 65 + n * 65 ≡ 65 + 65 * n = omega arith in rw at (spectra-are s.residual (omega (arith, few, s.long))))

    front : take (65 + 130 * n) values ≡ numbers_in n r
    front = let count : 65 + 130 * n ≡ 65 + n * 65 + n * 65 = omega arith in rw count lists

-- ---- the lists in the table

module _ {n : ℕ} {r : List ℕ} {values : List Float} {refused : ℕ} (read : BlockRead n r values refused) where
  abbrev render : List Float
  render = render_in n r

  abbrev capture : List Float
  capture = capture_in n r

  -- render and capture power, and then residual power
  front : take (65 + 65 * n + 65 * n) values ≡ (render ++ capture) ++ residual_in n r
  front = let count : 65 + 65 * n + 65 * n ≡ 65 + 130 * n = omega arith in rw count read.front

  long : length (render ++ capture) ≡ 65 + 65 * n
  long = omega (arith, length-append render capture, length-render n r, length-capture n r)

  two : take (65 + 65 * n) values ≡ render ++ capture
  two = first-of-two (65 + 65 * n) (65 * n) values (render ++ capture) (residual_in n r) front long

  pub read-render : take 65 values ≡ render
  read-render = first-of-two 65 (65 * n) values render capture two (length-render n r)

  pub read-capture : take (65 * n) (drop 65 values) ≡ capture
  read-capture = second-of-two 65 (65 * n) values render capture two (length-render n r)

  pub read-residual : take (65 * n) (drop (65 + 65 * n) values) ≡ residual_in n r
  read-residual = second-of-two (65 + 65 * n) (65 * n) values (render ++ capture) (residual_in n r) front long
