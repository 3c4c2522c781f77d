-- Records of a trace, one by one.
use mathlib.Core.Path.{◌≡◌, refl, sym, ap, ◌∙◌}
use mathlib.Core.Bool.{Bool, true, false, cond, ◌&&◌}
use mathlib.Core.List.{List, [], ◌∷◌}
use Prim.Native.Nat.{ℕ, zero, suc, ◌+◌, ◌≤◌, ◌<◌}
use native.Mathlib.Omega.{arith}
use native.Mathlib.Nat.{not-suc-le-zero}
use borrow.Author.Tests.{leb-true, leb-false, le-leb, lt-leb}
use lib.Dec.{leb}
use lib.ListN.{length, drop}
use Rattle.std.specs.Prelude.{Some, None}
use Rattle.std.specs.Option.{is_some}
use Rattle.aec3_common.proofs.Choices.{and_left, and_right}
use Rattle.aec3_common.proofs.Ranges.{from-lo, to-hi}
use Rattle.trace_records.specs.Frames.{Frame, whole, bad, length_in, length_ok, framed, record_in, frames_from, frames, frame_length, length_of}

after : (n : ℕ) (s : List ℕ) → frames_from n s ≡ frames (drop n s)
unfolding frames frames_from
after zero s = refl
after (suc n) [] = refl
after (suc n) (b ∷ s) = after n s

-- nothing is left
pub frames-none : (s : List ℕ) → length s ≤ 0 → frames s ≡ []
unfolding frames frames_from
frames-none [] h = refl
frames-none (b ∷ s) h = absurd (not-suc-le-zero h)

-- a whole record is there, and the rest begins behind it
pub frames-whole : (s : List ℕ) → 0 < length s → framed s ≡ true → frames s ≡ whole (record_in s) ∷ frames (drop (4 + length_in s) s)
unfolding frames frames_from
frames-whole [] h e = absurd (not-suc-le-zero h)
frames-whole (b ∷ s) h e =
    let l = length_in (b ∷ s) in
    let size : suc (3 + l) ≡ 4 + l = omega arith in
    ap (λ (t : Bool). cond t (whole (record_in (b ∷ s)) ∷ frames_from (3 + l) s) (bad ∷ [])) e
    ∙ ap (λ (fs : List Frame). whole (record_in (b ∷ s)) ∷ fs) (after (3 + l) s ∙ ap (λ (m : ℕ). frames (drop m (b ∷ s))) size)

-- none is
pub frames-bad : (s : List ℕ) → 0 < length s → framed s ≡ false → frames s ≡ bad ∷ []
unfolding frames frames_from
frames-bad [] h e = absurd (not-suc-le-zero h)
frames-bad (b ∷ s) h e =
    ap (λ (t : Bool). cond t (whole (record_in (b ∷ s)) ∷ frames_from (3 + length_in (b ∷ s)) s) (bad ∷ [])) e

-- ---- what frame_length tells

module _ (s : List ℕ) (ok : framed s ≡ true) where
  in-limits : length_ok (length_in s) ≡ true
  unfolding framed
  in-limits = and_left (length_ok (length_in s)) (leb (4 + length_in s) (length s)) ok

  pub framed-least : 2 ≤ length_in s
  framed-least = from-lo 2 65532 (length_in s) in-limits

  pub framed-most : length_in s ≤ 65532
  framed-most = to-hi 2 65532 (length_in s) in-limits

  pub framed-room : 4 + length_in s ≤ length s
  unfolding framed
  framed-room = leb-true (4 + length_in s) (length s) (and_right (length_ok (length_in s)) (leb (4 + length_in s) (length s)) ok)

  pub framed-length : frame_length s ≡ Some (length_in s)
  unfolding frame_length
  framed-length = rw ok

-- where a length is given a record is whole, and it is its L
pub length-framed : (s : List ℕ) (l : ℕ) → Some l ≡ frame_length s → (framed s ≡ true) × (l ≡ length_in s)
unfolding frame_length
length-framed s l some = go (framed s) refl some
  where
    go : (t : Bool) → framed s ≡ t → Some l ≡ cond t (Some (length_in s)) None → (framed s ≡ true) × (l ≡ length_in s)
    go true e is = (e, cc)
    go false e is = absurd (cc)

-- and where none is, none is
pub no-length-framed : (s : List ℕ) → None ≡ frame_length s → framed s ≡ false
unfolding frame_length
no-length-framed s none = go (framed s) refl none
  where
    go : (t : Bool) → framed s ≡ t → None ≡ cond t (Some (length_in s)) None → framed s ≡ false
    go true e is = absurd (cc)
    go false e is = e

-- ---- a whole record by its L and by the bytes that are there

-- four bytes that say no L
pub none_there : (s : List ℕ) → None ≡ length_of s → None ≡ frame_length s
unfolding length_of frame_length framed
none_there s e = go (leb 4 (length s)) refl (length_ok (length_in s)) refl e
  where
    go :
        (some : Bool) → leb 4 (length s) ≡ some → (ok : Bool) → length_ok (length_in s) ≡ ok → None ≡ cond (some && ok) (Some (length_in s)) None
        → None ≡ cond (ok && leb (4 + length_in s) (length s)) (Some (length_in s)) None
    go some p false q e = refl
    go true p true q e = absurd (cc)
    go false p true q e = sym (rw (lt-leb (4 + length_in s) (length s) (omega (arith, leb-false 4 (length s) p))))

-- bytes that are fewer than L asks
pub cut_short : (s : List ℕ) (l : ℕ) → Some l ≡ length_of s → length s < 4 + l → None ≡ frame_length s
unfolding length_of frame_length framed
cut_short s l e h = go (leb 4 (length s)) refl (length_ok (length_in s)) refl e
  where
    go :
        (some : Bool) → leb 4 (length s) ≡ some → (ok : Bool) → length_ok (length_in s) ≡ ok → Some l ≡ cond (some && ok) (Some (length_in s)) None
        → None ≡ cond (ok && leb (4 + length_in s) (length s)) (Some (length_in s)) None
    go some p false q e = refl
    go true p true q e =
        let is : l ≡ length_in s = cc in
        sym (rw (lt-leb (4 + length_in s) (length s) (omega arith)))
    go false p true q e = absurd (cc)

-- and bytes that are not
pub all_there : (s : List ℕ) (l : ℕ) → Some l ≡ length_of s → 4 + l ≤ length s → Some l ≡ frame_length s
unfolding length_of frame_length framed
all_there s l e h = go (length_ok (length_in s)) refl (rw (le-leb 4 (length s) (omega arith)) at e)
  where
    go :
        (ok : Bool) → length_ok (length_in s) ≡ ok → Some l ≡ cond (true && ok) (Some (length_in s)) None
        → Some l ≡ cond (ok && leb (4 + length_in s) (length s)) (Some (length_in s)) None
    go true q e =
        let is : l ≡ length_in s = cc in
        e ∙ sym (rw (le-leb (4 + length_in s) (length s) (omega arith)))
    go false q e = absurd (cc)

-- where four bytes are there, an L is given if they say one that a record can have
pub some-length : (s : List ℕ) → 4 ≤ length s → is_some (length_of s) ≡ length_ok (length_in s)
unfolding length_of
some-length s h = rw (le-leb 4 (length s) h) (go (length_ok (length_in s)))
  where
    go : (ok : Bool) → is_some (cond ok (Some (length_in s)) None) ≡ ok
    go true = refl
    go false = refl
