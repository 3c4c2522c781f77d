-- Text written over a list, piece by piece.
use mathlib.Core.Path.{◌≡◌, refl, sym, ap, ◌∙◌}
use mathlib.Core.Bool.{Bool, true, false, cond}
use mathlib.Core.List.{List, [], ◌++◌, append_assoc, append-nil}
use Prim.Native.Nat.{ℕ, ◌+◌, ◌≤◌, ◌<◌}
use native.Mathlib.Nat.{add-zero}
use native.Mathlib.Omega.{arith}
use lib.ListN.{length, take, drop, length-append, length-drop, take-append-drop}
use lib.Seq.{length-take-le, take_at, drop_at, drop-drop}
use borrow.Author.Tests.{le-leb, lt-leb, leb-true, leb-false}
use borrow.Rule.Slice.PartMut.{put_mid}
use Rattle.std.specs.Prelude.{Some, None}
use Rattle.encoding.specs.Text.{room, laid, written, place_behind}

module _ (d : List ℕ) (at : ℕ) (s : List ℕ) where
  -- where there is room, all of the text is laid over the list
  module _ (h : at + length s ≤ length d) where
    pub written-room : written d at s ≡ laid d at s
    unfolding written
    written-room = rw (le-leb (at + length s) (length d) h)

    pub behind-room : place_behind d at s ≡ Some (at + length s)
    unfolding place_behind
    behind-room = rw (le-leb (at + length s) (length d) h)

    length-head : length (take at d ++ s) ≡ at + length s
    length-head = length-append (take at d) s ∙ rw (length-take-le at d (omega arith))

    pub length-laid : length (laid d at s) ≡ length d
    unfolding laid
    length-laid =
        length-append (take at d ++ s) (drop (at + length s) d)
        ∙ omega (arith, length-head, length-drop (at + length s) d)

  -- and where there is none, nothing is
  module _ (h : length d < at + length s) where
    pub written-full : written d at s ≡ d
    unfolding written
    written-full = rw (lt-leb (at + length s) (length d) h)

    pub behind-full : place_behind d at s ≡ None
    unfolding place_behind
    behind-full = rw (lt-leb (at + length s) (length d) h)

-- a part of a list that a text is copied over
pub put_mid-laid : (d : List ℕ) (at k : ℕ) (s : List ℕ) → k ≡ length s → put_mid at k d s ≡ laid d at s
unfolding laid
put_mid-laid d at k s e = rw (e, append_assoc (take at d) s (drop (at + length s) d), drop-drop (length s) at d)

-- What a write that had room gave: the list e and the next place.
pub record Wrote (d : List ℕ) (at : ℕ) (s e : List ℕ) (next : ℕ) : Type 0 where
  pub room : at + length s ≤ length d
  pub text : e ≡ laid d at s
  pub place : next ≡ at + length s

-- from what a function ensures that writes, where it answers a place
pub wrote : (d : List ℕ) (at : ℕ) (s e : List ℕ) (next : ℕ) → Some next ≡ place_behind d at s → e ≡ written d at s → Wrote d at s e next
unfolding place_behind
wrote d at s e next place text = go (room d at s) refl place
  where
    go : (b : Bool) → room d at s ≡ b → Some next ≡ cond b (Some (at + length s)) None → Wrote d at s e next
    go true fits q =
        let h = leb-true (at + length s) (length d) fits in
        let same : next ≡ at + length s = cc in
        record { room = h; text = text ∙ written-room d at s h; place = same }
    go false full q = cc

-- and where it answers none there is no room, and nothing is written
pub full : (d : List ℕ) (at : ℕ) (s : List ℕ) → None ≡ place_behind d at s → room d at s ≡ false
unfolding place_behind
full d at s place = go (room d at s) place
  where
    go : (b : Bool) → None ≡ cond b (Some (at + length s)) None → b ≡ false
    go true q = cc
    go false q = refl

pub unwritten : (d : List ℕ) (at : ℕ) (s e : List ℕ) → None ≡ place_behind d at s → e ≡ written d at s → e ≡ d
unwritten d at s e place text = text ∙ written-full d at s (leb-false (at + length s) (length d) (full d at s place))

-- no write changes the length
pub wrote-long : {d : List ℕ} {at : ℕ} {s e : List ℕ} {next : ℕ} → Wrote d at s e next → length e ≡ length d
wrote-long {d = d} {at = at} {s = s} w = ap length w.text ∙ length-laid d at s w.room

-- a write of nothing
pub wrote_none : (d : List ℕ) (at : ℕ) → at ≤ length d → Wrote d at [] d at
unfolding laid
wrote_none d at h =
    record { room = omega arith; text = sym (rw (append-nil, add-zero, take-append-drop)); place = omega arith }

-- a text laid right behind a text is both in one
laid_then : (d : List ℕ) (at : ℕ) (s t : List ℕ) → at + length s ≤ length d → laid (laid d at s) (at + length s) t ≡ laid d at (s ++ t)
unfolding laid
laid_then d at s t h =
    let l = length-head d at s h in
    let behind = drop (at + length s) d in
    let m : at + length s + length t ≡ at + length (s ++ t) = omega (arith, length-append s t) in
    rw (
      take_at (take at d ++ s) behind (at + length s) l,
      ← drop-drop (length t) (at + length s) (take at d ++ s ++ behind),
      drop_at (take at d ++ s) behind (at + length s) l,
      drop-drop (length t) (at + length s) d,
      m,
      append_assoc (take at d) s t,
    )

-- one write after the other is a write of both texts
pub wrote_then : {d : List ℕ} {at : ℕ} {s e : List ℕ} {next : ℕ} {t f : List ℕ} {last : ℕ} → Wrote d at s e next → Wrote e next t f last → Wrote d at (s ++ t) f last
wrote_then {d = d} {at = at} {s = s} {t = t} a b =
    record {
      room = omega (arith, length-append s t, wrote-long a, a.place, b.room);
      text = b.text ∙ rw (a.text, a.place) (laid_then d at s t a.room);
      place = omega (arith, length-append s t, a.place, b.place);
    }

-- where the first place is the front, the list up to the next place is the text
pub wrote-front : {d s e : List ℕ} {next : ℕ} → Wrote d 0 s e next → take next e ≡ s
unfolding laid
wrote-front {d = d} {s = s} w = rw (w.text, w.place) (take_at s (drop (0 + length s) d) (0 + length s) (omega arith))
