-- Bytes that are read behind those that are held.
use Rattle.std.proofs.Common.{◌≡◌, ℕ, ◌+◌, ◌-◌, ◌≤◌, ◌<◌, List, [], ◌++◌, length, take, drop, refl, sym, ap, ◌∙◌, arith, false, add-zero, zero-add}
use Rattle.std.proofs.Math.Seq.{paste, take-paste, take-append-add}
use Rattle.std.proofs.lemmas.List.{take-append-le}
use Rattle.std.specs.Prelude.{Option, Some, None, nat_eq}
use Rattle.std.specs.Io.KnownBytes.{Consumes, IsAtEnd, Keeps}
use mathlib.Core.Bool.{false≢true}
use borrow.Author.Tests.{eqb-true}
use borrow.Rule.Slice.PartMut.{put_mid, post_of}
use lib.ListN.{length-append, length-drop}
use lib.Seq.{length-take-le}
use Rattle.streaming.specs.Feeding.{ReadOn}

-- what was kept lost nothing
keeps-consumes : (before after : Option (List ℕ)) → Keeps before after → Consumes before after []
keeps-consumes None after keeps = tt
keeps-consumes (Some xs) None keeps = keeps
keeps-consumes (Some xs) (Some ys) keeps = sym keeps

-- the bytes in front, once moved there
front : (d : List ℕ) (from n : ℕ) → from + n ≤ length d → take n (paste d 0 (drop from d) n) ≡ take n (drop from d)
front d from n h =
    ap (λ (m : ℕ). take m (paste d 0 (drop from d) n)) (sym (zero-add n))
    ∙ take-paste d 0 (drop from d) n (omega arith) (omega (arith, length-drop from d))

-- and with a part behind them
behind : (xs buf : List ℕ) (a k n : ℕ) → a ≤ length xs → n ≤ length buf → take (a + n) (put_mid a k xs buf) ≡ take a xs ++ take n buf
behind xs buf a k n h less =
    let long = length-take-le a xs h in
    ap (λ (m : ℕ). take (m + n) (take a xs ++ (buf ++ post_of a k xs))) (sym long)
    ∙ take-append-add (take a xs) (buf ++ post_of a k xs) n
    ∙ ap (λ (l : List ℕ). take a xs ++ l) (take-append-le n buf (post_of a k xs) less)

module _
    (d moved buf : List ℕ) (from to k : ℕ) (ordered : from ≤ to) (within : to ≤ length d)
    (long : length moved ≡ length d) (is : moved ≡ paste d 0 (drop from d) (to - from))
    (same : length (put_mid (to - from) k moved buf) ≡ length d)
  where
    abbrev held : List ℕ
    held = take (to - from) (drop from d)

    held_is : take (to - from) moved ≡ held
    held_is = rw is (front d from (to - from) (omega arith))

    module _ {before after : Option (List ℕ)} where
      -- some bytes were read
      pub read-some :
          (n : ℕ) → n ≤ length buf → 0 < length buf
          → Consumes before after (take n buf) × (n ≡ 0 → 0 < length buf → IsAtEnd after)
          → ReadOn before after held (put_mid (to - from) k moved buf) (record { from = 0; to = to - from + n; ended = nat_eq n 0 })
      read-some n less room (taken, end) =
          let rest = post_of (to - from) k moved in
          record {
            got = take n buf;
            front = refl;
            within = omega (arith, same, length-append (take (to - from) moved) (buf ++ rest), length-append buf rest, length-take-le (to - from) moved (omega arith));
            now = behind moved buf (to - from) k n (omega arith) less ∙ ap (λ (l : List ℕ). l ++ take n buf) held_is;
            taken = taken;
            end = λ e. end (eqb-true n 0 e) room;
          }

      -- none were, since a signal came first
      pub read-none : Keeps before after → ReadOn before after held (put_mid (to - from) k moved buf) (record { from = 0; to = to - from; ended = false })
      read-none keeps =
          record {
            got = [];
            front = refl;
            within = omega (arith, same);
            now = ap (λ (m : ℕ). take m (put_mid (to - from) k moved buf)) (sym (add-zero (to - from))) ∙ behind moved buf (to - from) k 0 (omega arith) (omega arith) ∙ ap (λ (l : List ℕ). l ++ []) held_is;
            taken = keeps-consumes before after keeps;
            end = λ e. absurd (false≢true e);
          }
