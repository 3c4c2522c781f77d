-- A whole trace fed at once, behind the header.
use mathlib.Core.Path.{◌≡◌, refl, sym, ap, ◌∙◌}
use mathlib.Core.Bool.{Bool, true, false, not, false≢true}
use mathlib.Core.List.{List, [], ◌∷◌, ◌++◌, map, append-nil}
use Prim.Native.Nat.{ℕ, ◌+◌, ◌-◌, ◌≤◌, ◌<◌}
use native.Mathlib.Omega.{arith}
use borrow.Author.Tests.{le-leb, lt-leb, leb-false}
use lib.Dec.{leb}
use lib.ListN.{length, drop, length-append}
use Rattle.std.specs.Prelude.{None}
use Rattle.encoding.specs.Text.{written, place_behind}
use Rattle.encoding.proofs.Writing.{Wrote, full, wrote_none, wrote_then, wrote-long}
use Rattle.trace_text.specs.Text.{Item, header, line, lines}
use Rattle.trace_text.proofs.Lines.{lines-append}
use Rattle.trace_state.specs.Apply.{beginning}
use Rattle.trace_state.specs.Listing.{items_in, listing, fitting, fitting_listing}
use Rattle.trace_state.specs.Feed.{Walk, Stopped, fed, items_ahead, items_left, TooLong, Lists, GivesListing, Why, lacks_record, lacks_room, refused_under, state_refused}
use Rattle.trace_state.proofs.Running.{beginning-ok}
use Rattle.trace_state.proofs.Ahead.{due-none}
use Rattle.trace_state.proofs.Fitting.{fitting-cut, fitting-all}
use Rattle.trace_state.proofs.Listed.{gives-listing}
use Rattle.trace.specs.declared.listing.Listed.{Listed}
use Rattle.trace.specs.Answers.{listed_answer, listed_over}

-- whether it stopped for want of room
abbrev pub no_room : Why → Bool
no_room lacks_record = false
no_room lacks_room = true
no_room (refused_under number) = false
no_room state_refused = false

pub ahead-beginning : (s : List ℕ) → items_ahead beginning s ≡ items_in s
unfolding beginning
ahead-beginning s = rw (due-none beginning refl)

module _ (s d : List ℕ) where
  -- no room for the header
  pub listed-none :
      None ≡ place_behind d 0 header → (◌≡◌ {A = Listed} (record { written = 0; fits = false }) (listed_answer s d)) × (written d 0 header ≡ listed_over s d)
  unfolding listed_answer listed_over fitting_listing fitting listing written
  listed-none none =
      let no-room = full d 0 header none in
      let short : length d < length header = omega (arith, leb-false (0 + length header) (length d) no-room) in
      let no_line = lt-leb (length header) (length d) short in
      let no-listing = lt-leb (length (header ++ lines (items_in s))) (length d) (omega (arith, length-append header (lines (items_in s)))) in
      (sym (rw (no_line, no-listing)), rw (no-room, no_line) (wrote_none d 0 (omega arith)).text)

  module _ {e : List ℕ} {next : ℕ} (begun : Wrote d 0 header e next) where
    in-room : next ≤ length e
    in-room = omega (arith, begun.room, begun.place, wrote-long begun)

    abbrev w : Walk
    w = record { state = beginning; used = 0; out = e; at = next }

    -- what is written of the listing, by the items that found room
    listed-items :
        (x : Stopped) (items : List Item) (fits : Bool) → Wrote e next (lines items) x.walk.out x.walk.at
        → fitting (length d - length header) (map line (items_in s)) ≡ lines items → leb (length (header ++ lines (items_in s))) (length d) ≡ fits
        → (◌≡◌ {A = Listed} (record { written = x.walk.at; fits = fits }) (listed_answer s d)) × (x.walk.out ≡ listed_over s d)
    unfolding listed_answer listed_over fitting_listing fitting listing
    listed-items x items fits text found told =
        let line-fits = le-leb (length header) (length d) (omega (arith, begun.room)) in
        let both = wrote_then begun text in
        let place : x.walk.at ≡ length (header ++ lines items) = omega (arith, both.place) in
        (rw (line-fits, found, told) (λ i. record { written = place i; fits = fits }), rw (line-fits, found) both.text)

    -- the whole listing, or as much of it as finds room
    pub listed-done :
        (x : Stopped) → x ≡ fed beginning s true e next
        → (◌≡◌ {A = Listed} (record { written = x.walk.at; fits = not (no_room x.stop) }) (listed_answer s d)) × (x.walk.out ≡ listed_over s d)
    unfolding GivesListing items_left lines
    listed-done x is = go x.stop refl
      where
        lists : Lists s true w x
        lists = rw is (gives-listing beginning s true e next beginning-ok in-room)

        text : Wrote e next (lines lists.items) x.walk.out x.walk.at
        text = record { room = lists.fits; text = lists.text; place = lists.place }

        long : length e ≡ length d
        long = wrote-long begun

        -- with nothing behind the bytes
        ahead : items_in s ≡ lists.items ++ items_left x.stop x.walk.state (drop x.walk.used s)
        ahead = sym (ahead-beginning s) ∙ rw (append-nil s, append-nil (drop x.walk.used s)) at (lists.rest [] (λ end. refl))

        whole : (x.stop ≡ lacks_room → ⊥) → items_in s ≡ lists.items
        whole other = ahead ∙ rw (lists.all refl other, append-nil lists.items)

        all : (x.stop ≡ lacks_room → ⊥) → (◌≡◌ {A = Listed} (record { written = x.walk.at; fits = true }) (listed_answer s d)) × (x.walk.out ≡ listed_over s d)
        all other =
            let these = whole other in
            let size : length (lines (items_in s)) ≤ length d - length header = omega (arith, ap (λ (l : List Item). length (lines l)) these, text.room, begun.place, long) in
            listed-items x lists.items true text (fitting-all (length d - length header) (items_in s) size ∙ ap lines these)
            (le-leb (length (header ++ lines (items_in s))) (length d) (omega (arith, length-append header (lines (items_in s)), begun.room)))

        cut : x.stop ≡ lacks_room → (◌≡◌ {A = Listed} (record { written = x.walk.at; fits = false }) (listed_answer s d)) × (x.walk.out ≡ listed_over s d)
        cut full =
            let next-line : TooLong x.walk (items_ahead x.walk.state (drop x.walk.used s)) = rw (append-nil (drop x.walk.used s)) at (lists.full full [] (λ end. refl)) in
            let these : items_in s ≡ lists.items ++ (next-line.first ∷ next-line.others) = rw (full, next-line.are) at ahead in
            let over = leb-false (x.walk.at + length (line next-line.first)) (length x.walk.out) next-line.long in
            let same : length x.walk.out ≡ length d = wrote-long text ∙ long in
            let behind : length (lines (items_in s)) ≡ length (lines lists.items) + length (line next-line.first ++ lines next-line.others) =
            ap (λ (l : List Item). length (lines l)) these ∙ ap length (lines-append lists.items (next-line.first ∷ next-line.others)) ∙ length-append (lines lists.items) (line next-line.first ++ lines next-line.others) in
            let size : length (lines lists.items) ≤ length d - length header = omega (arith, text.room, begun.place, long) in
            let too_long : length d - length header < length (lines lists.items) + length (line next-line.first) = omega (arith, over, same, text.place, begun.place) in
            listed-items x lists.items false text
            (ap (λ (l : List Item). fitting (length d - length header) (map line l)) these ∙ fitting-cut (length d - length header) lists.items next-line.first next-line.others size too_long)
            (lt-leb (length (header ++ lines (items_in s))) (length d)
            (omega (arith, length-append header (lines (items_in s)), behind, length-append (line next-line.first) (lines next-line.others), too_long, begun.room)))

        go :
            (stop : Why) → x.stop ≡ stop
            → (◌≡◌ {A = Listed} (record { written = x.walk.at; fits = not (no_room stop) }) (listed_answer s d)) × (x.walk.out ≡ listed_over s d)
        go lacks_record at-end = all (λ full. absurd (false≢true (ap no_room (sym at-end ∙ full))))
        go lacks_room full = cut full
        go (refused_under number) at-end = all (λ full. absurd (false≢true (ap no_room (sym at-end ∙ full))))
        go state_refused at-end = all (λ full. absurd (false≢true (ap no_room (sym at-end ∙ full))))
