-- What feeding a trace writes of its listing.
use mathlib.Core.Path.{◌≡◌, refl, sym, ap, ◌∙◌, subst}
use mathlib.Core.Bool.{Bool, true, false, cond}
use mathlib.Core.List.{List, [], ◌++◌, append_assoc}
use Prim.Native.Nat.{ℕ, ◌+◌, ◌≤◌, ◌<◌}
use native.Mathlib.Omega.{arith}
use borrow.Author.Tests.{leb-false}
use lib.ListN.{length, drop, length-drop}
use Rattle.std.specs.Prelude.{None}
use Rattle.encoding.specs.Text.{written, place_behind}
use Rattle.encoding.proofs.Writing.{Wrote, full as no-room, wrote_none, wrote_then, wrote-long}
use Rattle.streaming.specs.declared.transducer.Stop.{Stop as Streaming·Stop}
use Rattle.streaming.specs.declared.transducer.Stop.TheVariants.{WantsBytes, WantsRoom}
use Rattle.streaming.specs.Feeding.{text_left, Feeds}
use Rattle.trace_text.specs.Text.{Item, header, line_of, spaced, line, lines}
use Rattle.trace_text.proofs.Lines.{lines-append, line-short}
use Rattle.trace_state.specs.declared.Trace.{Trace}
use Rattle.trace_state.specs.Feed.{Stopped, fed, items_ahead, items_left, TooLong, GivesListing, Why, lacks_record, lacks_room, refused_under, state_refused}
use Rattle.trace_state.proofs.Staying.{Stays, stays-ok, stays-fed}
use Rattle.trace_state.proofs.Listed.{gives-listing}
use Rattle.trace.specs.declared.feeding.Fed.{Fed}
use Rattle.trace.specs.declared.lister.Lister.{Lister}
use Rattle.trace_state.specs.Feed.{why}
use Rattle.trace.specs.Answers.{Told, told, answer_of, wanted}
use Rattle.trace.specs.Lister.{longest_line, text_ahead}

-- what is sound of a lister
abbrev pub Sound : Lister → Type 0
Sound l = Stays l.trace

-- what feeding wants next says why it stopped
wants-bytes : (stop : Why) → wanted stop ≡ WantsBytes → stop ≡ lacks_record
wants-bytes lacks_record e = refl
wants-bytes lacks_room e = cc
wants-bytes (refused_under number) e = cc
wants-bytes state_refused e = cc

wants-room : (stop : Why) → wanted stop ≡ WantsRoom → stop ≡ lacks_room
wants-room lacks_record e = cc
wants-room lacks_room e = refl
wants-room (refused_under number) e = cc
wants-room state_refused e = cc

-- the lines that are left
lines-left :
    (stop : Why) (t : Trace) (s : List ℕ) → (stop ≡ state_refused → ⊥)
    → lines (items_left stop t s) ≡ text_left (wanted stop) (text_ahead (record { trace = t; header_due = false }) s)
unfolding items_left text_left lines
lines-left lacks_record t s passes = refl
lines-left lacks_room t s passes = refl
lines-left (refused_under number) t s passes = refl
lines-left state_refused t s passes = absurd (passes refl)

-- none are, where feeding has stopped at the end for want of bytes
none-left : (x : Stopped) (s : List ℕ) → x.stop ≡ lacks_record → items_left x.stop x.walk.state s ≡ [] → lines (items_ahead x.walk.state s) ≡ []
unfolding items_left lines
none-left x s stop none = ap lines (ap (λ (y : Why). items_left y x.walk.state s) (sym stop) ∙ none)

-- a table without room for the first line at its front is smaller than the longest
too-small : (x : Stopped) {is : List Item} → TooLong x.walk is → x.walk.at ≡ 0 → length x.walk.out < longest_line
too-small x long front =
    omega (arith, leb-false (x.walk.at + length (line long.first)) (length x.walk.out) long.long, line-short long.first)

module _ (l : Lister) (s : List ℕ) (ended : Bool) (d e : List ℕ) (at begin : ℕ) where
  abbrev x : Stopped
  x = fed l.trace s ended e begin

  abbrev head : List ℕ
  head = cond l.header_due header []

  -- behind what is written of the header
  pub fed-lines :
      Wrote d at head e begin → Stays l.trace → x.walk.used ≤ length s
      → Feeds longest_line text_ahead Sound l (record { trace = x.walk.state; header_due = false }) s ended d x.walk.out at (record { used = x.walk.used; at = x.walk.at; stop = wanted x.stop })
  unfolding GivesListing
  fed-lines begun stays within =
      let room : begin ≤ length e = omega (arith, begun.room, begun.place, wrote-long begun) in
      let lists = gives-listing l.trace s ended e begin (stays-ok stays) room in
      let lines-written : Wrote e begin (lines lists.items) x.walk.out x.walk.at = record { room = lists.fits; text = lists.text; place = lists.place } in
      let both = wrote_then begun lines-written in
      record {
        text = head ++ lines lists.items;
        fits = both.room;
        written = both.text;
        place = both.place;
        within = within;
        keeps = stays-fed l.trace s ended e begin stays;
        rest = λ more follows.
            ap (λ (is : List Item). head ++ lines is) (lists.rest more follows)
            ∙ ap (λ (t : List ℕ). head ++ t) (lines-append lists.items _ ∙ ap (λ (t : List ℕ). lines lists.items ++ t) (lines-left x.stop x.walk.state (drop x.walk.used s ++ more) lists.passes))
            ∙ sym (append_assoc head (lines lists.items) _);
        all = λ end stop.
            let none = wants-bytes x.stop stop in
            none-left x (drop x.walk.used s) none (lists.all end (λ full. let both-ways : lacks_record ≡ lacks_room = sym none ∙ full in cc));
        short = λ goes stop. omega (arith, lists.short goes (wants-bytes x.stop stop), length-drop x.walk.used s);
        full = λ stop front.
            omega (arith, too-small x (lists.full (wants-room x.stop stop) [] (λ end. refl)) front, wrote-long both);
      }

  -- the header finds no room
  pub no-room-fed :
      None ≡ place_behind d at header → e ≡ written d at header → l.header_due ≡ true → at ≤ length d → Stays l.trace
      → Feeds longest_line text_ahead Sound l l s ended d e at (record { used = 0; at = at; stop = WantsRoom })
  unfolding text_left written header line_of spaced
  no-room-fed place text due fits stays =
      let none = no-room d at header place in
      let nothing = wrote_none d at fits in
      record {
        text = [];
        fits = nothing.room;
        written = text ∙ rw none nothing.text;
        place = nothing.place;
        within = omega arith;
        keeps = stays;
        rest = λ more follows. refl;
        all = λ end stop. cc;
        short = λ goes stop. cc;
        full = λ stop front. omega (arith, leb-false (at + length header) (length d) none);
      }

  -- what the function answers
  pub fed-so :
      (l' : Lister) (f : Fed) {out : List ℕ} {stop : Streaming·Stop} → l'.trace ≡ l.trace → l'.header_due ≡ false → Wrote d at head e begin → Stays l.trace
      → told f ≡ answer_of (fed l'.trace s ended e begin) → out ≡ (fed l'.trace s ended e begin).walk.out → f.used ≤ length s → stop ≡ wanted (why f.stop)
      → Feeds longest_line text_ahead Sound l (record { trace = f.state; header_due = l'.header_due }) s ended d out at (record { used = f.used; at = f.at; stop = stop })
  fed-so l' f {out} {stop} trace-is written-is begun stays answer text within stop-is =
      let f-is : told f ≡ answer_of x = answer ∙ ap (λ (t : Trace). answer_of (fed t s ended e begin)) trace-is in
      let out-is : out ≡ x.walk.out = text ∙ ap (λ (t : Trace). (fed t s ended e begin).walk.out) trace-is in
      let bound : x.walk.used ≤ length s = omega (arith, ap (λ (g : Told). g.used) f-is, within) in
      let wants : stop ≡ wanted x.stop = stop-is ∙ ap (λ (g : Told). wanted g.stop) f-is in
      let all = fed-lines begun stays bound in
      subst (λ (hd : Bool). Feeds longest_line text_ahead Sound l (record { trace = f.state; header_due = hd }) s ended d out at (record { used = f.used; at = f.at; stop = stop })) (sym written-is)
      (subst (λ (st : Streaming·Stop). Feeds longest_line text_ahead Sound l (record { trace = f.state; header_due = false }) s ended d out at (record { used = f.used; at = f.at; stop = st })) (sym wants)
      (subst (λ (o : List ℕ). Feeds longest_line text_ahead Sound l (record { trace = f.state; header_due = false }) s ended d o at (record { used = f.used; at = f.at; stop = wanted x.stop })) (sym out-is)
      (subst (λ (g : Told). Feeds longest_line text_ahead Sound l (record { trace = g.state; header_due = false }) s ended d x.walk.out at (record { used = g.used; at = g.at; stop = wanted x.stop })) (sym f-is) all)))
