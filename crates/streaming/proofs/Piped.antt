-- What the loop keeps: the text that went out, and what is ahead of the bytes that are held and of those that are yet to be read, are the text of all.
use Rattle.std.proofs.Common.{◌≡◌, ℕ, ◌+◌, ◌-◌, ◌≤◌, List, [], ◌++◌, length, take, drop, refl, sym, ap, ◌∙◌, arith, Bool, true, false, append_assoc, append-nil}
use mathlib.Core.Bool.{false≢true}
use Rattle.std.specs.Prelude.{Option, Some, None, IfSome, Result, Ok, Err, IfErr}
use Rattle.std.specs.Io.KnownBytes.{Appends, Consumes, IsAtEnd, Keeps}
use Rattle.std.proofs.KnownBytes.{Appends-trans, Appends-nil}
use lib.ListN.{length-drop}
use lib.Seq.{length-take-le, drop-drop}
use Rattle.std.proofs.lemmas.List.{drop-take}
use Rattle.encoding.proofs.Writing.{wrote-front}
use Rattle.streaming.specs.declared.reading.Held.{Held}
use Rattle.streaming.specs.declared.transducer.Fed.{Fed}
use Rattle.streaming.specs.declared.transducer.Stop.{Stop}
use Rattle.streaming.specs.declared.transducer.Stop.TheVariants.{WantsBytes, WantsRoom, Done}
use Rattle.streaming.specs.Feeding.{text_left, Feeds, ReadOn, Begun}

-- Of a reader whose bytes are known: those that were taken and those that are left, and the text that a writer got. It begins the text of what was
-- taken, whatever follows; if the input has ended, nothing does.
pub record Piped (reader_now writer_then writer_now : Option (List ℕ)) (whole ahead : List ℕ → List ℕ) (held : List ℕ) (ended : Bool) (bytes : List ℕ) : Type 0 where
  pub taken : List ℕ
  pub left : List ℕ
  pub split : bytes ≡ taken ++ left
  pub reads : reader_now ≡ Some left
  pub none : ended ≡ true → left ≡ []
  pub text : List ℕ
  pub writes : Appends writer_then writer_now text
  pub same : (more : List ℕ) → (ended ≡ true → more ≡ []) → whole (taken ++ more) ≡ text ++ ahead (held ++ more)

abbrev pub Pipe : (reader_then reader_now writer_then writer_now : Option (List ℕ)) (whole ahead : List ℕ → List ℕ) (held : List ℕ) (ended : Bool) → Type 0
Pipe reader_then reader_now writer_then writer_now whole ahead held ended =
    (bytes : List ℕ) → reader_then ≡ Some bytes → Piped reader_now writer_then writer_now whole ahead held ended bytes

-- nothing is read and nothing written yet
pub pipe-begun : (reader writer : Option (List ℕ)) (whole ahead : List ℕ → List ℕ) → ((s : List ℕ) → ahead s ≡ whole s) → Pipe reader reader writer writer whole ahead [] false
pipe-begun reader writer whole ahead begins bytes is =
    record { taken = []; left = bytes; split = refl; reads = is; none = λ e. absurd (false≢true e); text = []; writes = Appends-nil writer; same = λ more follows. sym (begins more) }

kept-some : (o : Option (List ℕ)) (left : List ℕ) → Keeps (Some left) o → o ≡ Some left
kept-some None left keeps = absurd keeps
kept-some (Some x) left keeps = ap Some keeps

-- what holds of the bytes of a reader where they are known
if-known : (o : Option (List ℕ)) (P : List ℕ → Type 0) → ((bytes : List ℕ) → o ≡ Some bytes → P bytes) → IfSome o P
if-known None P h = tt
if-known (Some bytes) P h = h bytes refl

-- what holds of each failure of a kind, where a run fails
pub if-failed : {A E : Type 0} {P : Type 0} (read : E) (r : Result A E) → P → IfErr r (λ e. e ≡ read → P)
if-failed read (Ok a) h = tt
if-failed read (Err e) h = λ is. h

module _
    {reader_then reader_now writer_then writer_now : Option (List ℕ)} (writer_next : Option (List ℕ)) {whole : List ℕ → List ℕ} {held : List ℕ} {ended : Bool}
    {S : Type 0} {least : ℕ} {ahead : S → List ℕ → List ℕ} {sound : S → Type 0} {before after : S} {table new_table : List ℕ} {r : Fed}
    (pipe : Pipe reader_then reader_now writer_then writer_now whole (ahead before) held ended)
    (feeds : Feeds least ahead sound before after held ended table new_table 0 r) (out : Appends writer_now writer_next (take r.at new_table))
  where
    -- what went out is the text
    out-is : take r.at new_table ≡ feeds.text
    out-is = wrote-front {d = table} (record { room = feeds.fits; text = feeds.written; place = feeds.place })

    -- the bytes are fed, and the text went out
    pub fed-piped : Pipe reader_then reader_now writer_then writer_next whole (λ s. text_left r.stop (ahead after s)) (drop r.used held) ended
    fed-piped bytes is =
        let p = pipe bytes is in
        record {
          taken = p.taken;
          left = p.left;
          split = p.split;
          reads = p.reads;
          none = p.none;
          text = p.text ++ feeds.text;
          writes = Appends-trans writer_then writer_now writer_next p.text feeds.text p.writes (rw out-is at out);
          same = λ more follows.
              p.same more follows ∙ ap (λ (l : List ℕ). p.text ++ l) (feeds.rest more follows)
              ∙ sym (append_assoc p.text feeds.text (text_left r.stop (ahead after (drop r.used held ++ more))));
        }

    -- the text is whole
    pub whole-done : r.stop ≡ Done → IfSome reader_then (λ bytes. Appends writer_then writer_next (whole bytes))
    unfolding text_left
    whole-done done =
        if-known reader_then _ (λ bytes is.
        let p = fed-piped bytes is in
        let all : whole bytes ≡ p.text = ap whole p.split ∙ p.same p.left p.none ∙ ap (λ (stop : Stop). p.text ++ text_left stop (ahead after (drop r.used held ++ p.left))) done ∙ append-nil p.text in
        rw all p.writes)

    pub whole-ended : r.stop ≡ WantsBytes → ended ≡ true → IfSome reader_then (λ bytes. Appends writer_then writer_next (whole bytes))
    unfolding text_left
    whole-ended stop end =
        if-known reader_then _ (λ bytes is.
        let p = fed-piped bytes is in
        let nothing = feeds.all end stop in
        let all : whole bytes ≡ p.text =
        ap whole p.split ∙ p.same p.left p.none ∙ (λ i. p.text ++ text_left (stop i) (ahead after (drop r.used held ++ p.none end i)))
        ∙ ap (λ (s : List ℕ). p.text ++ ahead after s) (append-nil (drop r.used held)) ∙ ap (λ (l : List ℕ). p.text ++ l) nothing ∙ append-nil p.text in
        rw all p.writes)

    -- more room is wanted
    pub pipe-on : {now : List ℕ} → r.stop ≡ WantsRoom → now ≡ drop r.used held → Pipe reader_then reader_now writer_then writer_next whole (ahead after) now ended
    unfolding text_left
    pipe-on stop is-now bytes is =
        let p = fed-piped bytes is in
        record {
          taken = p.taken;
          left = p.left;
          split = p.split;
          reads = p.reads;
          none = p.none;
          text = p.text;
          writes = p.writes;
          same = λ more follows. p.same more follows ∙ (λ i. p.text ++ text_left (stop i) (ahead after (sym is-now i ++ more)));
        }

    -- more bytes are wanted, and read
    pub pipe-read :
        {now new_input : List ℕ} {reader_next : Option (List ℕ)} {h : Held} → r.stop ≡ WantsBytes → ended ≡ false → now ≡ drop r.used held → ReadOn reader_now reader_next now new_input h
        → Pipe reader_then reader_next writer_then writer_next whole (ahead after) (take h.to new_input) h.ended
    unfolding text_left
    pipe-read {now} {new_input} {reader_next} {h} stop goes is-now read bytes is =
        let p = fed-piped bytes is in
        go p reader_next (rw p.reads at read.taken) read.end
      where
        -- the text that is ahead of the bytes that are held now
        ahead-now :
            (more : List ℕ) → text_left r.stop (ahead after (drop r.used held ++ (read.got ++ more))) ≡ ahead after (take h.to new_input ++ more)
        ahead-now more =
            (λ i. text_left (stop i) (ahead after (sym is-now i ++ (read.got ++ more))))
            ∙ ap (ahead after) (sym (append_assoc now read.got more) ∙ ap (λ (l : List ℕ). l ++ more) (sym read.now))

        go :
            (p : Piped reader_now writer_then writer_next whole (λ s. text_left r.stop (ahead after s)) (drop r.used held) ended bytes)
            (next : Option (List ℕ)) → Consumes (Some p.left) next read.got → (h.ended ≡ true → IsAtEnd next)
            → Piped next writer_then writer_next whole (ahead after) (take h.to new_input) h.ended bytes
        go p None consumed end = absurd consumed
        go p (Some rest) consumed end =
            record {
              taken = p.taken ++ read.got;
              left = rest;
              split = p.split ∙ ap (λ (l : List ℕ). p.taken ++ l) consumed ∙ sym (append_assoc p.taken read.got rest);
              reads = refl;
              none = end;
              text = p.text;
              writes = p.writes;
              same = λ more follows.
                  ap whole (append_assoc p.taken read.got more)
                  ∙ p.same (read.got ++ more) (λ e. absurd (false≢true (sym goes ∙ e)))
                  ∙ ap (λ (l : List ℕ). p.text ++ l) (ahead-now more);
            }

    -- a read failed: what went out begins the text, whatever follows what was read
    pub begun-failed : r.stop ≡ WantsBytes → ended ≡ false → (reader_next : Option (List ℕ)) → Keeps reader_now reader_next → IfSome reader_then (Begun reader_next writer_then writer_next whole)
    begun-failed stop goes reader_next keeps =
        if-known reader_then _ (λ bytes is.
        let p = fed-piped bytes is in
        record {
          taken = p.taken;
          left = p.left;
          split = p.split;
          reads = kept-some reader_next p.left (rw p.reads at keeps);
          text = p.text;
          writes = p.writes;
          begins = λ more. (text_left r.stop (ahead after (drop r.used held ++ more)), p.same more (λ e. absurd (false≢true (sym goes ∙ e))));
        })

-- what is left of a part, once its first bytes are done with
pub part-of-part :
    (xs : List ℕ) (from to used : ℕ) → from ≤ to → to ≤ length xs → used ≤ length (take (to - from) (drop from xs))
    → (from + used ≤ to) × (take (to - (from + used)) (drop (from + used) xs) ≡ drop used (take (to - from) (drop from xs)))
part-of-part xs from to used ordered within less =
    let long : length (take (to - from) (drop from xs)) ≡ to - from = length-take-le (to - from) (drop from xs) (omega (arith, length-drop from xs)) in
    let fits : from + used ≤ to = omega (arith, long) in
    let size : to - from ≡ used + (to - (from + used)) = omega arith in
    (fits, sym (rw (size, drop-take used (to - (from + used)) (drop from xs), drop-drop used from xs)))
