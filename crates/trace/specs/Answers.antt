-- What the functions answer, and what the list holds then that they write over.
use Rattle.std.specs.Prelude.{Bool, List, ℕ, leb, length}
use Rattle.encoding.specs.Text.{laid}
use Rattle.streaming.specs.declared.transducer.Stop.{Stop as Streaming·Stop}
use Rattle.streaming.specs.declared.transducer.Stop.TheVariants.{WantsBytes, WantsRoom, Done}
use Rattle.trace_state.specs.declared.Trace.{Trace}
use Rattle.trace_state.specs.Listing.{listing, fitting_listing}
use Rattle.trace_state.specs.Feed.{Why, lacks_record, lacks_room, refused_under, state_refused, why}
use Rattle.trace_state.specs.Feed.{Stopped, fed}
use Rattle.trace.specs.declared.feeding.Fed.{Fed}
use Rattle.trace.specs.declared.listing.Listed.{Listed}

-- ---- feeding

-- where feeding ended, and why, without what is written
pub record Told : Type 0 where
  pub state : Trace
  pub used : ℕ
  pub at : ℕ
  pub stop : Why

-- as the code answers it
abbrev pub told : Fed → Told
told f = record { state = f.state; used = f.used; at = f.at; stop = why f.stop }

abbrev pub answer_of : Stopped → Told
answer_of e = record { state = e.walk.state; used = e.walk.used; at = e.walk.at; stop = e.stop }

unfoldable pub feed_answer : Trace → (s : List ℕ) → (ended : Bool) → (d : List ℕ) → ℕ → Told
feed_answer t s ended d at = answer_of (fed t s ended d at)

unfoldable pub feed_over : Trace → (s : List ℕ) → (ended : Bool) → (d : List ℕ) → ℕ → List ℕ
feed_over t s ended d at = (fed t s ended d at).walk.out

-- ---- a whole listing

-- Whether there is room for all of it, and how much is written.
unfoldable pub listed_answer : List ℕ → List ℕ → Listed
listed_answer s d =
    record { fits = leb (length (listing s)) (length d); written = length (fitting_listing s (length d)) }

unfoldable pub listed_over : List ℕ → List ℕ → List ℕ
listed_over s d = laid d 0 (fitting_listing s (length d))

-- ---- fed by the loop of `streaming`

-- what feeding wants next: after a refusal, nothing
abbrev pub wanted : Why → Streaming·Stop
wanted lacks_record = WantsBytes
wanted lacks_room = WantsRoom
wanted (refused_under number) = Done
wanted state_refused = Done
