-- How the steps of a round follow one another, and how many items a zip gives.
use Rattle.std.proofs.Common.{ℕ, suc, ◌+◌, ◌*◌, ◌/◌, ◌≤◌, ◌<◌, ◌≡◌, ◌∙◌, ◌⊎◌, inl, inr, true, Option, Some, option_map, List, length, take, drop, min, refl, ap, sym, subst, arith}
use denote.Ref.{Bor}
use Rattle.std.proofs.Math.Nat.{le-div_iff_mul-le}
use Rattle.std.specs.Iterator.Runs.{Run, IsZipRun, IsChunksExactRun}
use Rattle.speed.specs.Runs.{StepsTo}

pub steps-none : {E : Type 0} (R : E → ℕ → E → Type 0) (e : E) → StepsTo R 0 e e
unfolding StepsTo
steps-none R e = refl

pub steps-more : {E : Type 0} (R : E → ℕ → E → Type 0) (n m : ℕ) (e j e' : E) → StepsTo R n e j → R j n e' → m ≡ n + 1 → StepsTo R m e e'
unfolding StepsTo
steps-more R n m e j e' before step more =
    let same : suc n ≡ m = omega (arith, more) in
    subst (λ (k : ℕ). StepsTo R k e e') same (j, before, step)

-- a run has at most n items, and so many where it is whole
abbrev pub Gives : {S A : Type 0} {steps : S → Option A → S → Type 0} → Run steps → ℕ → Type 0
Gives p n = (p.len ≤ n) × (p.whole ≡ true → p.len ≡ n)

abbrev least : (l m n : ℕ) → l ≤ m → l ≤ n → (l ≡ m) ⊎ (l ≡ n) → l ≡ min m n
least l m n a b (inl e) = omega (arith, a, b, e)
least l m n a b (inr e) = omega (arith, a, b, e)

pub zip-gives :
    {S T U A B : Type 0} {steps : S → Option (A × B) → S → Type 0} {first : T → Option A → T → Type 0} {second : U → Option B → U → Type 0}
    (p : Run steps) (a : Run first) (b : Run second) (m n : ℕ) → IsZipRun p a b → Gives a m → Gives b n → Gives p (min m n)
zip-gives p a b m n z x y = (
  omega (arith, z.0.0, z.1.0, x.0, y.0),
  λ w. least p.len m n (omega (arith, z.0.0, x.0)) (omega (arith, z.1.0, y.0)) (ended (z.2 w)),
)
  where
    ended : (a.whole ≡ true) ⊎ (b.whole ≡ true) → (p.len ≡ m) ⊎ (p.len ≡ n)
    ended (inl w) = inl (sym (z.0.0) ∙ x.1 w)
    ended (inr w) = inr (sym (z.1.0) ∙ y.1 w)

-- a run gives the chunks of n elements of xs, and all of them where it is whole
abbrev pub Cuts : {S A : Type 0} {steps : S → Option (Bor (List A)) → S → Type 0} → Run steps → ℕ → List A → Type 0
Cuts p n xs = Gives p (length xs / n) × ((k : ℕ) (x : Bor (List _)) → p.at k ≡ Some x → x.now ≡ take n (drop (k * n) xs))

pub chunks-cut :
    {S A : Type 0} {steps : S → Option (Bor (List A)) → S → Type 0} (size : S → ℕ) (shown : S → List A) (p : Run steps) {s : S} {n : ℕ} {xs : List A}
    → p.from ≡ s → size s ≡ n → shown s ≡ xs → 0 < n
    → (0 < size p.from → IsChunksExactRun p (size p.from) (shown p.from)) → Cuts p n xs
chunks-cut size shown p {n = n} {xs = xs} from same all some run =
    let sized : size p.from ≡ n = ap size from ∙ same in
    let listed : shown p.from ≡ xs = ap shown from ∙ all in
    let at = run (rw sized some) in
    let whole : Gives p (length (shown p.from) / size p.from) = ((le-div_iff_mul-le {x = p.len} {y = length (shown p.from)} (rw sized some)).1 at.0, at.1) in
    let each : (k : ℕ) (x : Bor (List _)) → p.at k ≡ Some x → x.now ≡ take (size p.from) (drop (k * size p.from) (shown p.from)) =
    λ k x is. (rw is at (at.2 k)).2.0 in
    (rw (listed, sized) at whole, λ k x is. rw (listed, sized) at (each k x is))

-- the items at place k of two runs that are zipped
pub zip-at :
    {S T U A B : Type 0} {steps : S → Option (A × B) → S → Type 0} {first : T → Option A → T → Type 0} {second : U → Option B → U → Type 0}
    (p : Run steps) (a : Run first) (b : Run second) → IsZipRun p a b → (k : ℕ) (x : A × B) → p.at k ≡ Some x → (a.at k ≡ Some x.0) × (b.at k ≡ Some x.1)
zip-at p a b z k x is =
    (z.0.2 k ∙ ap (option_map (λ (y : _). y.0)) is, z.1.2 k ∙ ap (option_map (λ (y : _). y.1)) is)
