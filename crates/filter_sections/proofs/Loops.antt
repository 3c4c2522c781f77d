-- What the loops over sections have done at each turn.
use mathlib.Core.Path.{◌≡◌, refl, sym, ap, ◌∙◌, subst}
use mathlib.Core.Bool.{Bool, true, false, cond}
use mathlib.Core.List.{List, [], ◌∷◌}
use Prim.Native.Nat.{ℕ, zero, suc, ◌+◌, ◌-◌, ◌*◌, ◌/◌, ◌%◌, ◌≤◌, ◌<◌}
use native.Mathlib.Nat.{add-zero}
use native.Mathlib.Numerals.{add-one}
use native.Mathlib.Omega.{arith}
use borrow.Author.Tests.{eqb-true, eqb-false, eq-eqb, ne_eqb, ltb-true, ltb-false}
use lib.Dec.{ltb, eqb}
use lib.ListN.{length, get_or, take, drop, set, get_or-eq_default}
use lib.Seq.{get_or-set_same, get_or-take, get_or-drop, drop-drop, length-take-le}
use Rattle.aec3_common.specs.Steps.{Changed}
use Rattle.aec3_common.proofs.Tables.{length-tab, Stored, stored-none, stored_more}
use Rattle.filter_sections.specs.Sections.{takes, doubling, section_sizes, running_sums, padded}
use Rattle.filter_sections.specs.Steps.{Doubled}
use Rattle.filter_sections.proofs.Sizes.{padded-is, padded-at, takes-many, takes-below, doubling-goes-on, doubling-ends, length-doubling, evenly-at, length-sums, sums_first, sums_next}

-- so many sizes, of more
length_taken : (n blocks taken : ℕ) → taken < n → length (take taken (section_sizes n blocks)) ≡ taken
length_taken n blocks taken h = length-take-le taken (section_sizes n blocks) (rw length-doubling (omega arith))

-- ---- sizes that double

-- so many sections have taken their sizes, and the rest is still to be split
pub record Doubling (n blocks places : ℕ) (sizes : List ℕ) (taken left size : ℕ) : Type 0 where
  pub some : taken < n
  pub few : left ≤ blocks
  pub small : size ≤ blocks * 2 + 2
  pub stored : Stored places 0 0 places (λ k. get_or (section_sizes n blocks) k 0) (padded places []) sizes taken
  pub rest : drop taken (section_sizes n blocks) ≡ doubling size (n - taken) left

pub doubling-begun : (n blocks places : ℕ) → 0 < n → Doubling n blocks places (padded places []) 0 blocks 2
doubling-begun n blocks places h =
    record {
      some = h;
      few = omega arith;
      small = omega arith;
      stored = stored-none 0 0 places (λ k. get_or (section_sizes n blocks) k 0) (padded places []) (omega arith) (length-tab places (λ k. get_or [] k 0));
      rest = ap (λ (m : ℕ). doubling 2 m blocks) (omega arith);
    }

module _
    {n blocks places : ℕ} {sizes : List ℕ} {taken left size : ℕ}
    (d : Doubling n blocks places sizes taken left size)
  where
    -- the sizes from here on, where a section takes its size
    goes_on :
        takes size (n - taken) left ≡ true
        → drop taken (section_sizes n blocks) ≡ size ∷ doubling (size * 2) (n - taken - 1) (left - size)
    goes_on ok = d.rest ∙ doubling-goes-on size (n - taken) left ok

    pub doubling-more :
        takes size (n - taken) left ≡ true → n ≤ places
        → Doubling n blocks places (set sizes taken size) (taken + 1) (left - size) (size * 2)
    doubling-more ok fits =
        let all = section_sizes n blocks in
        let fewer : n - taken - 1 ≡ n - (taken + 1) = omega arith in
        record {
          some = omega (arith, takes-many size (n - taken) left ok);
          few = omega (arith, d.few);
          small = omega (arith, d.few, takes-below size (n - taken) left ok);
          stored =
              stored_more size d.stored (omega (arith, d.some)) (omega arith)
              (sym (ap (λ (l : List ℕ). get_or l 0 0) (goes_on ok)) ∙ get_or-drop taken all 0 0 ∙ ap (λ (k : ℕ). get_or all k 0) (add-zero taken));
          rest =
              sym (drop-drop 1 taken all)
              ∙ ap (λ (l : List ℕ). drop 1 l) (goes_on ok)
              ∙ ap (λ (m : ℕ). doubling (size * 2) m (left - size)) fewer;
        }

    pub doubling-over : takes size (n - taken) left ≡ false → Doubled n blocks places sizes taken left
    doubling-over stop =
        let all = section_sizes n blocks in
        let long = length_taken n blocks taken d.some in
        record {
          some = d.some;
          few = d.few;
          begun =
              padded-is places (take taken all) sizes d.stored.long
              (λ j h.
              let below : j < taken = rw long at h in
              d.stored.done j below (omega arith) ∙ sym (get_or-take taken all j 0 below))
              (λ j h. d.stored.ahead j (rw long at h) ∙ padded-at places [] j (omega arith));
          rest = d.rest ∙ doubling-ends size (n - taken) left (omega (arith, d.some)) stop;
        }

    -- the last section takes none
    pub doubling-last : n - 1 ≤ taken → Doubled n blocks places sizes (n - 1) left
    doubling-last over =
        let here : taken ≡ n - 1 = omega (arith, d.some) in
        let one : n - taken ≡ 1 = omega (arith, d.some) in
        subst (λ (t : ℕ). Doubled n blocks places sizes t left) here (doubling-over (rw one refl))

-- ---- sizes that share evenly

-- whether a section is the last, counted from the first and from where sharing began
same-last : (k taken n : ℕ) → taken ≤ k → k < n → eqb (suc (k - taken)) (n - taken) ≡ eqb (k + 1) n
same-last k taken n from to = go (eqb (k + 1) n) refl
  where
    go : (t : Bool) → eqb (k + 1) n ≡ t → eqb (suc (k - taken)) (n - taken) ≡ t
    go true e = eq-eqb (suc (k - taken)) (n - taken) (omega (arith, eqb-true (k + 1) n e))
    go false e = ne_eqb (suc (k - taken)) (n - taken) (λ q. eqb-false (k + 1) n e (omega arith))

module _ {n blocks places : ℕ} {sizes : List ℕ} {taken left : ℕ} (d : Doubled n blocks places sizes taken left) where
  -- the size at k, from where sharing began
  pub shared_at :
      (k : ℕ) → taken ≤ k → k < n
      → left / (n - taken) + cond (eqb (k + 1) n) (left % (n - taken)) 0 ≡ get_or (section_sizes n blocks) k 0
  shared_at k from to =
      let all = section_sizes n blocks in
      let on : taken + (k - taken) ≡ k = omega arith in
      rw (← same-last k taken n from to)
      (sym (evenly-at (n - taken) left (k - taken) (omega arith))
      ∙ sym (ap (λ (l : List ℕ). get_or l (k - taken) 0) d.rest)
      ∙ get_or-drop taken all (k - taken) 0
      ∙ ap (λ (j : ℕ). get_or all j 0) on)

  pub shared_long : length sizes ≡ places
  shared_long = ap length d.begun ∙ length-tab places (λ k. get_or (take taken (section_sizes n blocks)) k 0)

  -- what doubling left at a place
  left_at : (j : ℕ) → n ≤ places → get_or sizes j 0 ≡ get_or (take taken (section_sizes n blocks)) j 0
  left_at j fits =
      ap (λ (l : List ℕ). get_or l j 0) d.begun
      ∙ padded-at places (take taken (section_sizes n blocks)) j (rw (length_taken n blocks taken d.some) (omega (arith, d.some)))

  pub shared-all :
      {R : ℕ → ℕ → ℕ → Type 0} {r : List ℕ}
      → Changed R taken n sizes r → length r ≡ places → n ≤ places
      → ((k x y : ℕ) → taken ≤ k → k < n → R k x y → y ≡ get_or (section_sizes n blocks) k 0)
      → r ≡ padded places (section_sizes n blocks)
  shared-all {r = r} s long fits told = padded-is places (section_sizes n blocks) r long within behind
    where
      at : (j : ℕ) (t : Bool) → ltb j taken ≡ t → j < n → get_or r j 0 ≡ get_or (section_sizes n blocks) j 0
      at j true e h =
          let below : j < taken = ltb-true j taken e in
          s.below j 0 below ∙ left_at j fits ∙ get_or-take taken (section_sizes n blocks) j 0 below
      at j false e h =
          let from : taken ≤ j = ltb-false j taken e in told j (get_or sizes j 0) (get_or r j 0) from h (s.within j 0 from h)

      within : (j : ℕ) → j < length (section_sizes n blocks) → get_or r j 0 ≡ get_or (section_sizes n blocks) j 0
      within j h = at j (ltb j taken) refl (rw length-doubling at h)

      behind : (j : ℕ) → length (section_sizes n blocks) ≤ j → get_or r j 0 ≡ 0
      behind j h =
          let far : n ≤ j = rw length-doubling at h in
          s.above j 0 far
          ∙ left_at j fits
          ∙ get_or-eq_default (take taken (section_sizes n blocks)) 0 (rw (length_taken n blocks taken d.some) (omega (arith, d.some)))

-- ---- running sums

-- so many sums stand behind the first; the last one is known and small
pub record Summing (from places : ℕ) (sizes r : List ℕ) (k : ℕ) : Type 0 where
  pub to : k ≤ length sizes
  pub stored :
      Stored places 0 1 (length sizes + 1) (λ j. get_or (running_sums from sizes) j 0) (padded places (from ∷ [])) r (k + 1)
  pub last : get_or r k 0 ≡ get_or (running_sums from sizes) k 0
  pub small : get_or r k 0 < 4294967296 * (k + 1)

pub summing-begun : (from places : ℕ) (sizes : List ℕ) → from < 4294967296 → 0 < places → Summing from places sizes (padded places (from ∷ [])) 0
summing-begun from places sizes small some =
    let first : get_or (padded places (from ∷ [])) 0 0 ≡ from = padded-at places (from ∷ []) 0 (omega arith) in
    record {
      to = omega arith;
      stored = stored-none 0 1 (length sizes + 1) (λ j. get_or (running_sums from sizes) j 0) (padded places (from ∷ [])) (omega arith) (length-tab places (λ j. get_or (from ∷ []) j 0));
      last = first ∙ sym (sums_first from sizes);
      small = rw first (omega arith);
    }

module _ {from places : ℕ} {sizes r : List ℕ} {k : ℕ} (s : Summing from places sizes r k) where
  pub summing-more :
      k < length sizes → length sizes < places → get_or sizes k 0 < 4294967296
      → Summing from places sizes (set r (k + 1) (get_or r k 0 + get_or sizes k 0)) (k + 1)
  summing-more h fits size =
      let next : get_or r k 0 + get_or sizes k 0 ≡ get_or (running_sums from sizes) (k + 1) 0 =
      rw (s.last, add-one) (sym (sums_next from sizes k h)) in
      let here : get_or (set r (k + 1) (get_or r k 0 + get_or sizes k 0)) (k + 1) 0 ≡ get_or r k 0 + get_or sizes k 0 =
      get_or-set_same r (k + 1) (get_or r k 0 + get_or sizes k 0) 0 (rw s.stored.long (omega arith)) in
      record {
        to = omega arith;
        stored = stored_more (get_or r k 0 + get_or sizes k 0) s.stored (omega arith) (omega arith) next;
        last = here ∙ next;
        small = rw here (omega (arith, s.small));
      }

  pub summing-over : length sizes ≤ k → length sizes < places → r ≡ padded places (running_sums from sizes)
  summing-over over fits = padded-is places (running_sums from sizes) r s.stored.long within behind
    where
      count : length (running_sums from sizes) ≡ suc (length sizes)
      count = length-sums from sizes

      at : (j : ℕ) → j < suc (length sizes) → get_or r j 0 ≡ get_or (running_sums from sizes) j 0
      at zero h = s.stored.under 0 (omega arith) ∙ padded-at places (from ∷ []) 0 (omega arith) ∙ sym (sums_first from sizes)
      at (suc j) h = s.stored.done (suc j) (omega arith) (omega arith)

      within : (j : ℕ) → j < length (running_sums from sizes) → get_or r j 0 ≡ get_or (running_sums from sizes) j 0
      within j h = at j (rw count at h)

      behind : (j : ℕ) → length (running_sums from sizes) ≤ j → get_or r j 0 ≡ 0
      behind j h =
          let far : suc (length sizes) ≤ j = rw count at h in
          s.stored.ahead j (omega (arith, s.to))
          ∙ padded-at places (from ∷ []) j (omega arith)
          ∙ get_or-eq_default (from ∷ []) 0 {n = j} (omega arith)
