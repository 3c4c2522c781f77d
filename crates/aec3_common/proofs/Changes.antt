-- What a table is after its entries were changed, or made by a function of the index.
use Rattle.std.proofs.Common.{◌≡◌, ℕ, zero, suc, ◌+◌, ◌<◌, ◌≤◌, Bool, true, false, cond, ◌&&◌, ltb, leb, List, length, get_or, refl, ◌∙◌, arith, ltb-false, ltb-true, leb-false, leb-true, subst, add-zero, zero-add}
use denote.Param.Members.{Mut, Called}
use Rattle.std.specs.Array.{IsFromFnResult, IsFromFnResultFrom}
use Rattle.aec3_common.specs.Lists.{tab}
use Rattle.aec3_common.proofs.Choices.{and_left, and_right, cond-by}
use Rattle.aec3_common.proofs.Tables.{tab-is}
use Rattle.aec3_common.specs.Steps.{Changed}

pub changed-all :
    {T : Type 0} {R : ℕ → T → T → Type 0} {n : ℕ} {xs ys : List T} (d : T) (f : ℕ → T → T)
    → Changed R 0 n xs ys → length ys ≡ n → ((k : ℕ) (x y : T) → k < n → R k x y → y ≡ f k x)
    → ys ≡ tab n (λ k. f k (get_or xs k d))
changed-all {n = n} {xs = xs} {ys = ys} d f c long told =
    tab-is n d (λ k. f k (get_or xs k d)) ys long (λ k h. told k (get_or xs k d) (get_or ys k d) h (c.within k d (omega arith) h))

pub changed-between :
    {T : Type 0} {R : ℕ → T → T → Type 0} {n lo hi : ℕ} {xs ys : List T} (d : T) (f : ℕ → T → T)
    → Changed R lo hi xs ys → length ys ≡ n → ((k : ℕ) (x y : T) → k < hi → R k x y → y ≡ f k x)
    → ys ≡ tab n (λ k. cond (leb lo k && ltb k hi) (f k (get_or xs k d)) (get_or xs k d))
changed-between {n = n} {lo = lo} {hi = hi} {xs = xs} {ys = ys} d f c long told =
    tab-is n d (λ k. cond (leb lo k && ltb k hi) (f k (get_or xs k d)) (get_or xs k d)) ys long
    (λ k h.
    cond-by (leb lo k && ltb k hi) (get_or ys k d) (f k (get_or xs k d)) (get_or xs k d)
    (λ e.
    let above : lo ≤ k = leb-true lo k (and_left (leb lo k) (ltb k hi) e) in
    let under : k < hi = ltb-true k hi (and_right (leb lo k) (ltb k hi) e) in
    told k (get_or xs k d) (get_or ys k d) under (c.within k d above under))
    (beside k (leb lo k) refl))
  where
    beside : (k : ℕ) (t : Bool) → leb lo k ≡ t → t && ltb k hi ≡ false → get_or ys k d ≡ get_or xs k d
    beside k true e out = c.above k d (ltb-false k hi out)
    beside k false e out = c.below k d (omega (arith, leb-false lo k e))

pub changed-firsts :
    {T : Type 0} {R : ℕ → T → T → Type 0} {n count : ℕ} {xs ys : List T} (d : T) (f : ℕ → T → T)
    → Changed R 0 count xs ys → length ys ≡ n → ((k : ℕ) (x y : T) → k < count → R k x y → y ≡ f k x)
    → ys ≡ tab n (λ k. cond (ltb k count) (f k (get_or xs k d)) (get_or xs k d))
changed-firsts {n = n} {count = count} {xs = xs} {ys = ys} d f c long told =
    tab-is n d (λ k. cond (ltb k count) (f k (get_or xs k d)) (get_or xs k d)) ys long
    (λ k h.
    cond-by (ltb k count) (get_or ys k d) (f k (get_or xs k d)) (get_or xs k d)
    (λ e. let under : k < count = ltb-true k count e in told k (get_or xs k d) (get_or ys k d) under (c.within k d (omega arith) under))
    (λ e. c.above k d (ltb-false k count e)))

-- ---- a table that `array::from_fn` makes

module _ {F B : Type 0} (g : Mut F (ℕ × Unit {0}) B) (f : F) (made : ℕ → B) (told : (k : ℕ) (y : B) (q : F) → Called g f (k, tt) y q → (q ≡ f) × (y ≡ made k)) where
  -- the call at an index, from the state that the one before it left
  call :
      (i : ℕ) (p q : F) (y : B) → p ≡ f → Called g p (i, tt) y q → (q ≡ f) × (y ≡ made i)
  call i p q y e called = told i y q (subst (λ (s : F). Called g s (i, tt) y q) e called)

  made-from :
      (n i : ℕ) (p : F) (ys : List B) (d : B) → p ≡ f → IsFromFnResultFrom g p ys i n
      → (k : ℕ) → k < n → get_or ys (i + k) d ≡ made (i + k)
  made-from zero i p ys d e r k h = absurd (omega arith)
  made-from (suc n) i p ys d e r zero h = rw add-zero (r.2.1 d ∙ (call i p r.0 r.1 e r.3).1)
  made-from (suc n) i p ys d e r (suc k) h =
      let on : i + 1 + k ≡ i + suc k = omega arith in
      rw (← on) (made-from n (i + 1) r.0 ys d (call i p r.0 r.1 e r.3).0 r.4 k (omega arith))

  pub made-all : (n : ℕ) (ys : List B) (d : B) → IsFromFnResult g f ys n → ys ≡ tab n made
  made-all n ys d r = tab-is n d made ys r.long (λ k h. rw zero-add at (made-from n 0 f ys d refl r.each k h))
