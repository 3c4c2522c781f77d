-- A table that `array::from_fn` makes by a closure that changes nothing.
use Rattle.std.proofs.Common.{◌≡◌, ◌∙◌, ℕ, zero, suc, ◌+◌, ◌<◌, List, get_or, refl, arith, subst, add-zero, zero-add}
use denote.Param.Members.{Mut, Called}
use Rattle.std.specs.Array.{IsFromFnResult, IsFromFnResultFrom}

module _ {F B : Type 0} (g : Mut F (ℕ × Unit {0}) B) (f : F) (made : ℕ → B) (told : (k : ℕ) (y : B) (q : F) → Called g f (k, tt) y q → (q ≡ f) × (y ≡ made k)) where
  -- the call at an index, from the state that the one before it left
  call :
      (i : ℕ) (p q : F) (y : B) → p ≡ f → Called g p (i, tt) y q → (q ≡ f) × (y ≡ made i)
  call i p q y e called = told i y q (subst (λ (s : F). Called g s (i, tt) y q) e called)

  made-from :
      (n i : ℕ) (p : F) (ys : List B) (d : B) → p ≡ f → IsFromFnResultFrom g p ys i n
      → (k : ℕ) → k < n → get_or ys (i + k) d ≡ made (i + k)
  made-from zero i p ys d e r k h = absurd (omega arith)
  made-from (suc n) i p ys d e r zero h = rw add-zero (r.2.1 d ∙ (call i p r.0 r.1 e r.3).1)
  made-from (suc n) i p ys d e r (suc k) h =
      let on : i + 1 + k ≡ i + suc k = omega arith in
      rw (← on) (made-from n (i + 1) r.0 ys d (call i p r.0 r.1 e r.3).0 r.4 k (omega arith))

  -- its entries
  pub made-at : (n : ℕ) (ys : List B) (d : B) → IsFromFnResult g f ys n → (k : ℕ) → k < n → get_or ys k d ≡ made k
  made-at n ys d r k h = rw zero-add at (made-from n 0 f ys d refl r.each k h)
