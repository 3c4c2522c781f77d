-- Lists by their entries, and loops that store one entry a turn.
use Rattle.std.proofs.Common.{◌≡◌, ℕ, zero, suc, ◌+◌, ◌<◌, ◌≤◌, Bool, true, false, cond, ◌&&◌, ltb, leb, List, map, length, get_or, set, sym, refl, ap, ◌∙◌, subst, le_refl, le_of_suc-le-suc, not-suc-le-zero, arith, length-set, get_or-set_other, get_or-set_same, ext_get_or, below_more, ltb-false, ltb-true, lt-ltb, leb-false, leb-true}
use lib.ListN.{length-map}
use Rattle.aec3_common.specs.Lists.{tab}
use Rattle.aec3_common.specs.Spectra.{inner_band}
use Rattle.aec3_common.proofs.Choices.{and_left, and_right, cond-by}

pub length-tab : {A : Type 0} (n : ℕ) (f : ℕ → A) → length (tab n f) ≡ n
unfolding tab
length-tab zero f = refl
length-tab (suc n) f = ap suc (length-tab n (λ k. f (suc k)))

pub get_or-tab : {A : Type 0} (n : ℕ) (f : ℕ → A) (k : ℕ) (d : A) → k < n → get_or (tab n f) k d ≡ f k
unfolding tab
get_or-tab zero f k d h = absurd (not-suc-le-zero h)
get_or-tab (suc n) f zero d h = refl
get_or-tab (suc n) f (suc k) d h = get_or-tab n (λ j. f (suc j)) k d (le_of_suc-le-suc h)

-- one of the first m entries, where only those come from f
pub get_or-tab-first :
    {A : Type 0} (n m : ℕ) (f g : ℕ → A) (k : ℕ) (d : A)
    → m ≤ n → k < m → get_or (tab n (λ j. cond (ltb j m) (f j) (g j))) k d ≡ f k
get_or-tab-first n m f g k d few h = get_or-tab n (λ j. cond (ltb j m) (f j) (g j)) k d (omega arith) ∙ rw (lt-ltb k m h)

-- a list of n entries whose k-th is f k is tab n f
pub tab-is :
    {A : Type 0} (n : ℕ) (d : A) (f : ℕ → A) (xs : List A)
    → length xs ≡ n → ((k : ℕ) → k < n → get_or xs k d ≡ f k) → xs ≡ tab n f
tab-is n d f xs long at =
    ext_get_or d xs (tab n f) (long ∙ sym (length-tab n f))
    (λ k b. let h : k < n = subst (λ (m : ℕ). k < m) long b in at k h ∙ sym (get_or-tab n f k d h))

-- tables with the same entries are the same
pub tab-same : {A : Type 0} (n : ℕ) (d : A) (f g : ℕ → A) → ((k : ℕ) → k < n → f k ≡ g k) → tab n f ≡ tab n g
tab-same n d f g same = tab-is n d g (tab n f) (length-tab n f) (λ k b. get_or-tab n f k d b ∙ same k b)

-- a list of records is as long as the list of what they hold, which is what is known of an array of them
pub length-mapped : (A B : Type 0) (f : A → B) (l : List A) (n : ℕ) → length (map f l) ≡ n → length l ≡ n
length-mapped A B f l n e = sym (length-map l f) ∙ e

-- What a loop has done at k that stores f k at each k from lo to below hi: r has n entries, those of f from lo to below
-- k, and those of xs elsewhere.
pub record Stored {A : Type 0} (n : ℕ) (d : A) (lo hi : ℕ) (f : ℕ → A) (xs r : List A) (k : ℕ) : Type 0 where
  pub from : lo ≤ k
  pub to : k ≤ hi
  pub long : length r ≡ n
  pub done : (j : ℕ) → j < k → lo ≤ j → get_or r j d ≡ f j
  pub under : (j : ℕ) → j < lo → get_or r j d ≡ get_or xs j d
  pub ahead : (j : ℕ) → k ≤ j → get_or r j d ≡ get_or xs j d

pub stored-none :
    {A : Type 0} {n : ℕ} (d : A) (lo hi : ℕ) (f : ℕ → A) (xs : List A)
    → lo ≤ hi → length xs ≡ n → Stored n d lo hi f xs xs lo
stored-none d lo hi f xs h l =
    record {
      from = le_refl lo;
      to = h;
      long = l;
      done = λ j b c. absurd (omega arith);
      under = λ j b. refl;
      ahead = λ j b. refl;
    }

pub stored_more :
    {A : Type 0} {n : ℕ} {d : A} {lo hi : ℕ} {f : ℕ → A} {xs r : List A} {k : ℕ} (v : A)
    → Stored n d lo hi f xs r k → k < hi → hi ≤ n → v ≡ f k → Stored n d lo hi f xs (set r k v) (k + 1)
stored_more {d = d} {lo = lo} {f = f} {xs = xs} {r = r} {k = k} v s h b e =
    record {
      from = omega arith;
      to = omega arith;
      long = length-set r k v ∙ s.long;
      done =
          below_more (λ j. lo ≤ j → get_or (set r k v) j d ≡ f j) k
          (λ j n m. get_or-set_other r k j v d (λ q. omega arith) ∙ s.done j n m)
          (λ m. get_or-set_same r k v d (omega arith) ∙ e);
      under = λ j n. get_or-set_other r k j v d (λ q. omega arith) ∙ s.under j n;
      ahead = λ j n. get_or-set_other r k j v d (λ q. omega arith) ∙ s.ahead j (omega arith);
    }

-- the loop over all n has ended
pub stored-all :
    {A : Type 0} {n : ℕ} {d : A} {f : ℕ → A} {xs r : List A} {k : ℕ}
    → Stored n d 0 n f xs r k → n ≤ k → r ≡ tab n f
stored-all {n = n} {d = d} {f = f} {r = r} s h = tab-is n d f r s.long (λ j b. s.done j (omega arith) (omega arith))

-- the loop over the first m of n has ended
pub stored-firsts :
    {A : Type 0} {n : ℕ} {d : A} {m : ℕ} {f : ℕ → A} {xs r : List A} {k : ℕ}
    → Stored n d 0 m f xs r k → m ≤ k → r ≡ tab n (λ j. cond (ltb j m) (f j) (get_or xs j d))
stored-firsts {n = n} {d = d} {m = m} {f = f} {xs = xs} {r = r} s h =
    tab-is n d (λ j. cond (ltb j m) (f j) (get_or xs j d)) r s.long
    (λ j b.
    cond-by (ltb j m) (get_or r j d) (f j) (get_or xs j d)
    (λ q. s.done j (omega (arith, ltb-true j m q)) (omega arith))
    (λ q. s.ahead j (omega (arith, s.to, ltb-false j m q))))

-- a loop in place has not yet stored at k
pub stored-not-yet :
    {A : Type 0} {n : ℕ} {d : A} {lo hi : ℕ} {f : ℕ → A} {xs r : List A} {k : ℕ}
    → Stored n d lo hi f xs r k → get_or r k d ≡ get_or xs k d
stored-not-yet {k = k} s = s.ahead k (le_refl k)

-- the loop over the entries from lo to below hi has ended
pub stored-between :
    {A : Type 0} {n : ℕ} {d : A} {lo hi : ℕ} {f : ℕ → A} {xs r : List A} {k : ℕ}
    → Stored n d lo hi f xs r k → hi ≤ k → r ≡ tab n (λ j. cond (leb lo j && ltb j hi) (f j) (get_or xs j d))
stored-between {n = n} {d = d} {lo = lo} {hi = hi} {f = f} {xs = xs} {r = r} s h =
    tab-is n d (λ j. cond (leb lo j && ltb j hi) (f j) (get_or xs j d)) r s.long
    (λ j b. cond-by (leb lo j && ltb j hi) (get_or r j d) (f j) (get_or xs j d) (within j) (beside j (leb lo j) refl))
  where
    within : (j : ℕ) → leb lo j && ltb j hi ≡ true → get_or r j d ≡ f j
    within j e =
        s.done j
        (omega (arith, ltb-true j hi (and_right (leb lo j) (ltb j hi) e)))
        (omega (arith, leb-true lo j (and_left (leb lo j) (ltb j hi) e)))

    beside : (j : ℕ) (t : Bool) → leb lo j ≡ t → t && ltb j hi ≡ false → get_or r j d ≡ get_or xs j d
    beside j true e out = s.ahead j (omega (arith, s.to, ltb-false j hi out))
    beside j false e out = s.under j (omega (arith, leb-false lo j e))

-- the loop over bands 1 to 63 has ended
pub stored-inner :
    {A : Type 0} {d : A} {f : ℕ → A} {xs r : List A} {k : ℕ}
    → Stored 65 d 1 64 f xs r k → 64 ≤ k → r ≡ tab 65 (λ j. cond (inner_band j) (f j) (get_or xs j d))
stored-inner s h = stored-between s h
