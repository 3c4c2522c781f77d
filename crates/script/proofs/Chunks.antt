-- The numbers of a list of bytes, four bytes each, by their places.
use Rattle.std.proofs.Common.{◌≡◌, ◌∙◌, sym, ap, ℕ, zero, suc, ◌+◌, ◌*◌, ◌/◌, List, [], ◌∷◌, length, take, drop, map, min, refl, arith}
use Rattle.std.proofs.lemmas.List.{drop-drop}
use Rattle.aec3_common.specs.Lists.{tab}
use Rattle.encoding.specs.Bytes.{half_at, word_at}
use Rattle.script.specs.Lists.{past, nth_word, first_words, words_in}

-- a number is made of four bytes
pub word_of_four : (s : List ℕ) → word_at (take 4 s) 0 ≡ word_at s 0
unfolding half_at word_at
word_of_four [] = refl
word_of_four (a ∷ []) = refl
word_of_four (a ∷ b ∷ []) = refl
word_of_four (a ∷ b ∷ c ∷ []) = refl
word_of_four (a ∷ b ∷ c ∷ d ∷ s) = refl

pub past-drop : (k : ℕ) (s : List ℕ) → drop (4 * k) s ≡ past k s
past-drop zero s = refl
past-drop (suc k) s =
    let further : 4 * suc k ≡ 4 + 4 * k = omega arith in
    ap (λ n. drop n s) further ∙ sym (drop-drop (4 * k) 4 s) ∙ past-drop k (drop 4 s)

-- the first numbers, as far as a table takes them
firsts :
    {T : Type 0} (value : ℕ → T) (n m : ℕ) (s : List ℕ) (j : ℕ)
    → j ≡ min m n → tab j (λ k. value (nth_word k s)) ≡ take n (map value (first_words m s))
unfolding tab
firsts value zero m s zero e = refl
firsts value zero m s (suc j) e = absurd (omega (arith, e))
firsts value (suc n) zero s zero e = refl
firsts value (suc n) zero s (suc j) e = absurd (omega (arith, e))
firsts value (suc n) (suc m) s zero e = absurd (omega (arith, e))
firsts value (suc n) (suc m) s (suc j) e = ap (λ l. value (word_at s 0) ∷ l) (firsts value n m (drop 4 s) j (omega (arith, e)))

pub words_by_place :
    {T : Type 0} (value : ℕ → T) (n : ℕ) (s : List ℕ)
    → tab (min (length s / 4) n) (λ k. value (nth_word k s)) ≡ take n (map value (words_in s))
unfolding words_in
words_by_place value n s = firsts value n (length s / 4) s (min (length s / 4) n) refl
