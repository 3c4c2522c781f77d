-- The sections of an adaptive filter: their sizes and boundaries in blocks, for any length and any number of sections.
use Rattle.std.specs.Prelude.{Bool, cond, ◌&&◌, List, [], ◌∷◌, ℕ, zero, suc, ◌+◌, ◌-◌, ◌*◌, ◌/◌, ◌%◌, ltb, eqb, get_or, Result}
use Rattle.aec3_common.specs.Answers.{answer_case}
use Rattle.aec3_common.specs.Lists.{tab}
use Rattle.aec3_common.specs.Refusal.{unless, accepted, bad_sections}
use Rattle.aec3_common.specs.Settings.{headroom_blocks, max_sections, sections_ok}

-- n sections share the blocks evenly: each has the quotient, and the last the remainder too
unfoldable pub evenly : ℕ → ℕ → List ℕ
evenly n blocks = tab n (λ k. blocks / n + cond (eqb (suc k) n) (blocks % n) 0)

-- whether a section takes size blocks: it is not the last, and the blocks are more than size for each section left
abbrev pub takes : ℕ → ℕ → ℕ → Bool
takes size n blocks = ltb 1 n && ltb (size * n) blocks

-- the sizes of n sections: they double from size for as long as sections take them, then share the rest evenly
unfoldable pub doubling : ℕ → ℕ → ℕ → List ℕ
doubling size zero blocks = []
doubling size (suc n) blocks =
    cond (takes size (suc n) blocks) (size ∷ doubling (size * 2) n (blocks - size)) (evenly (suc n) blocks)

-- section sizes double from 2
abbrev pub section_sizes : ℕ → ℕ → List ℕ
section_sizes n blocks = doubling 2 n blocks

-- from, and after it the running sums
unfoldable pub running_sums : ℕ → List ℕ → List ℕ
running_sums from [] = from ∷ []
running_sums from (x ∷ xs) = from ∷ running_sums (from + x) xs

-- The boundaries of n sections of a filter of so many blocks: the running sums of the sizes from the headroom; with one
-- section 0 and the filter length.
unfoldable pub boundaries : ℕ → ℕ → ℕ → List ℕ
boundaries n blocks headroom =
    cond (eqb n 1) (0 ∷ blocks ∷ []) (running_sums headroom (section_sizes n (blocks - headroom)))

-- a list in a table of so many places, zeros behind it
abbrev pub padded : ℕ → List ℕ → List ℕ
padded n xs = tab n (λ k. get_or xs k 0)

-- The answer: the boundaries, with zeros behind them, or the refusal under 3.
unfoldable pub sections_answer : ℕ → ℕ → ℕ → Result (List ℕ) ℕ
sections_answer n blocks samples =
    answer_case (unless (sections_ok n blocks samples) bad_sections accepted)
    (padded (suc max_sections) (boundaries n blocks (headroom_blocks samples)))
