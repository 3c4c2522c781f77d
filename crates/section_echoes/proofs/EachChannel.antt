-- The loop over channels that finds their active sections.
use mathlib.Core.Path.{◌≡◌, refl, ap, ◌∙◌}
use mathlib.Core.Bool.{cond}
use mathlib.Core.List.{List, []}
use Prim.Native.Nat.{ℕ, zero, suc, ◌+◌, ◌-◌, ◌*◌, ◌/◌, ◌≤◌, ◌<◌}
use native.Mathlib.Omega.{arith}
use borrow.Author.Tests.{lt-ltb}
use lib.Dec.{ltb}
use lib.Ieee.{Float, nan}
use lib.ListN.{length, length-drop, get_or, take, drop, set}
use Rattle.std.proofs.lemmas.List.{drop-drop}
use Rattle.aec3_common.specs.Binary32.{zero32}
use Rattle.aec3_common.specs.Lists.{tab}
use Rattle.aec3_common.proofs.Choices.{cond-by}
use Rattle.aec3_common.proofs.Tables.{length-tab, get_or-tab, tab-same, Stored, stored-none, stored_more, stored-firsts}
use Rattle.section_echoes.specs.declared.RenderRing.{RenderRing}
use Rattle.section_echoes.specs.Echoes.{render_sum, fewer, section_begin, section_blocks, section_render, active_section, active_sections}
use Rattle.section_echoes.specs.Packed.{total, responses_of}
use Rattle.section_echoes.specs.Steps.{bands, first_sections, render_sums, sum_at, echo_sums, all_active}
use Rattle.section_echoes.proofs.Channel.{active-lent, active-sections-are}
use Rattle.section_echoes.proofs.Packed.{total-more, packed-end}

-- no active section in any channel yet
abbrev pub none_active : List (List ℕ)
none_active = tab 4 (λ ch. bands (λ k. 0))

-- no render sum in any section
abbrev pub no_render : List (List Float)
no_render = tab 8 (λ s. bands (λ k. zero32))

-- a section without responses has no blocks
none-fewer : (end begin : ℕ) → 0 ≡ fewer end 0 - begin
none-fewer zero begin = omega arith
none-fewer (suc end) begin = rw (lt-ltb 0 (suc end) (omega arith)) (omega arith)

-- with no response no block is walked, and every render sum is zero
pub no-render :
    (ring : RenderRing) (spectra : List Float) (headroom : ℕ) (boundaries : List ℕ) (sections : ℕ)
    → no_render ≡ render_sums ring spectra headroom boundaries sections 0
unfolding render_sums first_sections section_render render_sum
no-render ring spectra headroom boundaries sections =
    tab-same 8 [] _ _
    (λ s b.
    tab-same 65 nan _ _
    (λ k h.
    let no_block : 0 ≡ section_blocks boundaries 0 s = none-fewer (get_or boundaries (s + 1) 0) (get_or boundaries s 0) in
    cond-by (ltb s sections) zero32 (render_sum ring spectra headroom (section_begin boundaries s) (section_blocks boundaries 0 s) k) zero32
    (λ e. ap (λ (n : ℕ). render_sum ring spectra headroom (section_begin boundaries s) n k) no_block)
    (λ e. refl)))

module _ (ring : RenderRing) (spectra : List Float) (headroom : ℕ) (boundaries : List ℕ) (sections : ℕ) (counts : List ℕ) (responses : List Float) where
  -- the active sections of a channel
  abbrev pub active_at : ℕ → List ℕ
  active_at ch = active_sections ring spectra headroom boundaries sections (get_or counts ch 0) (responses_of counts responses ch)

  -- The loop is at a channel: the responses that are left begin with the channel's, it is known for how many responses the render sums
  -- were made, and the channels before have their active sections.
  pub record Going (r : List (List ℕ)) (render : List (List Float)) (made_for : ℕ) (rest : List Float) (ch : ℕ) : Type 0 where
    pub left : rest ≡ drop (total (take ch counts) * 65) responses
    pub sums : render ≡ render_sums ring spectra headroom boundaries sections made_for
    pub stored : Stored 4 [] 0 (length counts) active_at none_active r ch

  pub going-begun : Going none_active no_render 0 responses 0
  unfolding total
  going-begun =
      record {
        left = refl;
        sums = no-render ring spectra headroom boundaries sections;
        stored = stored-none [] 0 (length counts) active_at none_active (omega arith) (length-tab 4 (λ ch. bands (λ k. 0)));
      }

module _
    {ring : RenderRing} {spectra : List Float} {headroom : ℕ} {boundaries : List ℕ} {sections : ℕ} {counts : List ℕ} {responses : List Float}
    {r : List (List ℕ)} {render : List (List Float)} {made_for : ℕ} {rest : List Float} {ch : ℕ}
    (g : Going ring spectra headroom boundaries sections counts responses r render made_for rest ch)
  where
    -- the part that is lent is the channel's
    pub going-part : take (get_or counts ch 0 * 65) rest ≡ responses_of counts responses ch
    unfolding responses_of
    going-part = ap (take (get_or counts ch 0 * 65)) g.left

    -- what is left behind it begins with the next channel's
    going-left : ch < length counts → drop (get_or counts ch 0 * 65) rest ≡ drop (total (take (ch + 1) counts) * 65) responses
    going-left h =
        let from : ℕ = total (take ch counts) * 65 in
        let own : ℕ = get_or counts ch 0 * 65 in
        let behind : from + own ≡ total (take (ch + 1) counts) * 65 = omega (arith, total-more counts ch h) in
        ap (drop own) g.left ∙ drop-drop own from responses ∙ ap (λ (n : ℕ). drop n responses) behind

    -- as many responses are left as the channel has
    pub going-enough : length responses ≡ total counts * 65 → ch < length counts → get_or counts ch 0 * 65 ≤ length rest
    going-enough long h = rw (g.left, length-drop (total (take ch counts) * 65) responses) (omega (arith, packed-end counts responses ch long h))

    pub going_more :
        {next sums : List (List Float)} {active : List ℕ} {own later : List Float} → (1 ≤ sections) × (sections ≤ 8)
        → next ≡ render_sums ring spectra headroom boundaries sections (get_or counts ch 0)
        → own ≡ take (get_or counts ch 0 * 65) rest → later ≡ drop (get_or counts ch 0 * 65) rest
        → length own ≡ get_or counts ch 0 * 65
        → sums ≡ echo_sums next own boundaries sections (length own / 65) → length sums ≡ 8
        → active ≡ bands (λ k. active_section (length (take sections sums)) (λ s. sum_at (take sections sums) s k))
        → ch < length counts → length counts ≤ 4
        → Going ring spectra headroom boundaries sections counts responses (set r ch active) next (get_or counts ch 0) later (ch + 1)
    going_more {next = next} {sums = sums} {active = active} {own = lent} (some, all) made first behind long summed eight found h few =
        let count : ℕ = get_or counts ch 0 in
        let own : List Float = responses_of counts responses ch in
        let counted : length lent / 65 ≡ count = omega (arith, long) in
        let echoes : sums ≡ echo_sums (render_sums ring spectra headroom boundaries sections count) own boundaries sections count =
        summed ∙ (λ i. echo_sums (made i) ((first ∙ going-part) i) boundaries sections (counted i)) in
        record {
          left = behind ∙ going-left h;
          sums = made;
          stored =
              stored_more active g.stored h few
              (found
              ∙ active-lent sections sums some (omega (arith, eight))
              ∙ ap (λ (x : List (List Float)). bands (λ k. active_section sections (λ s. sum_at x s k))) echoes
              ∙ active-sections-are ring spectra headroom boundaries sections count own some all);
        }

    pub going-over : length counts ≤ ch → r ≡ all_active ring spectra headroom boundaries sections counts responses
    unfolding all_active
    going-over h =
        stored-firsts g.stored h
        ∙ tab-same 4 [] _ _
        (λ j b. ap (λ (l : List ℕ). cond (ltb j (length counts)) (active_at ring spectra headroom boundaries sections counts responses j) l) (get_or-tab 4 (λ i. bands (λ k. 0)) j [] b))
