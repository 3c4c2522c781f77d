-- A block that is taken: the inner update is lent its lists, as they stand in a table, and leaves the estimator as the block does.
use mathlib.Core.Path.{◌≡◌, refl, sym, ap, ◌∙◌, subst}
use mathlib.Core.Bool.{Bool}
use mathlib.Core.List.{List}
use Prim.Native.Nat.{ℕ, ◌+◌, ◌-◌, ◌*◌, ◌≤◌}
use native.Mathlib.Omega.{arith}
use lib.Ieee.{Float}
use lib.ListN.{take, drop}
use Rattle.erle_estimator.specs.declared.ErleEstimator.{ErleEstimator}
use Rattle.erle_estimator.specs.Erle.{Update, Powers, powers_of, after_block, after_accepted}
use Rattle.erle_estimator.specs.Steps.{BlockFits}
use Rattle.erle_estimator.proofs.Sections.{sections-alone}
use Rattle.trace_records.specs.Records.{block_in}
use Rattle.trace_records.specs.Steps.{flag_table, BlockRead}
use Rattle.trace_records.proofs.Blocks.{length-flags, length-render, length-capture, length-residual, flags-front, read-render, read-capture, read-residual}
use Rattle.trace_state.specs.Apply.{channels_of, update_in}
use Rattle.trace_blocks.specs.Steps.{Ready}

module _ (e : ErleEstimator) (r : List ℕ) (ready : Ready e) where
  abbrev n : ℕ
  n = channels_of e

  abbrev u : Update
  u = update_in n (block_in n r)

  module _ {flags : List Bool} {values : List Float} {refused : ℕ} (table : flags ≡ flag_table n r) (read : BlockRead n r values refused) where
    -- as it is lent
    abbrev lent : Powers
    lent =
        record {
          render = take 65 values;
          capture = take (65 + 65 * n - 65) (drop 65 values);
          residual = take (65 + 65 * n + 65 * n - (65 + 65 * n)) (drop (65 + 65 * n) values);
          converged = take n flags;
        }

    lent-is : lent ≡ powers_of u
    unfolding update_in block_in
    lent-is =
        let capture : 65 + 65 * n - 65 ≡ 65 * n = omega arith in
        let residual : 65 + 65 * n + 65 * n - (65 + 65 * n) ≡ 65 * n = omega arith in
        λ i. record {
          render = read-render read i;
          capture = (ap (λ (k : ℕ). take k (drop 65 values)) capture ∙ read-capture read) i;
          residual = (ap (λ (k : ℕ). take k (drop (65 + 65 * n) values)) residual ∙ read-residual read) i;
          converged = (ap (take n) table ∙ flags-front n r ready.few) i;
        }

    block-fits : BlockFits e n (powers_of u)
    unfolding update_in block_in
    block-fits =
        record {
          count = refl;
          few = ready.few;
          flags = length-flags n r;
          render = length-render n r;
          capture = length-capture n r;
          residual = length-residual n r;
        }

    pub lent-fits : BlockFits e n lent
    lent-fits = subst (BlockFits e n) (sym lent-is) block-fits

    -- with one section no active section is looked at
    pub state-after :
        {after : ErleEstimator} (active : ℕ → List ℕ) → 1 ≤ n → after ≡ after_block e lent active → after ≡ after_accepted e u
    unfolding after_accepted
    state-after active some is =
        is ∙ ap (λ (p : Powers). after_block e p active) lent-is
        ∙ sections-alone e (powers_of u) (λ many ch h. absurd (omega (arith, ready.section some)))
