-- Sums that begin anew: as if the held ones were 0 and no low energy were noted.
use mathlib.Core.Path.{◌≡◌, refl}
use mathlib.Core.Bool.{Bool, true, false, cond}
use mathlib.Core.List.{List}
use lib.Ieee.{Float, nan}
use Rattle.aec3_common.specs.Binary32.{zero32}
use Rattle.aec3_common.specs.Lists.{tab}
use Rattle.aec3_common.proofs.Tables.{get_or-tab, tab-same}
use Rattle.erle_bands.specs.Band.{sum_with, low_with}
use Rattle.erle_bands.specs.Steps.{sums_with, lows_with}

pub sums-begun : (t : Bool) (held powers : List Float) → sums_with false (cond t (tab 65 (λ k. zero32)) held) powers ≡ sums_with t held powers
unfolding sums_with sum_with
sums-begun true held powers = tab-same 65 nan _ _ (λ k h. rw (get_or-tab 65 (λ j. zero32) k nan h) refl)
sums-begun false held powers = refl

pub lows-begun : (t : Bool) (held : List Bool) (renders : List Float) → lows_with false (cond t (tab 65 (λ k. false)) held) renders ≡ lows_with t held renders
unfolding lows_with low_with
lows-begun true held renders = tab-same 65 false _ _ (λ k h. rw (get_or-tab 65 (λ j. false) k false h) refl)
lows-begun false held renders = refl
