-- Each band's minimum and maximum.
use Rattle.std.proofs.Common.{◌≡◌, ℕ, true, ltb}
use lib.Ieee.{Float}
use Rattle.aec3_common.specs.Settings.{limits_ok}
use Rattle.aec3_common.proofs.Choices.{cond_has}
use Rattle.aec3_common.proofs.Limits.{InOrder, InBinary32, limits-in-order}
use Rattle.filter_sections.specs.Subbands.{max_erle}

-- the minimum and the maximum of every band are in order
abbrev pub AllInOrder : Float → Float → Float → Type 0
AllInOrder min max_l max_h = (k : ℕ) → InOrder min (max_erle max_l max_h k)

-- so they are where number 1 lets the limits pass
pub all-in-order :
    (min max_l max_h : Float) → InBinary32 min max_l max_h → limits_ok min max_l max_h ≡ true → AllInOrder min max_l max_h
unfolding max_erle
all-in-order min max_l max_h in_binary32 ok k =
    let (low, high) = limits-in-order min max_l max_h in_binary32 ok in
    cond_has (InOrder min) (ltb k 32) (λ t. low) (λ t. high)
