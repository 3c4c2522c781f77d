-- One figure: an ERL and its hold.
use Rattle.std.specs.Prelude.{Bool, cond, ◌&&◌, ℤ, pos, Float}
use Rattle.std.specs.Int.Signed.{le_z}
use Rattle.std.specs.Float.{binary32}
use Rattle.std.specs.Float.Ieee.{of_bits, mul, div, lt}
use Rattle.aec3_common.specs.Binary32.{larger, smaller, moved}
use Rattle.aec3_common.specs.Counts.{fallen}
use Rattle.erl_bands.specs.declared.figure.Figure.{Figure}

-- 0.01 and 1,000: from a start every ERL lies between them (`FiguresInRange` of `erl_estimator`)
abbrev pub min_erl : Float
min_erl = of_bits binary32 0x3c23_d70a

abbrev pub max_erl : Float
max_erl = of_bits binary32 0x447a_0000

-- 0.1, the share of the difference by which an ERL moves
abbrev pub share : Float
share = of_bits binary32 0x3dcc_cccd

abbrev pub two32 : Float
two32 = of_bits binary32 0x4000_0000

-- whether render is above the threshold and capture/render below the ERL
abbrev pub learns : Float → Float → Float → Float → Bool
learns threshold render capture erl = lt threshold render && lt (div binary32 capture render) erl

-- where it learns, the ERL moves by 0.1 of the difference to the new one, not below 0.01
unfoldable pub learnt_erl : Bool → Float → Float → Float
learnt_erl learning new erl = cond learning (larger (moved erl new share) min_erl) erl

-- and its hold becomes 1,000
unfoldable pub learnt_hold : Bool → ℤ → ℤ
learnt_hold learning hold = cond learning (pos 1000) hold

-- a figure that learns from capture/render, or does not
unfoldable pub learnt : Float → Float → Float → Figure → Figure
learnt threshold render capture f =
    let learning = learns threshold render capture f.erl in
    record { erl = learnt_erl learning (div binary32 capture render) f.erl; hold = learnt_hold learning f.hold }

-- the ERL beside a hold: at 0 or less it doubles, at most 1,000
unfoldable pub doubled : ℤ → Float → Float
doubled hold erl = cond (le_z hold (pos 0)) (smaller (mul binary32 two32 erl) max_erl) erl

-- the hold falls by 1, and where it is then 0 or less the ERL doubles
unfoldable pub rested : Figure → Figure
rested f = record { erl = doubled (fallen f.hold) f.erl; hold = fallen f.hold }

-- a figure one block later
unfoldable pub after_block : Float → Float → Float → Figure → Figure
after_block threshold render capture f = rested (learnt threshold render capture f)
