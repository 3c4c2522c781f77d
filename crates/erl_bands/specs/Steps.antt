-- What inner functions of the code promise; no part of the definition.
use Rattle.std.specs.Prelude.{cond, List, suc, ◌-◌, ℤ, pos, Float, get_or}
use Rattle.std.specs.Float.{nan, binary32}
use Rattle.std.specs.Float.Ieee.{div, lt}
use Rattle.aec3_common.specs.Binary32.{zero32, one32, energy_threshold}
use Rattle.aec3_common.specs.Counts.{fallen}
use Rattle.aec3_common.specs.Lists.{tab}
use Rattle.aec3_common.specs.Spectra.{inner_band}
use Rattle.erl_bands.specs.Figure.{learnt_erl, learnt_hold, doubled}

-- capture/render where render is above T; elsewhere plus infinity, which is below no ERL
unfoldable pub new_erl : Float → Float → Float
new_erl render capture = cond (lt energy_threshold render) (div binary32 capture render) (div binary32 one32 zero32)

unfoldable pub new_erls : List Float → List Float → List Float
new_erls render capture = tab 65 (λ k. new_erl (get_or render k nan) (get_or capture k nan))

-- a hold after the block
unfoldable pub hold_by : Float → Float → ℤ → ℤ
hold_by new erl hold = fallen (learnt_hold (lt new erl) hold)

-- an ERL after the block, beside its hold after it
unfoldable pub erl_by : Float → Float → ℤ → Float
erl_by new erl hold = doubled hold (learnt_erl (lt new erl) new erl)

-- the holds of bands 1 to 63
unfoldable pub holds_by : List Float → List Float → List ℤ → List ℤ
holds_by new erl holds = tab 63 (λ k. hold_by (get_or new (suc k) nan) (get_or erl (suc k) nan) (get_or holds k (pos 0)))

-- the ERLs of bands 1 to 63, and 0 in the two others
unfoldable pub erls_by : List Float → List Float → List ℤ → List Float
erls_by new erl holds =
    tab 65 (λ k. cond (inner_band k) (erl_by (get_or new k nan) (get_or erl k nan) (get_or holds (k - 1) (pos 0))) zero32)
