-- What inner functions of the code promise of all bands, by the rules of one band; no part of the definition.
use Rattle.std.specs.Prelude.{Bool, false, cond, ◌&&◌, Option, None, List, ℕ, ℤ, pos, is_some, unwrap_or, Float, get_or}
use Rattle.std.specs.Float.{nan}
use Rattle.aec3_common.specs.Lists.{tab}
use Rattle.aec3_common.specs.Spectra.{inner_band}
use Rattle.filter_sections.specs.Subbands.{max_erle}
use Rattle.aec3_common.specs.declared.settings.ErleLimits.{ErleLimits}
use Rattle.erle_bands.specs.Band.{sum_with, low_with, ratio, new_ratio, hold_falls, stream_moved, waits_learnt, hold_learnt, hold_less, compensated_beside, waits_beside}

-- each band that passes the test changed by f; the others as they were
abbrev pub bands_where : {A : Type 0} → A → (ℕ → Bool) → List A → (ℕ → A → A) → List A
bands_where d test xs f = tab 65 (λ k. cond (test k) (f k (get_or xs k d)) (get_or xs k d))

-- ---- a converged block

unfoldable pub sums_with : Bool → List Float → List Float → List Float
sums_with anew sums powers = tab 65 (λ k. sum_with anew (get_or sums k nan) (get_or powers k nan))

unfoldable pub lows_with : Bool → List Bool → List Float → List Bool
lows_with anew lows renders = tab 65 (λ k. low_with anew (get_or lows k false) (get_or renders k nan))

unfoldable pub ratios_of : List Float → List Float → List Float
ratios_of captures residuals = tab 65 (λ k. ratio (get_or captures k nan) (get_or residuals k nan))

unfoldable pub new_ratios_of : List Float → List Float → List (Option Float)
new_ratios_of captures residuals = tab 65 (λ k. new_ratio (get_or captures k nan) (get_or residuals k nan))

-- ---- new ratios, in the bands that learn

abbrev pub band_learns : List (Option Float) → ℕ → Bool
band_learns news k = inner_band k && is_some (get_or news k None)

unfoldable pub all_streams_moved : ErleLimits → List (Option Float) → List Bool → List Float → List Float
all_streams_moved limits news lows olds =
    bands_where nan (band_learns news) olds
    (λ k old. stream_moved limits.min (max_erle limits.max_l limits.max_h k) (unwrap_or (get_or news k None) nan) (get_or lows k false) old)

unfoldable pub all_waits_learnt : List (Option Float) → List Bool → List Bool → List Bool
all_waits_learnt news lows waits = bands_where false (band_learns news) waits (λ k old. waits_learnt (get_or lows k false) old)

unfoldable pub all_holds_learnt : List (Option Float) → List Bool → List ℤ → List ℤ
all_holds_learnt news lows holds = bands_where (pos 0) (band_learns news) holds (λ k old. hold_learnt (get_or lows k false) old)

-- ---- one block less, in the bands whose hold falls

unfoldable pub all_holds_less : Bool → List ℤ → List ℤ
all_holds_less on holds = bands_where (pos 0) (hold_falls on) holds (λ k old. hold_less old)

unfoldable pub all_compensated_beside : Bool → Float → List ℤ → List Float → List Float → List Float
all_compensated_beside on min holds onsets olds =
    bands_where nan (hold_falls on) olds (λ k old. compensated_beside min (get_or holds k (pos 0)) (get_or onsets k nan) old)

unfoldable pub all_waits_beside : Bool → List ℤ → List Bool → List Bool
all_waits_beside on holds waits = bands_where false (hold_falls on) waits (λ k old. waits_beside (get_or holds k (pos 0)) old)
