-- What inner functions of the code promise; no part of the definition.
use Rattle.std.specs.Prelude.{Bool, false, cond, not, List, Float}
use Rattle.std.specs.Float.Ieee.{lt}
use Rattle.aec3_common.specs.Binary32.{sum_threshold}
use Rattle.std.specs.List.{list_all}
use Rattle.aec3_common.specs.Spectra.{sum}

-- whether the render sum is above its threshold, where a channel is converged
unfoldable pub loud_for : List Bool → List Float → Bool
loud_for converged render = cond (list_all not converged) false (lt sum_threshold (sum render))
