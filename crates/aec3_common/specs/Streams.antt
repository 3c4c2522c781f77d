-- The streams of an ERLE estimator.
use Rattle.std.specs.Prelude.{Bool, cond, ◌&&◌, List, Float}

-- `erle` answers one of two streams: the compensated one where it is asked for and onset detection is on, else the plain one
unfoldable pub erle_of : List Float → List Float → Bool → Bool → List Float
erle_of plain compensated onset_compensated onset_detection = cond (onset_compensated && onset_detection) compensated plain
