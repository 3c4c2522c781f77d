-- The claim about cases.
use mathlib.Core.Path.{refl}
use Rattle.aec3_common.proofs.Cases.{cases-read-back}
use Rattle.std.specs.Prelude.{Ok, Err}
use Rattle.spectrum_buffer.specs.Ring.{place_number, place_value}
use Rattle.spectrum_buffer.specs.Cases.{PlaceReadBack}

pub place-read-back : PlaceReadBack
unfolding PlaceReadBack
place-read-back = cases-read-back Ok Err place_number place_value (λ place. place) (λ p. refl) (λ n. refl) (λ p. refl) (λ n. refl)
