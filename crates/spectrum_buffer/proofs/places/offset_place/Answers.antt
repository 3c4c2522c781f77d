use Rattle.std.proofs.Common.{◌≡◌, pos, ◌+ℤ◌, to_z, of_z, w64, arith}
use Rattle.std.proofs.lemmas.Int.{ints}
use Rattle.spectrum_buffer.specs.Ring.{offset_place}
use Rattle.spectrum_buffer.proofs.places.offset_place.Goals as goal

pub returns-then-remainder-lt0 : goal.returns-then-remainder-lt0
unfolding offset_place
returns-then-remainder-lt0 c =
    let a = c.args in
    let sum : to_z w64 (of_z w64 (to_z w64 a.index +ℤ to_z w64 (of_z w64 a.offset))) ≡ pos a.index +ℤ a.offset = omega (arith, ints) in
    let size : to_z w64 a.size ≡ pos a.size = omega (arith, ints) in
    rw (sum, size) (grind (arith, ints))
