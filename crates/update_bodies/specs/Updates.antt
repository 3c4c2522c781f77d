-- What an update's lists and numbers are, by the numbers of 32 bits that its record begins with.
use Rattle.std.specs.Prelude.{ℕ, ◌≡◌, ◌+◌, List, length, min}
use Rattle.script.specs.Lists.{nth_word}
use Rattle.update_bodies.specs.declared.block.BlockLengths.{BlockLengths}
use Rattle.update_bodies.specs.declared.block.BlockLists.{BlockLists}
use Rattle.update_bodies.specs.declared.ring.RingHead.{RingHead}
use Rattle.update_bodies.specs.declared.ring.RingBody.{RingBody}
use Rattle.update_bodies.specs.declared.ring.RingLists.{RingLists}

-- the lengths of a block's lists, which stand from a number on
abbrev pub LengthsRead : ℕ → List ℕ → BlockLengths → Type 0
LengthsRead first bytes lengths =
    (lengths.flags ≡ nth_word first bytes)
    × (lengths.x2 ≡ nth_word (first + 1) bytes)
    × (lengths.y2 ≡ nth_word (first + 2) bytes)
    × (lengths.e2 ≡ nth_word (first + 3) bytes)

-- lists of these lengths; of a longer list stands what its table has room for, which is one more than any call can ask for: 5 flags, 261 figures
abbrev pub HaveLengths : BlockLengths → BlockLists → Type 0
HaveLengths lengths lists =
    (length lists.converged_filters ≡ min lengths.flags 5)
    × (length lists.x2 ≡ min lengths.x2 261)
    × (length lists.y2 ≡ min lengths.y2 261)
    × (length lists.e2 ≡ min lengths.e2 261)

-- lists whose lengths stand from a number on
abbrev pub ListsRead : ℕ → List ℕ → BlockLists → Type 0
ListsRead first bytes lists =
    (length lists.converged_filters ≡ min (nth_word first bytes) 5)
    × (length lists.x2 ≡ min (nth_word (first + 1) bytes) 261)
    × (length lists.y2 ≡ min (nth_word (first + 2) bytes) 261)
    × (length lists.e2 ≡ min (nth_word (first + 3) bytes) 261)

-- the head of an update that reads the ring
abbrev pub HeadReads : List ℕ → RingHead → Type 0
HeadReads bytes head =
    (head.channels ≡ nth_word 0 bytes)
    × (head.ring.slots ≡ nth_word 1 bytes)
    × (head.ring.channels ≡ nth_word 2 bytes)
    × (head.ring.position ≡ nth_word 3 bytes)
    × LengthsRead 4 bytes head.lengths
    × (head.spectra ≡ nth_word 8 bytes)

-- the lists that such a head says; of the ring's spectra stand 4161 numbers at most
abbrev pub BodyReads : RingHead → RingBody → Type 0
BodyReads head body =
    (length body.response_blocks ≡ min head.channels 16)
    × (body.block.num_capture_channels ≡ head.channels)
    × HaveLengths head.lengths body.block
    × (length body.spectra ≡ min head.spectra 4161)

-- and an update with both
abbrev pub RingReads : List ℕ → RingLists → Type 0
RingReads bytes lists =
    (lists.ring.slots ≡ nth_word 1 bytes)
    × (lists.ring.channels ≡ nth_word 2 bytes)
    × (lists.ring.position ≡ nth_word 3 bytes)
    × (length lists.body.response_blocks ≡ min (nth_word 0 bytes) 16)
    × (lists.body.block.num_capture_channels ≡ nth_word 0 bytes)
    × ListsRead 4 bytes lists.body.block
    × (length lists.body.spectra ≡ min (nth_word 8 bytes) 4161)
