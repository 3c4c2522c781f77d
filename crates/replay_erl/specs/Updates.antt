-- What an update's lists and numbers are, by the numbers of 32 bits that its record begins with. Of a longer list stands what its table has
-- room for: 5 flags, 261 figures.
use Rattle.std.specs.Prelude.{ℕ, ◌≡◌, ◌+◌, ◌*◌, List, drop, length, min}
use Rattle.script.specs.Lists.{nth_word, past}
use Rattle.replay_erl.specs.declared.ErlLists.{ErlLists}

abbrev pub ErlReads : List ℕ → ErlLists → List ℕ → Type 0
ErlReads bytes lists rest =
    (lists.num_capture_channels ≡ nth_word 0 bytes)
    × (lists.num_render_channels ≡ nth_word 1 bytes)
    × (length lists.converged_filters ≡ min (nth_word 2 bytes) 5)
    × (length lists.render_spectra ≡ min (nth_word 3 bytes) 261)
    × (length lists.capture_spectra ≡ min (nth_word 4 bytes) 261)
