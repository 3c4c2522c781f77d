-- Responses as they are lent: packed channel by channel, block by block, 65 numbers each.
use Rattle.std.specs.Prelude.{List, [], ◌∷◌, ℕ, ◌+◌, ◌*◌, Float, get_or, take, drop}

-- how many blocks some channels have together
unfoldable pub total : List ℕ → ℕ
total [] = 0
total (n ∷ ns) = n + total ns

-- a channel's responses stand behind those of the channels before it
unfoldable pub responses_of : List ℕ → List Float → ℕ → List Float
responses_of counts responses ch = take (get_or counts ch 0 * 65) (drop (total (take ch counts) * 65) responses)
