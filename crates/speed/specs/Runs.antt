-- What the rounds of a run do to an estimator.
use denote.Ref.{Bor, MutBor}
use Rattle.std.specs.Prelude.{ℕ, zero, suc, ◌*◌, ◌/◌, ◌≡◌, min, length, take, drop}
use Rattle.aec3_common.specs.declared.block.Block.{Block}
use Rattle.speed.specs.declared.blocks.Blocks.{Blocks}

-- R took e to e' at 0, 1, .., n - 1, one after the other
unfoldable pub StepsTo : {E : Type 0} → (E → ℕ → E → Type 0) → ℕ → E → E → Type 0
StepsTo R zero e e' = e ≡ e'
StepsTo {E} R (suc n) e e' = (j : E) × StepsTo R n e j × R j n e'

-- how many blocks lie whole in the lists
unfoldable pub block_count : Blocks → ℕ
block_count l =
    let channels = l.num_capture_channels in
    let powers = min (length l.capture.now / (channels * 65)) (length l.residual.now / (channels * 65)) in
    min (min (length l.flags.now / channels) (length l.render.now / 65)) powers

-- block k of the lists
abbrev pub IsBlock : Blocks → ℕ → Block → Type 0
IsBlock l k b =
    let channels = l.num_capture_channels in
    (b.num_capture_channels ≡ channels)
    × (b.converged_filters.now ≡ take channels (drop (k * channels) l.flags.now))
    × (b.x2.now ≡ take 65 (drop (k * 65) l.render.now))
    × (b.y2.now ≡ take (channels * 65) (drop (k * (channels * 65)) l.capture.now))
    × (b.e2.now ≡ take (channels * 65) (drop (k * (channels * 65)) l.residual.now))

-- a call of a step, by what the step ensures, took e to e' at block k of the lists
abbrev pub StepAt : {E : Type 0} → (MutBor E → ℕ → Bor Block → Unit {0} → MutBor E → Type 0) → Blocks → E → ℕ → E → Type 0
StepAt {E} ensured l e k e' =
    (lent : MutBor E) × (block : Bor Block) × (left : MutBor E)
    × (lent.now ≡ e) × (left.now ≡ e') × IsBlock l k block.now × ensured lent k block tt left
