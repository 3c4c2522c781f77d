-- Extremes, quality estimate and figure stay numbers of bounded size. The extremes are multiples of 2^-35, so that the difference of two
-- that are not the same is not too small to divide by.
use mathlib.Core.Path.{◌≡◌, refl, sym, ◌∙◌}
use mathlib.Core.Bool.{Bool, true, false, not, beq, false≢true, ◌&&◌}
use Prim.Native.Nat.{ℕ, suc, ◌+◌, ◌*◌, ◌^◌, ◌≤◌, zero-le}
use native.Mathlib.Nat.{le_trans, le_refl, add-le-add}
use native.Mathlib.Omega.{arith}
use borrow.Author.Tests.{ltb-false}
use lib.Dec.{eqb, lit≤}
use lib.IntN.{pos, negsuc}
use lib.Ieee.{Float, binary32, of_bits, add, div, below, lt}
use lib.Ieee.Fits.{add-fits}
use Rattle.aec3_common.specs.Binary32.{zero32, larger, moved}
use Rattle.aec3_common.proofs.Choices.{cond_has}
use Rattle.aec3_common.proofs.Floats.{larger-has}
use Rattle.aec3_common.proofs.Grid.{held-power, Multiple, multiple, Sized, sized, add-multiples, sub-multiples, lt-multiples}
use Rattle.aec3_common.proofs.Sizes.{sum-sized, difference-not-zero, quotient-sized, sized-finer, sized-more}
use Rattle.aec3_common.proofs.SizedMoves.{moved-sized}
use Rattle.aec3_common.proofs.Logs.{log2-sized}
use Rattle.fullband_channel.specs.declared.instantaneous.OptionalNumber.{OptionalNumber}
use Rattle.fullband_channel.specs.declared.instantaneous.OptionalNumber.TheVariants.{Absent, Number}
use Rattle.fullband_channel.specs.declared.instantaneous.ErleInstantaneous.{ErleInstantaneous}
use Rattle.fullband_channel.specs.Instantaneous.{epsilon, extreme_step, first_greatest, first_least, log2_above, is_last_point, capture_with, residual_with, new_log2, holding, accumulated, greatest_with, least_with, new_quality, quality_with, learnt, cleared, accumulators_reset, fresh}
use Rattle.fullband_channel.specs.Channel.{figure_share}

-- ---- bounds

-- log2 values are at most 512 in size, extremes at most 1,024, the quality estimate at most 2^46, and figures at most 512
abbrev pub LogSized : Float → Type 0
LogSized = Sized 35 (2 ^ 44)

abbrev pub ExtremeSized : Float → Type 0
ExtremeSized = Sized 35 (2 ^ 45)

abbrev pub QualitySized : Float → Type 0
QualitySized = Sized 149 (2 ^ 195)

abbrev pub FigureSized : Float → Type 0
FigureSized = Sized 149 (2 ^ 158)

zero-sized : QualitySized zero32
unfolding of_bits
zero-sized = sized false 0 zero-le (multiple 0 (pos 0) refl)

first-greatest-sized : ExtremeSized first_greatest
unfolding of_bits
first-greatest-sized = sized true (10 * 2 ^ 35) (lit≤ tt) (multiple 5 (pos 1) refl)

first-least-sized : ExtremeSized first_least
unfolding of_bits
first-least-sized = sized false (33 * 2 ^ 35) (lit≤ tt) (multiple 33 (pos 0) refl)

step-multiple : Multiple 35 false 13743895 extreme_step
unfolding of_bits
step-multiple = multiple 13743895 (negsuc 34) refl

-- log2 of what a number and 0.001 add up to
pub log2-above-sized : (x : Float) → LogSized (log2_above x)
log2-above-sized x = log2-sized (add binary32 x epsilon) (add-fits binary32 x epsilon)

pub log2-above-figure : (x : Float) → FigureSized (log2_above x)
log2-above-figure x = sized-finer 35 114 (2 ^ 44) (log2-above-sized x)

-- ---- extremes

-- a negative number that is not below another is not larger in size, and so is a positive one that is not above
minus-not-below : (s t : Bool) (q v : ℕ) → beq s true ≡ true → below s q t v ≡ false → q ≤ v
minus-not-below false t q v minus h = absurd (false≢true minus)
minus-not-below true false q v minus h = omega (arith, ltb-false 0 (q + v) h)
minus-not-below true true q v minus h = ltb-false v q h

plus-not-above : (s t : Bool) (q v : ℕ) → beq s false ≡ true → below t v s q ≡ false → q ≤ v
plus-not-above true t q v plus h = absurd (false≢true plus)
plus-not-above false false q v plus h = ltb-false v q h
plus-not-above false true q v plus h = omega (arith, ltb-false 0 (v + q) h)

-- what is at most as large as a log2 value has room for a step
step-fits : (q v : ℕ) → v ≤ 2 ^ 44 → q ≤ v → q + 13743895 ≤ 2 ^ 45
step-fits q v few h = le_trans (add-le-add (le_trans h few) (le_refl 13743895)) (lit≤ tt)

greatest-sized : {value greatest : Float} → LogSized value → ExtremeSized greatest → ExtremeSized (greatest_with value greatest)
greatest-sized {value} {greatest} (sized t v few x) (sized s q less y) =
    cond_has ExtremeSized (lt greatest value)
    (λ e. sized-more 35 (2 ^ 44) (2 ^ 45) (lit≤ tt) (sized t v few x))
    (λ e.
    rw (sub-multiples 35 y step-multiple)
    (sum-sized 35 114 (2 ^ 45) refl (held-power 159 (lit≤ tt)) s true q 13743895 less (lit≤ tt)
    (λ minus. step-fits q v few (minus-not-below s t q v minus (sym (lt-multiples 35 y x) ∙ e)))))

least-sized : {value least : Float} → LogSized value → ExtremeSized least → ExtremeSized (least_with value least)
least-sized {value} {least} (sized t v few x) (sized s q less y) =
    cond_has ExtremeSized (lt value least)
    (λ e. sized-more 35 (2 ^ 44) (2 ^ 45) (lit≤ tt) (sized t v few x))
    (λ e.
    rw (add-multiples 35 y step-multiple)
    (sum-sized 35 114 (2 ^ 45) refl (held-power 159 (lit≤ tt)) s false q 13743895 less (lit≤ tt)
    (λ plus. step-fits q v few (plus-not-above s t q v plus (sym (lt-multiples 35 x y) ∙ e)))))

-- ---- qualities and figures

new-quality-sized :
    {least greatest value : Float} → ExtremeSized least → ExtremeSized greatest → LogSized value → QualitySized (new_quality least greatest value)
unfolding new_quality
new-quality-sized {least} {greatest} {value} (sized s q few x) (sized t r less y) (sized u v some z) =
    let room = held-power 160 (lit≤ tt) in
    cond_has QualitySized (lt least greatest)
    (λ e.
    quotient-sized 35 (2 ^ 46) (held-power 195 (lit≤ tt))
    (rw (sub-multiples 35 z x)
    (sum-sized 35 114 (2 ^ 46) refl room u (not s) v q (le_trans some (lit≤ tt)) (le_trans few (lit≤ tt))
    (λ f. le_trans (add-le-add some few) (lit≤ tt))))
    (rw (sub-multiples 35 y x)
    (difference-not-zero 35 114 (2 ^ 46) refl room t s r q (add-le-add less few) (sym (lt-multiples 35 x y) ∙ e))))
    (λ e. zero-sized)

quality-sized : {new quality : Float} → QualitySized new → QualitySized quality → QualitySized (quality_with new quality)
unfolding of_bits
quality-sized {new} {quality} p q =
    cond_has QualitySized (lt quality new)
    (λ e. p)
    (λ e. moved-sized 9395241 (negsuc 26) (lit≤ tt) 195 (lit≤ tt) q p)

-- a figure moves towards a log2 value, and not below the minimum
pub figure-sized :
    {min figure value : Float} → FigureSized min → FigureSized figure → LogSized value → FigureSized (larger min (moved figure value figure_share))
unfolding of_bits
figure-sized least p q =
    larger-has FigureSized least (moved-sized 13421773 (negsuc 27) (lit≤ tt) 158 (lit≤ tt) p (sized-finer 35 114 (2 ^ 44) q))

-- ---- one channel's instantaneous ERLE

-- bounded extremes and quality estimate
pub record Bounded (i : ErleInstantaneous) : Type 0 where
  pub greatest : ExtremeSized i.max_erle_log2
  pub least : ExtremeSized i.min_erle_log2
  pub quality : QualitySized i.inst_quality_estimate

pub accumulated-bounded : (capture residual : Float) (i : ErleInstantaneous) → Bounded i → Bounded (accumulated capture residual i)
unfolding accumulated holding
accumulated-bounded capture residual i b =
    cond_has Bounded (eqb (suc i.num_points) 6)
    (λ e. record { greatest = b.greatest; least = b.least; quality = b.quality })
    (λ e. record { greatest = b.greatest; least = b.least; quality = b.quality })

pub learnt-bounded : {value : Float} (i : ErleInstantaneous) → LogSized value → Bounded i → Bounded (learnt value i)
unfolding learnt
learnt-bounded i p b =
    let greatest = greatest-sized p b.greatest in
    let least = least-sized p b.least in
    record { greatest = greatest; least = least; quality = quality-sized (new-quality-sized least greatest p) b.quality }

pub reset-bounded : (i : ErleInstantaneous) → Bounded i → Bounded (accumulators_reset i)
unfolding accumulators_reset cleared
reset-bounded i b = record { greatest = b.greatest; least = b.least; quality = zero-sized }

pub fresh-bounded : Bounded fresh
unfolding fresh cleared
fresh-bounded = record { greatest = first-greatest-sized; least = first-least-sized; quality = zero-sized }

-- a log2 value, where there is one
abbrev pub NewSized : OptionalNumber → Type 0
NewSized Absent = Unit {0}
NewSized (Number x) = LogSized x

pub new-sized : (capture residual : Float) (i : ErleInstantaneous) → NewSized (new_log2 capture residual i)
unfolding new_log2
new-sized capture residual i =
    cond_has NewSized (is_last_point capture residual i && lt zero32 (residual_with capture residual i))
    (λ e. log2-above-sized (div binary32 (capture_with capture residual i) (residual_with capture residual i)))
    (λ e. tt)
