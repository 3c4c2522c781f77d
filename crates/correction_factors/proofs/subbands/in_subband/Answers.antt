use Rattle.std.proofs.Common.{◌≡◌, ℕ, ◌≤◌, arith}
use Rattle.std.specs.declared.ops.Range.{Range}
use Rattle.filter_sections.specs.Subbands.{subband_bands}
use Rattle.correction_factors.proofs.Bands.{bands-ordered, ends-within, part-is}
use Rattle.correction_factors.proofs.subbands.in_subband.Goals as goal

ordered : (subband : ℕ) {r : Range ℕ} → r ≡ subband_bands subband → r.start ≤ r.end
ordered subband e = rw e (bands-ordered subband)

within : (subband : ℕ) {r : Range ℕ} → r ≡ subband_bands subband → r.end ≤ 65
within subband e = rw e (ends-within subband)

pub offset_bounds-bands-subband_bands : goal.offset_bounds-bands-subband_bands
offset_bounds-bands-subband_bands g c =
    omega (arith, c.requires, ordered c.args.subband c.subband_bands.ensures, within c.args.subband c.subband_bands.ensures)

pub slice_bounds-result-count : goal.slice_bounds-result-count
slice_bounds-result-count g c = ordered c.args.subband c.subband_bands.ensures

pub slice_bounds-result-start : goal.slice_bounds-result-start
slice_bounds-result-start g c =
    omega (arith, c.requires, ordered c.args.subband c.subband_bands.ensures, within c.args.subband c.subband_bands.ensures)

pub slice_bounds-result-end : goal.slice_bounds-result-end
slice_bounds-result-end g c = omega (arith, c.requires, within c.args.subband c.subband_bands.ensures)

pub returns : goal.returns
returns g c d =
    rw c.subband_bands.ensures
    (part-is d c.args.bands.now (subband_bands c.args.subband).start (subband_bands c.args.subband).end
    (bands-ordered c.args.subband) (omega (arith, c.requires, ends-within c.args.subband)))
