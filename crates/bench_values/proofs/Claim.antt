-- The bench table holds, by computation.
use mathlib.Core.Path.{refl}
use lib.Ieee.{of_bits, to_bits, of_int, to_unsigned, add, sub, mul, div, lt, le}
use Rattle.aec3_common.specs.Binary32.{larger, smaller, moved}
use Rattle.aec3_common.specs.Calls.{value_refusal}
use Rattle.aec3_common.specs.Counts.{one_more, fallen}
use Rattle.aec3_common.specs.Lists.{tab}
use Rattle.aec3_common.specs.Spectra.{part, flagged, greatest_from}
use Rattle.aec3_common.specs.Log2.{approx_log2, log2_answer}
use Rattle.aec3_common.specs.Settings.{sections_ok}
use Rattle.spectrum_buffer.specs.Ring.{offset_place, offset_refusal, offset_answer}
use Rattle.filter_sections.specs.Sections.{evenly, doubling, running_sums, boundaries, sections_answer}
use Rattle.erl_bands.specs.Figure.{learnt_erl, learnt_hold, learnt, doubled, rested, after_block}
use Rattle.erl_estimator.specs.Erl.{band_after, reduced, started, learnt_from, updated, update_refusal, update_answer}
use Rattle.bench_values.specs.Bench.{table, BenchTable}

pub bench-table : BenchTable
unfolding BenchTable table of_bits to_bits of_int to_unsigned add sub mul div lt larger smaller moved fallen one_more part flagged greatest_from learnt_erl learnt_hold learnt doubled rested after_block band_after reduced started learnt_from updated value_refusal update_refusal update_answer le tab approx_log2 log2_answer sections_ok offset_place offset_refusal offset_answer evenly doubling running_sums boundaries sections_answer
bench-table = refl
