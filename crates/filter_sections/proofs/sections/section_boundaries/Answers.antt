use Rattle.std.proofs.Common.{rules, ◌≡◌, true, arith}
use native.Mathlib.Nat.{div-le_self}
use Rattle.aec3_common.specs.Settings.{sections_ok}
use Rattle.aec3_common.proofs.Ranges.{sections-in-ranges, some-sections, few-sections, short-filter, short-headroom}
use Rattle.filter_sections.specs.Sections.{sections_answer}
use Rattle.filter_sections.proofs.sections.section_boundaries.Goals as goal

pub returns-then-not-ok : goal.returns-then-not-ok
unfolding sections_answer
returns-then-not-ok c = search rules

pub invariant_of-filter : goal.invariant_of-filter
invariant_of-filter c =
    let a = c.args.layout in
    let passed : sections_ok a.num_sections a.filter_length_blocks a.delay_headroom_samples ≡ true = search rules in
    let ok = sections-in-ranges a.num_sections a.filter_length_blocks a.delay_headroom_samples passed in
    record {
      some = some-sections a.num_sections a.filter_length_blocks a.delay_headroom_samples ok;
      few = few-sections a.num_sections a.filter_length_blocks a.delay_headroom_samples ok;
      short = omega (arith, short-filter a.num_sections a.filter_length_blocks a.delay_headroom_samples ok);
    }

pub boundaries-requires : goal.boundaries-requires
boundaries-requires c =
    let a = c.args.layout in
    let passed : sections_ok a.num_sections a.filter_length_blocks a.delay_headroom_samples ≡ true = search rules in
    let ok = sections-in-ranges a.num_sections a.filter_length_blocks a.delay_headroom_samples passed in
    omega (arith, c.headroom_blocks.ensures, div-le_self a.delay_headroom_samples 64, short-headroom a.num_sections a.filter_length_blocks a.delay_headroom_samples ok)

pub returns : goal.returns
unfolding sections_answer
returns c = search rules
