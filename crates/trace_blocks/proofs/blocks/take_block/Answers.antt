-- What is lent to the inner update are the lists of the block.
use Rattle.std.proofs.Common.{◌≡◌, refl, sym, ◌∙◌, arith, rules}
use borrow.Author.Tests.{ne_eqb}
use lib.Seq.{length-take-le}
use Rattle.aec3_common.specs.Answers.{number, number_of}
use Rattle.trace_records.specs.Judge.{content_refusal}
use Rattle.trace_records.specs.Records.{block_in}
use Rattle.trace_records.proofs.Judged.{refused-some}
use Rattle.trace_blocks.proofs.Taking.{lent-fits, state-after}
use Rattle.trace_blocks.proofs.blocks.take_block.Goals as goal

pub slice_bounds-advance-end-2 : goal.slice_bounds-advance-end-2
slice_bounds-advance-end-2 c = sym (length-take-le 65 c.read.new.values (omega (arith, c.read.ensures.long)))

pub advance-requires-clause-fits : goal.advance-requires-clause-fits
advance-requires-clause-fits c =
    rw c.requires.as_many
    (lent-fits _ _ c.requires.ready (rw c.requires.as_many at c.flags_in-flags.ensures) (rw c.requires.as_many at c.read.ensures))

pub returns : goal.returns
unfolding content_refusal block_in
returns c =
    let read = rw c.requires.as_many at c.in_ok-read.ensures in
    record {
      long = read.long;
      told = read.told;
      state = state-after _ _ c.requires.ready (rw c.requires.as_many at c.flags_in-flags.ensures) read _ c.requires.some (rw c.requires.as_many at c.advance.ensures);
    }

pub returns-in_err-read : goal.returns-in_err-read
unfolding content_refusal block_in
returns-in_err-read c =
    let bad = c.in_err-read.field-0.0 in
    let read = rw c.requires.as_many at c.in_err-read.ensures in
    let same : number_of c.from_residual.result ≡ number bad = search rules in
    record {
      long = read.long;
      told = same ∙ read.told;
      state = rw (same, ne_eqb _ _ (refused-some bad)) refl;
    }
