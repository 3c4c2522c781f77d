use Rattle.std.proofs.Common.{◌≡◌, ◌+◌, ◌-◌, ◌*◌, refl, ◌∙◌, arith, inl, inr}
use borrow.Rule.Slice.PartMut.{put_mid}
use Rattle.trace_records.proofs.Blocks.{NumbersRead, numbers-read, spectra-none, spectra-more, spectra-kept, reading-all}
use Rattle.trace_records.proofs.records.BlockBytes.read.Goals as goal

pub returns : goal.returns
returns c =
    let all : c.loop-ch.ch ≡ c.args.self.now.num_capture_channels = omega (arith, c.loop-ch.auto.ch-end, c.loop-ch-test.false) in
    reading-all c.args.self.now.few (rw all at c.loop-ch.invariant) c.judge_values.ensures

pub loop-ch-init : goal.loop-ch-init
loop-ch-init c =
    let n = c.args.self.now.num_capture_channels in
    let render : NumbersRead c.args.self.now.bytes.now (2 + n) c.args.values.now 0 (put_mid 0 65 c.args.values.now c.read_spectrum.new.values) =
    numbers-read (2 + n) (2 + n + 260) 0 65 c.read_spectrum.ensures refl refl (omega (arith, c.told-values)) in
    record {
      long = render.long ∙ c.told-values;
      render = spectra-more spectra-none render (omega arith) refl;
      capture = spectra-none;
      residual = spectra-none;
    }

pub loop-ch-preserved : goal.loop-ch-preserved
loop-ch-preserved c =
    let n = c.args.self.now.num_capture_channels in
    let ch = c.loop-ch.ch in
    let l = c.loop-ch.invariant in
    let few = c.args.self.now.few in
    let place = 2 + n + 260 + 520 * ch in
    let at = 65 + 65 * n + 65 * ch in
    let more = c.loop-ch-test.true in
    let read = put_mid (65 + 65 * ch) (130 + 65 * ch - (65 + 65 * ch)) c.loop-ch.values c.read_spectrum-in-loop-ch.new.values in
    let capture : NumbersRead c.args.self.now.bytes.now place c.loop-ch.values (65 + 65 * ch) read =
    numbers-read place (place + 260) (65 + 65 * ch) (130 + 65 * ch) c.read_spectrum-in-loop-ch.ensures refl (omega arith) (omega (arith, few, l.long, more)) in
    let residual : NumbersRead c.args.self.now.bytes.now (place + 260) read at (put_mid at (65 + 65 * n + 65 + 65 * ch - at) read c.read_spectrum-in-loop-ch-2.new.values) =
    numbers-read (place + 260) (place + 520) at (65 + 65 * n + 65 + 65 * ch) c.read_spectrum-in-loop-ch-2.ensures (omega arith) (omega arith) (omega (arith, few, l.long, capture.long, more)) in
    record {
      long = residual.long ∙ capture.long ∙ l.long;
      render = spectra-kept (spectra-kept l.render capture (inl (omega arith))) residual (inl (omega arith));
      capture = spectra-kept (spectra-more l.capture capture (omega arith) (omega arith)) residual (inl (omega (arith, more)));
      residual = spectra-more (spectra-kept l.residual capture (inr (omega (arith, more)))) residual (omega arith) (omega arith);
    }
