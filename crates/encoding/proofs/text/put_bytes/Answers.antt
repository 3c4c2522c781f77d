-- There is no room where the text would end past the end; else all is laid.
use Rattle.std.proofs.Common.{sym, ap, ◌∙◌, arith}
use Rattle.std.specs.Prelude.{Some}
use Rattle.encoding.proofs.Writing.{written-room, written-full, behind-room, behind-full, put_mid-laid}
use Rattle.encoding.proofs.text.put_bytes.Goals as goal

pub returns-then-out-end-clause-out_after : goal.returns-then-out-end-clause-out_after
returns-then-out-end-clause-out_after c = sym (written-full _ _ _ (omega arith))

pub returns-then-out-end-clause-value : goal.returns-then-out-end-clause-value
returns-then-out-end-clause-value c = sym (behind-full c.args.out.now _ c.args.s.now (omega arith))

pub returns-clause-out_after : goal.returns-clause-out_after
returns-clause-out_after c = rw c.copy_from_slice.ensures.after (put_mid-laid _ _ _ _ (omega arith) ∙ sym (written-room _ _ _ (omega arith)))

pub returns-clause-value : goal.returns-clause-value
returns-clause-value c = ap Some (omega arith) ∙ sym (behind-room c.args.out.now c.args.at c.args.s.now (omega arith))
