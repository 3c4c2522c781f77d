use Rattle.std.proofs.Common.{◌-◌, length, rules}
use Rattle.streaming.proofs.Behind.{read-some, read-none}
use Rattle.streaming.proofs.reading.read_on.Goals as goal

pub returns-in-Ok-clause-held : goal.returns-in-Ok-clause-held
returns-in-Ok-clause-held g c =
    let e = c.in-Ok.ensures in
    let l = c.read.auto.buf in
    read-some c.args.input.now c.copy_within.new.self c.read.new.buf c.args.held.from c.args.held.to (length c.copy_within.new.self - (c.args.held.to - c.args.held.from)) c.requires.ordered c.requires.within c.copy_within.ensures.len c.copy_within.ensures.after (search rules)
    c.in-Ok.count (e.bound.0) (search rules) e.bytes

pub returns-in-Interrupted-clause-held : goal.returns-in-Interrupted-clause-held
returns-in-Interrupted-clause-held g c =
    read-none c.args.input.now c.copy_within.new.self c.read.new.buf c.args.held.from c.args.held.to (length c.copy_within.new.self - (c.args.held.to - c.args.held.from)) c.requires.ordered c.requires.within c.copy_within.ensures.len c.copy_within.ensures.after (search rules)
    c.in-Err.ensures.bytes
