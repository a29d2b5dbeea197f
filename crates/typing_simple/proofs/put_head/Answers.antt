-- `typing_simple::put_head` meets its contract. Assumes nothing.
use Rattle.typing_simple.proofs.Words.{head_written}
use Rattle.typing_simple.proofs.put_head.Goals as goal

pub returns : goal.returns
returns c = rw (c.put_unit-2.ensures, c.put_unit.ensures)
    (head_written c.args.code.now c.args.size c.args.tag c.args.place c.args.a c.args.b c.args.end c.requires.0 c.requires.1)
