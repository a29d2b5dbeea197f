-- `layout::slot::put` meets its contract. Assumes nothing.
use Rattle.layout.proofs.slot.put.Goals as goal

pub returns : goal.returns
returns c = rw (c.put_unit.ensures, c.from.ensures)
