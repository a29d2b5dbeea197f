-- `layout::row::put` meets its contract. Assumes nothing.
use Rattle.layout.proofs.row.put.Goals as goal

pub returns : goal.returns
returns c = rw (c.put_unit-2.ensures, c.put_unit.ensures, c.from.ensures)
