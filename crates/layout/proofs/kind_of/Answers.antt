-- `layout::kind_of` meets its contract. Assumes nothing.
use Rattle.layout.proofs.KindNumbers.{kind_int, kind_bool, kind_float}
use Rattle.layout.proofs.kind_of.Goals as goal

pub returns-in-0 : goal.returns-in-0
returns-in-0 c = kind_int c.args.number c.in-0.is

pub returns-in-1 : goal.returns-in-1
returns-in-1 c = kind_bool c.args.number c.in-1.is

pub returns-in_default : goal.returns-in_default
returns-in_default c = kind_float c.args.number (search) (search)
