-- `floats::whole` meets its contract. Assumes nothing.
use lib.Dec.{le→leb}
use lib.Ieee.{in_float}
use Rattle.meaning.specs.Codes.{float_limit}
use Rattle.floats.proofs.Rounding.{whole_agrees}
use Rattle.floats.proofs.whole.Goals as goal

pub int_to_float-n : goal.int_to_float-n
unfolding in_float
int_to_float-n c = le→leb c.args.n float_limit c.requires

pub returns : goal.returns
returns c = cc (whole_agrees c.args.n)
