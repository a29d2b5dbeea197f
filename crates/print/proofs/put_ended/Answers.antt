-- `print::put_ended` meets its contract: the number, then the byte. Assumes nothing.
use Rattle.print.proofs.Printing.{printed_both}
use Rattle.print.proofs.put_ended.Goals as goal

pub returns : goal.returns
returns c = printed_both c.put_decimal-next.ensures c.put.ensures
