-- `print::put_hex` meets its contract: two digits more for each byte. Assumes nothing.
use Rattle.std.proofs.Common.{arith, add-one}
use Rattle.print.specs.Shown.{hex}
use Rattle.print.proofs.Printing.{printed_none, printed_both, printed_length}
use Rattle.print.proofs.Rows.{hex_more, hex_room}
use Rattle.print.proofs.put_hex.Goals as goal

pub loop-byte-init : goal.loop-byte-init
unfolding hex
loop-byte-init c = printed_none _ _

pub put-middle-requires : goal.put-middle-requires
put-middle-requires c = omega (arith, hex_room _ c.loop-byte.invariant c.requires c.loop-byte-test.true)

pub put-next-requires : goal.put-next-requires
put-next-requires c = omega (arith, hex_room _ c.loop-byte.invariant c.requires c.loop-byte-test.true, c.put-middle.ensures.next_is, printed_length c.put-middle.ensures)

pub loop-byte-preserved : goal.loop-byte-preserved
loop-byte-preserved c = rw (add-one, hex_more _ _ c.loop-byte-test.true, ← c.digit_of-high.ensures, ← c.digit_of-low.ensures) (printed_both (printed_both c.loop-byte.invariant c.put-middle.ensures) c.put-next.ensures)
