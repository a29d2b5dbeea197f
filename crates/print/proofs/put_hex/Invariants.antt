-- The invariant of the loop of `print::put_hex`: the bytes up to this one are printed.
use Rattle.std.proofs.Common.{take}
use Rattle.print.specs.Shown.{hex}
use Rattle.print.specs.Printed.{Printed}
use Rattle.print.proofs.put_hex.Given as goal

abbrev pub invariant-loop-byte : goal.invariant-loop-byte
invariant-loop-byte l = Printed l.fn.page l.at (hex (take l.byte-index l.bytes)) l.page l.next
