-- `print::put_decimal` meets its contract: it goes as the definition does, by tenths. Assumes nothing.
use Rattle.std.proofs.Common.{arith}
use Rattle.print.proofs.Printing.{printed_both, printed_length}
use Rattle.print.proofs.Numbers.{one_digit, more_digits, length_one, length_more}
use Rattle.print.proofs.+put_decimal.Goals as goal

pub put-requires : goal.put-requires
put-requires t c = omega (arith, c.requires, length_one _ c.if-number-lt10.true)

pub returns-then-number-lt10 : goal.returns-then-number-lt10
returns-then-number-lt10 t c = rw (one_digit _ c.if-number-lt10.true, ← c.digit_of-only.ensures) c.put.ensures

pub put_decimal-next-requires : goal.put_decimal-next-requires
put_decimal-next-requires t c = (omega arith, omega (arith, c.requires, length_more _ c.if-number-lt10.false))

pub put-requires-2 : goal.put-requires-2
put-requires-2 t c = omega (arith, c.requires, length_more _ c.if-number-lt10.false, c.put_decimal-next.ensures.next_is, printed_length c.put_decimal-next.ensures)

pub returns : goal.returns
returns t c = rw (more_digits _ c.if-number-lt10.false, ← c.digit_of-last.ensures) (printed_both c.put_decimal-next.ensures c.put-2.ensures)
