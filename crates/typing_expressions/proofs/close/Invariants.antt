-- What each turn of the loop of `typing_expressions::close` keeps.
use Rattle.typing_expressions.proofs.Tables.{Shut}
use Rattle.typing_expressions.proofs.close.Given as goal

abbrev pub invariant-loop-i : goal.invariant-loop-i
invariant-loop-i l = Shut l.from l.i l.initial.table l.table
