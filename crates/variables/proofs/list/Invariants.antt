-- The invariant of the loop of `variables::list`: the first i records are written.
use Rattle.variables.proofs.Laws.{Listing}
use Rattle.variables.proofs.list.Given as goal

abbrev pub invariant-loop-i : goal.invariant-loop-i
invariant-loop-i l = Listing l.table l.initial.records l.i l.records
