-- What falls from call to call where the functions that type statements call each other, and what the loop of `typing::statements` keeps.
use Prim.Native.Nat.{◌+◌, ◌*◌, ◌-◌}
use lib.ListN.{length}
use Rattle.typing.proofs.Sequence.{Sequel}
use Rattle.typing.proofs.+nested_statements.Given as goal

abbrev pub decreases-alone : goal.decreases-alone
decreases-alone l = l.nest * 4 + 2

abbrev pub decreases-braces : goal.decreases-braces
decreases-braces l = l.nest * 4 + 2

abbrev pub decreases-branch : goal.decreases-branch
decreases-branch l = l.nest * 4 + 1

abbrev pub decreases-choice : goal.decreases-choice
decreases-choice l = l.nest * 4 + 2

abbrev pub decreases-cycle : goal.decreases-cycle
decreases-cycle l = l.nest * 4 + 2

abbrev pub decreases-statement : goal.decreases-statement
decreases-statement l = l.nest * 4

abbrev pub decreases-statements : goal.decreases-statements
decreases-statements l = l.nest * 4 + 1

abbrev pub invariant-statements-loop-i : goal.invariant-statements-loop-i
invariant-statements-loop-i l = Sequel l.text l.tree l.nest l.at l.initial.table l.initial.code l.initial.stack l.table l.code l.stack l.i l.so_far.count l.so_far.size

abbrev pub decreases-statements-loop-i : goal.decreases-statements-loop-i
decreases-statements-loop-i l = length l.tree - l.i
