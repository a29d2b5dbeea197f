-- The four functions that read an expression call each other: unread tokens, paired with the level, fall.
use Prim.Native.Nat.{◌+◌, ◌*◌, ◌-◌}
use Rattle.reading_expressions.specs.Contract.{token_count}
use Rattle.reading_expressions.proofs.Climbing.{Climb}
use Rattle.reading_expressions.proofs.+nested_operands.Given as goal

abbrev pub decreases-binary : goal.decreases-binary
decreases-binary l = (token_count l.tokens.now - l.at) * 16 + (10 - l.level)

abbrev pub decreases-operand : goal.decreases-operand
decreases-operand l = (token_count l.tokens.now - l.at) * 16 + 2

abbrev pub decreases-parenthesised : goal.decreases-parenthesised
decreases-parenthesised l = (token_count l.tokens.now - l.at) * 16 + 1

abbrev pub decreases-unary : goal.decreases-unary
decreases-unary l = (token_count l.tokens.now - l.at) * 16 + 1

abbrev pub invariant-binary-loop-left : goal.invariant-binary-loop-left
invariant-binary-loop-left l = Climb l.level l.last l.room l.tokens l.at l.initial.tree l.size l.tree l.left.count l.left.size

abbrev pub decreases-binary-loop-left : goal.decreases-binary-loop-left
decreases-binary-loop-left l = token_count l.tokens - l.left.count
