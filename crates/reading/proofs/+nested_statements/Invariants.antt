-- The functions that read a statement call each other: unread tokens, paired with a rank, fall.
use Prim.Native.Nat.{◌+◌, ◌*◌, ◌-◌}
use Rattle.layout.specs.Words.{flat_stmts}
use Rattle.reading_expressions.specs.Contract.{token_count}
use Rattle.reading_expressions.proofs.Answers.{ReadsOn}
use Rattle.reading.specs.Contract.{listed}
use Rattle.reading.proofs.Laws.{going}
use Rattle.reading.proofs.+nested_statements.Given as goal

abbrev pub decreases-braces : goal.decreases-braces
decreases-braces l = (token_count l.tokens.now - l.at) * 8 + 1

abbrev pub decreases-if_else : goal.decreases-if_else
decreases-if_else l = (token_count l.tokens.now - l.at) * 8 + 1

abbrev pub decreases-opening : goal.decreases-opening
decreases-opening l = (token_count l.tokens.now - l.at) * 8 + 3

abbrev pub decreases-otherwise : goal.decreases-otherwise
decreases-otherwise l = (token_count l.tokens.now - l.at) * 8 + 4

abbrev pub decreases-scalar : goal.decreases-scalar
decreases-scalar l = (token_count l.tokens.now - l.at) * 8 + 1

abbrev pub decreases-statement : goal.decreases-statement
decreases-statement l = (token_count l.tokens.now - l.at) * 8 + 2

abbrev pub decreases-statements : goal.decreases-statements
decreases-statements l = (token_count l.tokens.now - l.at) * 8 + 3

abbrev pub decreases-while_loop : goal.decreases-while_loop
decreases-while_loop l = (token_count l.tokens.now - l.at) * 8 + 1

abbrev pub invariant-statements-loop-tree : goal.invariant-statements-loop-tree
invariant-statements-loop-tree l = ReadsOn 0 (λ ts. listed ts l.close l.room l.at) (λ ts. going ts l.close l.room) flat_stmts l.tokens l.at l.initial.tree l.size l.tree l.reached.count l.reached.size

abbrev pub decreases-statements-loop-tree : goal.decreases-statements-loop-tree
decreases-statements-loop-tree l = token_count l.tokens - l.reached.count
