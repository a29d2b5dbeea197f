-- `condition` reads `(`, and what stands in the parentheses.
use native.Mathlib.Omega.{arith}
use borrow.Author.Rules.{rules}
use Rattle.reading_expressions.proofs.Answers.{ready_behind, shows_unexpected, shows_alike}
use Rattle.reading_expressions.proofs.Laws.{seen}
use Rattle.reading.proofs.Laws as law
use Rattle.reading.proofs.condition.Goals as goal

pub returns-in_err-expect : goal.returns-in_err-expect
returns-in_err-expect c = shows_unexpected c.in_err-expect.ensures c.from_residual.ensures.1 (λ ts h no. law.condition_none _ (seen h (search rules)) no)

pub parenthesised-requires : goal.parenthesised-requires
parenthesised-requires c = ready_behind (search) c.in_ok-expect.ensures.done.0 (omega arith)

pub returns : goal.returns
returns c = shows_alike c.parenthesised.ensures (omega arith) (λ ts h. law.condition_is _ (seen h (search rules)) c.in_ok-expect.ensures.done.0)
