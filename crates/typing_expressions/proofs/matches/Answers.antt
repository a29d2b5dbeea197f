-- `typing_expressions::matches` meets its contract. Assumes nothing.
use Rattle.std.proofs.Common.{rules}
use Rattle.meaning.specs.Typing.{match}
use Rattle.typing_expressions.proofs.matches.Goals as goal

pub returns-then-n-eq1 : goal.returns-then-n-eq1
unfolding match
returns-then-n-eq1 c = search rules

pub returns-else-n-eq1 : goal.returns-else-n-eq1
unfolding match
returns-else-n-eq1 c = search rules
