-- `typing_expressions::compares` meets its contract. Assumes nothing.
use Rattle.std.proofs.Common.{rules}
use Rattle.meaning.specs.Tree.{table}
use Rattle.typing_expressions.specs.Nodes.{a_bool?}
use Rattle.typing_expressions.proofs.compares.Goals as goal

pub returns-in-Eq : goal.returns-in-Eq
unfolding table a_bool?
returns-in-Eq c = search rules

pub returns-in_default : goal.returns-in_default
unfolding table a_bool?
returns-in_default c = search rules
