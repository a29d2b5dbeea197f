-- `typing_expressions::takes_bools` meets its contract. Assumes nothing.
use Rattle.std.proofs.Common.{rules}
use Rattle.meaning.specs.Tree.{kind_number, same_kind, ◌one_of◌, table}
use Rattle.typing_expressions.proofs.takes_bools.Goals as goal

pub returns-in-Or : goal.returns-in-Or
unfolding table kind_number same_kind ◌one_of◌
returns-in-Or c = search rules

pub returns-in_default : goal.returns-in_default
unfolding table kind_number same_kind ◌one_of◌
returns-in_default c = search rules
