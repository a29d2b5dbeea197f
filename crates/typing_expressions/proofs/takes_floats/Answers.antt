-- `typing_expressions::takes_floats` meets its contract. Assumes nothing.
use Rattle.std.proofs.Common.{rules}
use Rattle.meaning.specs.Tree.{kind_number, same_kind, ◌one_of◌, table}
use Rattle.typing_expressions.proofs.takes_floats.Goals as goal

pub returns : goal.returns
unfolding table kind_number same_kind ◌one_of◌
returns c = search rules
