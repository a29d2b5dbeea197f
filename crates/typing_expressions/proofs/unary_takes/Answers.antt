-- `typing_expressions::unary_takes` meets its contract. Assumes nothing.
use mathlib.Core.Path.{◌∙◌}
use Rattle.std.proofs.Common.{rules}
use Rattle.meaning.specs.Tree.{kind_number, same_kind, ◌one_of◌, unary_table}
use Rattle.typing_expressions.proofs.Tags.{only_kind}
use Rattle.typing_expressions.proofs.unary_takes.Goals as goal

pub returns-in-Int : goal.returns-in-Int
unfolding unary_table ◌one_of◌ same_kind kind_number
returns-in-Int c = search rules

pub returns-in_default : goal.returns-in_default
unfolding unary_table ◌one_of◌ same_kind kind_number
returns-in_default c = search rules

pub returns-in-Inv : goal.returns-in-Inv
unfolding unary_table
returns-in-Inv c = c.eq.ensures ∙ rw c.in-Inv.is (only_kind _ _)

pub returns-in-Not : goal.returns-in-Not
unfolding unary_table
returns-in-Not c = c.eq-in-Not.ensures ∙ rw c.in-Not.is (only_kind _ _)
