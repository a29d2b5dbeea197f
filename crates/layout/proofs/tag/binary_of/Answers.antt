-- `layout::tag::binary_of` meets its contract: each arm by a look at the table of operators.
use Rattle.meaning.specs.Tokens.{the, words, marks, numbered, reserved, signs}
use Rattle.meaning.specs.Tree.{table}
use Rattle.layout.specs.Words.{binary_tag, operator_of}
use Rattle.layout.proofs.Operators.{operator_last}
use Rattle.layout.proofs.tag.binary_of.Goals as goal

pub returns-in-66 : goal.returns-in-66
unfolding operator_of binary_tag table the words marks numbered reserved signs
returns-in-66 c = rw c.in-66.is

pub returns-in-67 : goal.returns-in-67
unfolding operator_of binary_tag table the words marks numbered reserved signs
returns-in-67 c = rw c.in-67.is

pub returns-in-65 : goal.returns-in-65
unfolding operator_of binary_tag table the words marks numbered reserved signs
returns-in-65 c = rw c.in-65.is

pub returns-in-48 : goal.returns-in-48
unfolding operator_of binary_tag table the words marks numbered reserved signs
returns-in-48 c = rw c.in-48.is

pub returns-in-49 : goal.returns-in-49
unfolding operator_of binary_tag table the words marks numbered reserved signs
returns-in-49 c = rw c.in-49.is

pub returns-in-60 : goal.returns-in-60
unfolding operator_of binary_tag table the words marks numbered reserved signs
returns-in-60 c = rw c.in-60.is

pub returns-in-61 : goal.returns-in-61
unfolding operator_of binary_tag table the words marks numbered reserved signs
returns-in-61 c = rw c.in-61.is

pub returns-in-50 : goal.returns-in-50
unfolding operator_of binary_tag table the words marks numbered reserved signs
returns-in-50 c = rw c.in-50.is

pub returns-in-51 : goal.returns-in-51
unfolding operator_of binary_tag table the words marks numbered reserved signs
returns-in-51 c = rw c.in-51.is

pub returns-in-62 : goal.returns-in-62
unfolding operator_of binary_tag table the words marks numbered reserved signs
returns-in-62 c = rw c.in-62.is

pub returns-in-63 : goal.returns-in-63
unfolding operator_of binary_tag table the words marks numbered reserved signs
returns-in-63 c = rw c.in-63.is

pub returns-in_default : goal.returns-in_default
unfolding operator_of binary_tag table the words marks numbered reserved signs
returns-in_default c = operator_last {t = c.args.tag} (search) (search) (search) (search) (search) (search) (search) (search) (search) (search) (search)
