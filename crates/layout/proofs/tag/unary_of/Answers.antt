-- `layout::tag::unary_of` meets its contract: each arm by a look at the table of operators.
use Rattle.meaning.specs.Tokens.{the, words, marks, numbered, reserved, signs}
use Rattle.meaning.specs.Tree.{unary_table}
use Rattle.layout.specs.Words.{unary_tag, sign_of}
use Rattle.layout.proofs.Operators.{sign_last}
use Rattle.layout.proofs.tag.unary_of.Goals as goal

pub returns-in-191 : goal.returns-in-191
unfolding sign_of unary_tag unary_table the words marks numbered reserved signs
returns-in-191 c = rw c.in-191.is

pub returns-in-196 : goal.returns-in-196
unfolding sign_of unary_tag unary_table the words marks numbered reserved signs
returns-in-196 c = rw c.in-196.is

pub returns-in_default : goal.returns-in_default
unfolding sign_of unary_tag unary_table the words marks numbered reserved signs
returns-in_default c = sign_last {t = c.args.tag} (search) (search)
