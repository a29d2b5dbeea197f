-- `blocks::signs` meets its contract. Assumes nothing.
use borrow.Enum.Refused.{opened}
use mathlib.Core.Path.{◌∙◌}
use Rattle.meaning.specs.Running.{unary_of}
use Rattle.blocks.proofs.ByKind.{unary_words}
use Rattle.blocks.proofs.signs.Goals as goal

pub returns-in-Int : goal.returns-in-Int
returns-in-Int c = let a = c.args in c.word_signs.ensures ∙ unary_words a.kind (search opened) a.operator a.x

pub returns-in-Float : goal.returns-in-Float
unfolding unary_of
returns-in-Float c = rw c.in-Float.is c.single_signs.ensures
