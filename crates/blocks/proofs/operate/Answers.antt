-- `blocks::operate` meets its contract. Assumes nothing.
use borrow.Enum.Refused.{opened}
use mathlib.Core.Path.{◌∙◌}
use Rattle.meaning.specs.Running.{binary_of}
use Rattle.blocks.proofs.ByKind.{binary_words}
use Rattle.blocks.proofs.operate.Goals as goal

pub returns-in-Int : goal.returns-in-Int
returns-in-Int c = let a = c.args in c.words.ensures ∙ binary_words a.kind (search opened) a.operator a.x a.y

pub returns-in-Float : goal.returns-in-Float
unfolding binary_of
returns-in-Float c = rw c.in-Float.is c.singles.ensures
