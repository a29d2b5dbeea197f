-- `blocks::single_signs` meets its contract. Assumes nothing.
use borrow.Enum.Refused.{opened}
use Rattle.meaning.specs.Running.{float_unary}
use mathlib.Core.Path.{◌≡◌, sym, ap, ◌∙◌}
use lib.ListN.{length, replicate}
use Rattle.blocks.proofs.ByKind.{no_unary, map_zeros}
use borrow.Author.Rules.{rules}
use Rattle.blocks.proofs.single_signs.Goals as goal

pub returns-in-Neg : goal.returns-in-Neg
unfolding float_unary
returns-in-Neg c = rw c.in-Neg.is c.minuses.ensures

pub returns-in-Inv : goal.returns-in-Inv
returns-in-Inv c = let a = c.args in
    let long : length a.x ≡ 16 = search rules in
    c.all.ensures ∙ ap (λ n. replicate n 0) (sym long) ∙ map_zeros (float_unary a.operator) (no_unary a.operator (search opened)) a.x
