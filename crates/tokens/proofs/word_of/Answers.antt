-- `tokens::word_of` meets its contract.
use mathlib.Core.Path.{sym, ◌∙◌}
use native.Mathlib.Omega.{arith}
use Rattle.tokens.proofs.Words.{reserved-word, long_name, good_name}
use Rattle.tokens.proofs.word_of.Goals as goal

pub returns-then-kind-ne-NAME : goal.returns-then-kind-ne-NAME
returns-then-kind-ne-NAME c = reserved-word _ _ c.kind-kind.ensures c.if-kind-ne-NAME.true

pub returns-then-len-gt-NAME : goal.returns-then-len-gt-NAME
returns-then-len-gt-NAME c = long_name _ _ (sym c.if-kind-ne-NAME.false ∙ c.kind-kind.ensures) (omega arith)

pub returns : goal.returns
returns c = good_name _ _ (sym c.if-kind-ne-NAME.false ∙ c.kind-kind.ensures) (omega arith)
