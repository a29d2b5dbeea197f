-- `typing_expressions::find` meets its contract. Assumes nothing.
use mathlib.Core.Path.{refl}
use native.Mathlib.Omega.{arith}
use Rattle.std.proofs.Common.{rules}
use Rattle.std.proofs.lemmas.Iterator.{YieldsList-from_range}
use Rattle.std.proofs.lemmas.Iterator.Search.{find_from_yields_List}
use borrow.Author.Tests.{tests}
use Rattle.typing_expressions.specs.Rows.{is_named, spelled}
use Rattle.typing_expressions.proofs.Names.{found}
use Rattle.typing_expressions.proofs.find.Goals as goal

pub returns : goal.returns
returns c =
    found (find_from_yields_List (λ i. is_named c.args.text.now c.args.table.now i (spelled c.args.text.now c.args.place c.args.end)) _ _ c.find.result c.find.ensures.ran
    (YieldsList-from_range 0 c.args.count c.args.count refl (omega arith)) (λ x b q k. search (rules, tests)))
