-- `typing_expressions::named` meets its contract. Assumes nothing.
use Rattle.typing_expressions.proofs.Steps.{name_ok}
use Rattle.typing_expressions.proofs.named.Goals as goal

pub returns : goal.returns
returns c = name_ok c.find.ensures c.in-Some.is c.lanes-length.ensures c.if-not-fits.ensures c.kind.ensures c.put.ensures c.requires.spans.1
