-- `typing_expressions::declare` meets its contract. Assumes nothing.
use Rattle.typing_expressions.proofs.Steps.{declare_9, declare_6, declare_11, declare_ok}
use Rattle.typing_expressions.proofs.declare.Goals as goal

pub returns-then-not-fits : goal.returns-then-not-fits
returns-then-not-fits c = declare_9 c.if-not-fits.ensures

pub returns-then-is_some : goal.returns-then-is_some
returns-then-is_some c = declare_6 c.if-not-fits.ensures c.find.ensures c.if-is_some.ensures

pub returns-then-count-ge-DECLARATIONS : goal.returns-then-count-ge-DECLARATIONS
returns-then-count-ge-DECLARATIONS c = declare_11 c.if-not-fits.ensures c.find.ensures c.if-is_some.ensures c.if-count-ge-DECLARATIONS.true

pub returns : goal.returns
returns c = declare_ok c.if-not-fits.ensures c.find.ensures c.if-is_some.ensures c.if-count-ge-DECLARATIONS.false c.requires.rows c.requires.spans.0 c.requires.spans.1 c.address-from.ensures c.put.ensures
