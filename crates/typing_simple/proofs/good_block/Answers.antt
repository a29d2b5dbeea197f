-- `typing_simple::good_block` meets its contract. Assumes nothing.
use borrow.Author.Tests.{eq-eqb, ne_eqb}
use Rattle.typing_simple.proofs.Shapes.{block_listed}
use Rattle.typing_simple.proofs.good_block.Goals as goal

pub returns-then-place-eq0 : goal.returns-then-place-eq0
returns-then-place-eq0 c = λ text b p n q. let e = eq-eqb c.args.place 0 c.if-place-eq0.true in rw e (rw e at (block_listed p n q))

pub returns-else-place-eq0 : goal.returns-else-place-eq0
returns-else-place-eq0 c = λ text b p n q. rw c.listed.ensures (rw (ne_eqb _ _ c.if-place-eq0.false) at (block_listed p n q))
