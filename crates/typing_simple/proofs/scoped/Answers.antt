-- `typing_simple::scoped` meets its contract. Assumes nothing.
use mathlib.Core.Path.{sym, ◌∙◌}
use Rattle.layout.proofs.Handed.{handed_up}
use Rattle.typing_simple.proofs.scoped.Goals as goal

pub returns-in_err-reached : goal.returns-in_err-reached
returns-in_err-reached c = record { same = handed_up c.from_residual.result c.from_residual.ensures.1 ∙ sym c.in_err-reached.was; closes = rw c.in_err-reached.was tt }

pub close-requires : goal.close-requires
close-requires c = let o = rw c.in_ok-reached.was at c.requires in (o.order, o.few, o.room)

pub returns : goal.returns
returns c = record { same = sym c.in_ok-reached.was; closes = rw c.in_ok-reached.was c.close.ensures }
