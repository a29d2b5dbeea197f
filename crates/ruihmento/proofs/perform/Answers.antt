-- `ruihmento::perform` meets its contract.
use native.Mathlib.Omega.{arith}
use Rattle.ruihmento.proofs.Running.{leaves_short, spent_low, leaves_spent, leaves_done}
use Rattle.ruihmento.proofs.perform.Goals as goal

pub returns-then-memory-need : goal.returns-then-memory-need
returns-then-memory-need c = λ Γ P p. leaves_short p _ _ c.if-memory-need.true _ c.from.ensures c.tell.ensures

pub overflow_cast-place : goal.overflow_cast-place
overflow_cast-place c = omega (arith, spent_low c.requires.1.2 _ _ c.if-memory-need.false c.in-Err.ensures)

pub returns-in-Err : goal.returns-in-Err
returns-in-Err c = λ Γ P p. leaves_spent p _ _ c.if-memory-need.false c.in-Err.ensures _ c.from-in-Err.ensures c.tell-in-Err.ensures

pub returns-in-Ok : goal.returns-in-Ok
returns-in-Ok c = λ Γ P p. leaves_done p _ _ c.if-memory-need.false c.in-Ok.ensures _ c.tell-in-Ok.ensures
