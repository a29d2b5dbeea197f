-- `typing_simple::kind_named` meets its contract. Assumes nothing.
use mathlib.Core.Path.{◌∙◌}
use native.Mathlib.Omega.{arith}
use Rattle.typing_simple.proofs.Shapes.{named_int, named_bool, named_float}
use Rattle.typing_simple.proofs.kind_named.Goals as goal

pub returns-in-16 : goal.returns-in-16
returns-in-16 c = λ k h. named_int k (h ∙ c.in-16.is)

pub returns-in-17 : goal.returns-in-17
returns-in-17 c = λ k h. named_bool k (h ∙ c.in-17.is)

pub returns-in_default : goal.returns-in_default
returns-in_default c = λ k h. named_float k (λ z. omega arith) (λ z. omega arith)
