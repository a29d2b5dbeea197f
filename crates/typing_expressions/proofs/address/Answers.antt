-- `typing_expressions::address` meets its contract. Assumes nothing.
use mathlib.Core.Path.{◌∙◌}
use native.Mathlib.Omega.{arith}
use Rattle.typing_expressions.proofs.Tables.{whole-size, need-entries, rounded}
use Rattle.typing_expressions.proofs.address.Goals as goal

pub next_multiple_of-requires : goal.next_multiple_of-requires
next_multiple_of-requires c = let p = c.requires in let z = whole-size c.args.kind p.1 in
    let end = c.need.ensures p.0.the ∙ need-entries p.0.the c.args.table.now c.args.count in
    record { nonzero = omega (arith, z.some, c.whole.ensures); fits = omega (arith, z.some, z.few, c.whole.ensures, end, p.0.is.small, p.0.is.few) }

pub returns : goal.returns
returns c = let p = c.requires in let z = whole-size c.args.kind p.1 in let r = c.next_multiple_of.ensures in
    let end = c.need.ensures p.0.the ∙ need-entries p.0.the c.args.table.now c.args.count in
    rounded _ _ _ z.some (rw (← end) r.lower_bound) (rw (← end, ← c.whole.ensures) r.upper_bound) (rw (← c.whole.ensures) r.multiple)
