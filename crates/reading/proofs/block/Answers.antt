-- `block` reads `[`, N and `]`.
use mathlib.Core.Path.{◌∙◌}
use native.Mathlib.Omega.{arith}
use Rattle.laws.proofs.The.{the_block}
use Rattle.reading.proofs.LawsValue as law
use Rattle.reading.proofs.block.Goals as goal

pub expect-requires : goal.expect-requires
expect-requires c = let pre = c.requires in omega (arith, pre.0, law.open_there pre.0 pre.1 (pre.2 ∙ the_block))

pub returns-in_err-bracket : goal.returns-in_err-bracket
returns-in_err-bracket c = let pre = c.requires in law.open_missing pre.0 pre.1 (pre.2 ∙ the_block) c.in_err-bracket.ensures c.from_residual.ensures.1

pub expect-requires-2 : goal.expect-requires-2
expect-requires-2 c = let pre = c.requires in omega (arith, pre.0, law.number_there pre.0 pre.1 (pre.2 ∙ the_block) c.in_ok-bracket.ensures)

pub returns-in_err-number : goal.returns-in_err-number
returns-in_err-number c = let pre = c.requires in
    law.number_missing pre.0 pre.1 (pre.2 ∙ the_block) c.in_ok-bracket.ensures c.in_err-number.ensures c.from_residual-in_err-number.ensures.1

pub expect-requires-3 : goal.expect-requires-3
expect-requires-3 c = let pre = c.requires in omega (arith, pre.0, law.close_there pre.0 pre.1 (pre.2 ∙ the_block) c.in_ok-bracket.ensures c.in_ok-number.ensures)

pub returns : goal.returns
returns c = let pre = c.requires in law.block_answers pre.0 pre.1 (pre.2 ∙ the_block) c.in_ok-bracket.ensures c.in_ok-number.ensures c.expect-3.ensures
