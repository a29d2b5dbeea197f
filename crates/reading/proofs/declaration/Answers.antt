-- `declaration` reads the type, and then what is declared.
use mathlib.Core.Path.{refl, sym, ◌∙◌}
use native.Mathlib.Omega.{arith}
use Rattle.layout.proofs.Handed.{handed_up}
use Rattle.laws.proofs.The.{the_block}
use Rattle.reading_expressions.proofs.Laws.{seen}
use Rattle.reading_expressions.proofs.Answers.{goes_on, shows_refused}
use Rattle.reading.proofs.LawsValue as law
use Rattle.reading.proofs.declaration.Goals as goal

pub kind-requires : goal.kind-requires
kind-requires c = let pre = c.requires in omega (arith, pre.ready_to_read, goes_on pre.ready_to_read refl (law.declares_above _ pre.begins_declaration))

pub declared-requires-clause-blocked : goal.declared-requires-clause-blocked
declared-requires-clause-blocked c = let pre = c.requires in
    let on = goes_on pre.ready_to_read refl (law.declares_above _ pre.begins_declaration) in
    record { on = omega arith; within = on; what = λ ts h. law.block_none (seen h on) (λ is. c.if-kind-ne-BLOCK.true (c.kind.ensures ∙ is)) }

pub block-requires : goal.block-requires
block-requires c = let pre = c.requires in
    (pre.ready_to_read.text, goes_on pre.ready_to_read refl (law.declares_above _ pre.begins_declaration), sym c.kind.ensures ∙ (c.if-kind-ne-BLOCK.false ∙ sym the_block))

pub returns-in_err-read : goal.returns-in_err-read
returns-in_err-read c = let pre = c.requires in
    shows_refused (handed_up _ c.from_residual.ensures.1) (λ ts h. law.block_refused _ (seen h pre.ready_to_read.within) pre.begins_declaration (c.in_err-read.ensures.refused ts h))
