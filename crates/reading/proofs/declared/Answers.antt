-- `declared` reads a declaration from its name on, and writes the head before it.
use mathlib.Core.Path.{refl}
use native.Mathlib.Omega.{arith}
use Rattle.reading_expressions.proofs.Laws.{seen}
use Rattle.reading_expressions.proofs.Answers.{past, ready_at, hands_up, shows_unexpected, shows_then}
use Rattle.reading.proofs.LawsValue as law
use Rattle.reading.proofs.declared.Goals as goal

pub returns-in_err-named : goal.returns-in_err-named
returns-in_err-named c = let pre = c.requires in
    shows_unexpected c.in_err-named.ensures c.from_residual.ensures.1
    (λ ts h no. law.declared_none _ (seen h pre.ready_to_read.within) pre.begins_declaration (pre.blocked.what ts h) (seen h pre.blocked.within) no)

pub initial-requires : goal.initial-requires
initial-requires c = let named = c.in_ok-named.ensures.done in
    ready_at c.requires.ready_to_read (rw named.1 (past c.requires.ready_to_read.text c.requires.blocked.within named.0 (omega arith))) (omega (arith, named.1, c.requires.blocked)) refl

pub returns-in_err-rest : goal.returns-in_err-rest
returns-in_err-rest c = let pre = c.requires in
    let named = c.in_ok-named.ensures.done in
    hands_up c.in_err-rest.ensures c.from_residual-in_err-rest.ensures.1
    (λ ts h said. law.declared_refused _ (seen h pre.ready_to_read.within) pre.begins_declaration (pre.blocked.what ts h) (seen h pre.blocked.within) named.0 (rw named.1 at said))

pub returns : goal.returns
returns c = let pre = c.requires in
    let named = c.in_ok-named.ensures.done in
    let rest = c.in_ok-rest.ensures in
    let spelled = rw c.place-spelled.ensures at c.put_unit.ensures in
    let head = rw c.place-begin.ensures at c.put_head.ensures.1 in
    shows_then rest c.put_head.ensures.0 (λ m. omega (arith, named.1, pre.blocked))
    (λ ts h d. law.declared_read _ (seen h pre.ready_to_read.within) pre.begins_declaration (pre.blocked.what ts h) (seen h pre.blocked.within) named.0
    c.kind-kind.ensures (omega (arith, pre, named.1, rest.moved)) (omega (arith, pre, named.1, rest.moved, c.initial.auto))
    (rw (named.1, c.value-end.ensures) at d) spelled head)
