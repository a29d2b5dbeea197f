-- The functions that read a statement call each other: unread tokens, paired with a rank, fall.
use mathlib.Core.Path.{refl, sym, ◌∙◌}
use native.Mathlib.Omega.{arith}
use borrow.Author.Rules.{rules}
use Rattle.meaning.specs.Tokens.{the, words, marks, numbered, reserved, signs}
use Rattle.reading_expressions.proofs.Answers as answers
use Rattle.reading_expressions.proofs.Answers.{ReadsOn}
use Rattle.reading_expressions.proofs.Laws.{seen}
use Rattle.reading.proofs.Branches as branches
use Rattle.reading.proofs.Laws as law
use Rattle.reading.proofs.Laws.{going}
use Rattle.reading.proofs.+nested_statements.Goals as goal

-- A branch or a body.
pub opening-returns-then-not-may_begin : goal.opening-returns-then-not-may_begin
opening-returns-then-not-may_begin t c = answers.shows_refused (search)
    (λ ts h. law.opening_none _ (seen h (search rules)) (rw c.kind.ensures at (sym c.may_begin.ensures ∙ c.if-not-may_begin.true)))

pub opening-returns-then-room-eq0 : goal.opening-returns-then-room-eq0
opening-returns-then-room-eq0 t c = answers.shows_refused (search)
    (λ ts h. law.opening_deep _ (seen h (search rules)) (rw c.kind.ensures at (sym c.may_begin.ensures ∙ c.if-not-may_begin.false)) (search))

pub opening-returns : goal.opening-returns
opening-returns t c = let may = rw c.kind.ensures at (sym c.may_begin.ensures ∙ c.if-not-may_begin.false) in
    answers.shows_alike c.statement.ensures (omega arith) (λ ts h. law.opening_is _ (seen h (search rules)) may (search))

-- `else`.
pub otherwise-returns-in_default : goal.otherwise-returns-in_default
otherwise-returns-in_default t c = answers.refuses_unexpected c.in_default.ensures c.in_default.is (λ ts h none. law.other_none _ (seen h (search rules)) none)

pub otherwise-opening-requires : goal.otherwise-opening-requires
otherwise-opening-requires t c = let word = c.in-Ok.ensures.done in (omega (arith, word), rw word.1 (answers.ready_next c.requires word.0 (omega arith)))

pub otherwise-returns : goal.otherwise-returns
otherwise-returns t c = let word = c.in-Ok.ensures.done in
    answers.shows_alike c.opening.ensures (omega (arith, word)) (λ ts h. rw word.1 (law.other_is _ (seen h (search rules)) word.0))

-- `scalar`.
pub scalar-opening-requires : goal.scalar-opening-requires
unfolding the words marks numbered reserved signs
scalar-opening-requires t c = let pre = c.requires in (omega arith, answers.ready_behind pre.ready_to_read pre.at_value (omega arith))

pub scalar-returns-in_err-body : goal.scalar-returns-in_err-body
scalar-returns-in_err-body t c = answers.hands_up c.in_err-body.ensures c.from_residual.ensures.1 (λ ts h said. law.scalar_refused _ (seen h (search rules)) (search) said)

pub scalar-returns : goal.scalar-returns
scalar-returns t c = let pre = c.requires in
    let body = c.in_ok-body.ensures in
    answers.shows_then body c.put_head.ensures.0 (λ m. omega arith)
    (λ ts h d. law.scalar_read _ (seen h pre.ready_to_read.within) pre.at_value (omega (arith, pre.ready_to_read)) (omega (arith, pre.ready_to_read, body.moved, c.opening.auto)) d (rw c.place-place.ensures at c.put_head.ensures.1))

-- `while`.
pub while_loop-condition-requires : goal.while_loop-condition-requires
unfolding the words marks numbered reserved signs
while_loop-condition-requires t c = let pre = c.requires in answers.ready_behind pre.ready_to_read pre.at_value (omega arith)

pub while_loop-returns-in_err-test : goal.while_loop-returns-in_err-test
while_loop-returns-in_err-test t c = answers.hands_up c.in_err-test.ensures c.from_residual.ensures.1 (λ ts h said. law.while_test_refused _ (seen h (search rules)) (search) said)

pub while_loop-returns-in_err-body : goal.while_loop-returns-in_err-body
while_loop-returns-in_err-body t c = let pre = c.requires in
    branches.body_refused _ pre.ready_to_read c.in_ok-test.ensures c.in_err-body.ensures c.from_residual-in_err-body.ensures.1 pre.at_value

pub while_loop-returns : goal.while_loop-returns
while_loop-returns t c = let pre = c.requires in
    branches.while_reads _ pre.ready_to_read c.in_ok-test.ensures c.condition.auto.tree c.in_ok-body.ensures c.opening.auto.tree
    pre.at_value c.place-place.ensures c.put_long_head.ensures

-- `if`.
pub if_else-condition-requires : goal.if_else-condition-requires
unfolding the words marks numbered reserved signs
if_else-condition-requires t c = let pre = c.requires in answers.ready_behind pre.ready_to_read pre.at_value (omega arith)

pub if_else-returns-in_err-test : goal.if_else-returns-in_err-test
if_else-returns-in_err-test t c = answers.hands_up c.in_err-test.ensures c.from_residual.ensures.1 (λ ts h said. law.if_test_refused _ (seen h (search rules)) (search) said)

pub if_else-returns-in_err-first : goal.if_else-returns-in_err-first
if_else-returns-in_err-first t c = let pre = c.requires in
    branches.first_refused _ pre.ready_to_read c.in_ok-test.ensures c.in_err-first.ensures c.from_residual-in_err-first.ensures.1 pre.at_value

pub if_else-returns-in_err-second : goal.if_else-returns-in_err-second
if_else-returns-in_err-second t c = let pre = c.requires in
    branches.second_refused _ pre.ready_to_read c.in_ok-test.ensures c.condition.auto.tree c.in_ok-first.ensures c.opening.auto.tree
    pre.at_value c.in_err-second.ensures c.from_residual-in_err-second.ensures.1

pub if_else-returns : goal.if_else-returns
if_else-returns t c = let pre = c.requires in
    branches.if_reads _ pre.ready_to_read c.in_ok-test.ensures c.condition.auto.tree c.in_ok-first.ensures c.opening.auto.tree
    pre.at_value c.in_ok-second.ensures c.otherwise.auto.tree c.place-place.ensures c.put_long_head.ensures

-- Statements up to a token that closes them.
pub statements-loop-tree-init : goal.statements-loop-tree-init
statements-loop-tree-init t c = record { moved = omega arith; kept = refl; so_far = λ ts h. law.list_begins _ _ ts _ _ _ }

pub statements-returns-in_err-reached : goal.statements-returns-in_err-reached
statements-returns-in_err-reached t c = let g = c.loop-tree.invariant in
    answers.hands_up c.in_err-reached.ensures c.from_residual.ensures.1
    (λ ts h said. law.list_fails _ _ ts (seen h g.moved.within) (omega (arith, answers.held_count h)) (g.so_far ts h) (λ is. c.loop-tree-test.true (c.kind.ensures ∙ is)) said)

pub statements-loop-tree-preserved : goal.statements-loop-tree-preserved
statements-loop-tree-preserved t c = let g = c.loop-tree.invariant in
    let one = c.in_ok-reached.ensures in
    let m = one.moved in
    record {
      moved = omega arith;
      kept = c.statement.auto.tree ∙ g.kept;
      so_far = λ ts h. law.list_goes_on _ _ ts (seen h g.moved.within) (omega (arith, answers.held_count h)) (g.so_far ts h) (λ is. c.loop-tree-test.true (c.kind.ensures ∙ is)) (omega arith)
          (one.done ts h);
    }

pub statements-returns : goal.statements-returns
statements-returns t c = let g = c.loop-tree.invariant in
    answers.shows_done refl g.moved
    (λ ts h. law.list_ends _ _ ts (seen h g.moved.within) (omega (arith, answers.held_count h)) (g.so_far ts h) (sym c.kind.ensures ∙ c.loop-tree-test.false))

-- A sequence in braces.
pub braces-returns-then-room-eq0 : goal.braces-returns-then-room-eq0
braces-returns-then-room-eq0 t c = answers.shows_refused (search) (λ ts h. law.braces_deep _ (seen h (search rules)) (search) (search))

pub braces-statements-requires : goal.braces-statements-requires
unfolding the words marks numbered reserved signs
braces-statements-requires t c = let pre = c.requires in (omega arith, answers.ready_behind pre.ready_to_read pre.at_value (omega arith))

pub braces-returns-in_err-inside : goal.braces-returns-in_err-inside
braces-returns-in_err-inside t c = answers.hands_up c.in_err-inside.ensures c.from_residual.ensures.1 (λ ts h said. law.braces_refused _ (seen h (search rules)) (search) (search) said)

pub braces-returns-in_err-close : goal.braces-returns-in_err-close
braces-returns-in_err-close t c = let pre = c.requires in
    let inside = c.in_ok-inside.ensures in
    answers.shows_unexpected c.in_err-close.ensures c.from_residual-in_err-close.ensures.1
    (λ ts h none. law.braces_open _ (seen h pre.ready_to_read.within) pre.at_value c.if-room-eq0.false (seen h inside.moved.within) (inside.done ts h).is none)

pub braces-returns : goal.braces-returns
braces-returns t c = let pre = c.requires in
    let inside = c.in_ok-inside.ensures in
    let ended = c.in_ok-close.ensures.done in
    answers.shows_then inside c.put_head.ensures.0
    (λ m. omega (arith, ended.1, answers.past pre.ready_to_read.text m.within ended.0 (omega arith)))
    (λ ts h d. rw ended.1 (law.braces_read _ (seen h pre.ready_to_read.within) pre.at_value c.if-room-eq0.false (seen h inside.moved.within) ended.0 (omega (arith, pre.ready_to_read))
    (omega (arith, pre.ready_to_read, inside.moved, c.statements.auto)) d (rw c.place-place.ensures at c.put_head.ensures.1)))

-- A statement.
pub statement-node-requires : goal.statement-node-requires
statement-node-requires t c = answers.unit-fits c.requires (sym c.kind-kind.ensures ∙ c.in-52.is) (omega arith)

pub statement-braces-requires : goal.statement-braces-requires
unfolding the words marks numbered reserved signs
statement-braces-requires t c = (omega arith, (c.requires, sym c.kind-kind.ensures ∙ c.in-53.is))

pub statement-declaration-requires-clause-begins_declaration : goal.statement-declaration-requires-clause-begins_declaration
statement-declaration-requires-clause-begins_declaration t c = law.begins_declaration (grind (arith, c.kind-kind.ensures))

pub statement-assignment-requires-clause-at_value : goal.statement-assignment-requires-clause-at_value
unfolding the words marks numbered reserved signs
statement-assignment-requires-clause-at_value t c = sym c.kind-kind.ensures ∙ c.in-2.is

pub statement-if_else-requires : goal.statement-if_else-requires
unfolding the words marks numbered reserved signs
statement-if_else-requires t c = (omega arith, (c.requires, sym c.kind-kind.ensures ∙ c.in-19.is))

pub statement-while_loop-requires : goal.statement-while_loop-requires
unfolding the words marks numbered reserved signs
statement-while_loop-requires t c = (omega arith, (c.requires, sym c.kind-kind.ensures ∙ c.in-21.is))

pub statement-scalar-requires : goal.statement-scalar-requires
unfolding the words marks numbered reserved signs
statement-scalar-requires t c = (omega arith, (c.requires, sym c.kind-kind.ensures ∙ c.in-22.is))

pub statement-returns-in-52 : goal.statement-returns-in-52
statement-returns-in-52 t c = let is = sym c.kind-kind.ensures ∙ c.in-52.is in
    answers.shows_leaf (rw c.place.ensures at c.node.ensures) (answers.goes_on c.requires is (omega arith)) (λ ts h. law.read_empty _ (seen h (search rules)) is)

pub statement-returns-in_default : goal.statement-returns-in_default
statement-returns-in_default t c = answers.shows_refused (search)
    (λ ts h. law.read_none _ (seen h (search rules)) c.kind-kind.ensures (grind arith) (grind arith) (grind arith) (grind arith) (grind arith) (grind arith) (grind arith) (grind arith) (grind arith))
