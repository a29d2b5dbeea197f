-- `typing::alone`, `typing::braces`, `typing::branch`, `typing::choice`, `typing::cycle`, `typing::statement`, `typing::statements` meet their contracts. Assumes nothing.
use mathlib.Core.Path.{refl, ◌∙◌}
use native.Mathlib.Omega.{arith}
use Rattle.meaning.specs.Typing.{typed_statement}
use Rattle.layout.proofs.Handed.{handed_up}
use Rattle.typing_expressions.proofs.Tables.{listed_one}
use Rattle.typing_simple.proofs.Words.{rest_long}
use Rattle.typing_simple.proofs.Walk.{room_again}
use Rattle.typing.proofs.Shapes.{shape, long_shape, empty_shape, braces_shape, assign_shape, choice_shape, cycle_shape, alone_shape, declare_shape}
use Rattle.typing.proofs.Walk
use Rattle.typing.proofs.Sequence.{sequel_start, sequel_end, sequel_inside, sequel_statement, sequel_room, sequel_refused, sequel_next}
use Rattle.typing.proofs.+nested_statements.Goals as goal

-- ---- `scalar`
pub alone-branch-nest-requires : goal.alone-branch-nest-requires
alone-branch-nest-requires t c = let g = c.requires.typing_room in
    let k = c.requires.there_is.is in
    (omega (arith, c.decreases), (room_again g g.rows listed_one (omega (arith, rest_long c.args.tree.now 3 c.args.at.size k.long)) refl refl, record { the = k.body; is = k.its_body }))

pub alone-returns-in_err-body : goal.alone-returns-in_err-body
alone-returns-in_err-body t c = rw (handed_up c.from_residual.result c.from_residual.ensures.1) (λ s k. Walk.alone_no c.requires.typing_room k c.in_err-body.ensures)

pub alone-overflow_sub-body : goal.alone-overflow_sub-body
alone-overflow_sub-body t c = (Walk.alone_ends c.requires.typing_room c.requires.there_is.is c.in_ok-body.ensures c.branch-nest.auto.code).0

pub alone-overflow_cast-body : goal.alone-overflow_cast-body
alone-overflow_cast-body t c = omega (arith, (Walk.alone_ends c.requires.typing_room c.requires.there_is.is c.in_ok-body.ensures c.branch-nest.auto.code).2)

pub alone-returns : goal.alone-returns
alone-returns t c = λ s k. Walk.alone_ok c.requires.typing_room k c.in_ok-body.ensures c.branch-nest.auto.code c.put_unit.ensures

-- ---- braces
pub braces-scoped-requires : goal.braces-scoped-requires
braces-scoped-requires t c = let k = c.requires.there_is.is in Walk.can_close (c.statements-all.ensures k.inside k.all)

pub braces-returns : goal.braces-returns
braces-returns t c = λ s k. Walk.braces_ok c.requires.typing_room k (c.statements-all.ensures k.inside k.all) c.scoped.ensures

-- ---- a branch or a body
pub branch-scoped-requires : goal.branch-scoped-requires
branch-scoped-requires t c = let some = c.requires.there_is in Walk.can_close (c.statement-one.ensures some.the some.is)

pub branch-returns : goal.branch-returns
branch-returns t c = λ s k. Walk.scope_walks c.requires.typing_room (typed_statement c.args.at.context s) (c.statement-one.ensures s k) c.scoped.ensures

-- ---- `if`
pub choice-returns-in_err-first : goal.choice-returns-in_err-first
choice-returns-in_err-first t c = rw (handed_up c.from_residual.result c.from_residual.ensures.1) (λ s x. Walk.choice_test c.requires.typing_room x c.in_err-first.ensures)

pub choice-branch-nest-requires : goal.choice-branch-nest-requires
choice-branch-nest-requires t c = let h = Walk.chosen c.requires.typing_room c.word-one.ensures c.word.ensures c.requires.there_is.is c.in_ok-first.ensures in
    (omega (arith, c.decreases), (Walk.choice_first_room h c.inside.auto.code c.inside.auto.stack, record { the = h.parts.first; is = h.parts.its_first }))

pub choice-returns-in_err-yes : goal.choice-returns-in_err-yes
choice-returns-in_err-yes t c = rw (handed_up c.from_residual-in_err-yes.result c.from_residual-in_err-yes.ensures.1) (λ s x. let h = Walk.chosen c.requires.typing_room c.word-one.ensures c.word.ensures x c.in_ok-first.ensures in
    Walk.choice_first h c.in_err-yes.ensures)

pub choice-branch-nest-requires-2 : goal.choice-branch-nest-requires-2
choice-branch-nest-requires-2 t c = let h = Walk.chosen c.requires.typing_room c.word-one.ensures c.word.ensures c.requires.there_is.is c.in_ok-first.ensures in
    (omega (arith, c.decreases), (Walk.choice_second_room h c.in_ok-yes.ensures (c.branch-nest.auto.code ∙ c.inside.auto.code) (c.branch-nest.auto.stack ∙ c.inside.auto.stack), record { the = h.parts.second; is = h.parts.its_second }))

pub choice-returns-in_err-no : goal.choice-returns-in_err-no
choice-returns-in_err-no t c = rw (handed_up c.from_residual-in_err-no.result c.from_residual-in_err-no.ensures.1) (λ s x. let h = Walk.chosen c.requires.typing_room c.word-one.ensures c.word.ensures x c.in_ok-first.ensures in
    Walk.choice_second h c.in_ok-yes.ensures c.in_err-no.ensures)

pub choice-overflow_sub-long : goal.choice-overflow_sub-long
choice-overflow_sub-long t c = let h = Walk.chosen c.requires.typing_room c.word-one.ensures c.word.ensures c.requires.there_is.is c.in_ok-first.ensures in
    (Walk.choice_head h c.in_ok-yes.ensures c.in_ok-no.ensures c.inside.auto.code c.branch-nest.auto.code c.branch-nest-2.auto.code).first

pub choice-overflow_cast-long : goal.choice-overflow_cast-long
choice-overflow_cast-long t c = let h = Walk.chosen c.requires.typing_room c.word-one.ensures c.word.ensures c.requires.there_is.is c.in_ok-first.ensures in
    omega (arith, (Walk.choice_head h c.in_ok-yes.ensures c.in_ok-no.ensures c.inside.auto.code c.branch-nest.auto.code c.branch-nest-2.auto.code).low)

pub choice-put_head-requires : goal.choice-put_head-requires
choice-put_head-requires t c = let h = Walk.chosen c.requires.typing_room c.word-one.ensures c.word.ensures c.requires.there_is.is c.in_ok-first.ensures in
    (Walk.choice_head h c.in_ok-yes.ensures c.in_ok-no.ensures c.inside.auto.code c.branch-nest.auto.code c.branch-nest-2.auto.code).room

pub choice-returns : goal.choice-returns
choice-returns t c = λ s x. let h = Walk.chosen c.requires.typing_room c.word-one.ensures c.word.ensures x c.in_ok-first.ensures in
    Walk.choice_ok h c.in_ok-yes.ensures c.in_ok-no.ensures c.inside.auto.code c.branch-nest.auto.code c.branch-nest-2.auto.code c.put_head.ensures

-- ---- `while`
pub cycle-returns-in_err-start : goal.cycle-returns-in_err-start
cycle-returns-in_err-start t c = rw (handed_up c.from_residual.result c.from_residual.ensures.1) (λ s x. Walk.cycle_test c.requires.typing_room x c.in_err-start.ensures)

pub cycle-branch-nest-requires : goal.cycle-branch-nest-requires
cycle-branch-nest-requires t c = let h = Walk.begun c.requires.typing_room c.word-one.ensures c.requires.there_is.is c.in_ok-start.ensures in
    (omega (arith, c.decreases), (Walk.cycle_body_room h c.inside.auto.code c.inside.auto.stack, record { the = h.parts.body; is = h.parts.its_body }))

pub cycle-returns-in_err-body : goal.cycle-returns-in_err-body
cycle-returns-in_err-body t c = rw (handed_up c.from_residual-in_err-body.result c.from_residual-in_err-body.ensures.1) (λ s x. let h = Walk.begun c.requires.typing_room c.word-one.ensures x c.in_ok-start.ensures in
    Walk.cycle_body h c.in_err-body.ensures)

pub cycle-put_head-requires : goal.cycle-put_head-requires
cycle-put_head-requires t c = let h = Walk.begun c.requires.typing_room c.word-one.ensures c.requires.there_is.is c.in_ok-start.ensures in
    Walk.cycle_room h c.in_ok-body.ensures c.inside.auto.code c.branch-nest.auto.code

pub cycle-returns : goal.cycle-returns
cycle-returns t c = λ s x. let h = Walk.begun c.requires.typing_room c.word-one.ensures x c.in_ok-start.ensures in
    Walk.cycle_ok h c.in_ok-body.ensures c.inside.auto.code c.branch-nest.auto.code c.put_head.ensures

-- ---- a statement, by its tag
pub statement-bounds-tree-0 : goal.statement-bounds-tree-0
statement-bounds-tree-0 t c = omega (arith, long_shape (shape refl c.requires.there_is.is))

pub statement-empty-requires : goal.statement-empty-requires
statement-empty-requires t c = let e = empty_shape (shape c.in-52.is c.requires.there_is.is) in
    (record { the = c.requires.there_is.the; is = e }, omega (arith, c.requires.typing_room.code_room, e.long))

pub statement-assignment-requires-clause-there_is : goal.statement-assignment-requires-clause-there_is
statement-assignment-requires-clause-there_is t c = record { the = c.requires.there_is.the; is = assign_shape (shape c.in-2.is c.requires.there_is.is) }

pub statement-overflow_sub-nest : goal.statement-overflow_sub-nest
statement-overflow_sub-nest t c = (braces_shape (shape c.in-53.is c.requires.there_is.is)).0

pub statement-braces-requires : goal.statement-braces-requires
statement-braces-requires t c = let k = braces_shape (shape c.in-53.is c.requires.there_is.is) in
    (omega (arith, c.decreases, k.0), (c.requires.typing_room, record { the = c.requires.there_is.the; is = k.1 }))

pub statement-overflow_sub-nest-in-19 : goal.statement-overflow_sub-nest-in-19
statement-overflow_sub-nest-in-19 t c = (choice_shape (shape c.in-19.is c.requires.there_is.is)).0

pub statement-choice-requires : goal.statement-choice-requires
statement-choice-requires t c = let k = choice_shape (shape c.in-19.is c.requires.there_is.is) in
    (omega (arith, c.decreases, k.0), (c.requires.typing_room, record { the = c.requires.there_is.the; is = k.1 }))

pub statement-overflow_sub-nest-in-21 : goal.statement-overflow_sub-nest-in-21
statement-overflow_sub-nest-in-21 t c = (cycle_shape (shape c.in-21.is c.requires.there_is.is)).0

pub statement-cycle-requires : goal.statement-cycle-requires
statement-cycle-requires t c = let k = cycle_shape (shape c.in-21.is c.requires.there_is.is) in
    (omega (arith, c.decreases, k.0), (c.requires.typing_room, record { the = c.requires.there_is.the; is = k.1 }))

pub statement-overflow_sub-nest-in-22 : goal.statement-overflow_sub-nest-in-22
statement-overflow_sub-nest-in-22 t c = (alone_shape (shape c.in-22.is c.requires.there_is.is)).0

pub statement-alone-requires : goal.statement-alone-requires
statement-alone-requires t c = let k = alone_shape (shape c.in-22.is c.requires.there_is.is) in
    (omega (arith, c.decreases, k.0), (c.requires.typing_room, record { the = c.requires.there_is.the; is = k.1 }))

pub statement-declaration-requires-clause-there_is : goal.statement-declaration-requires-clause-there_is
statement-declaration-requires-clause-there_is t c = record { the = c.requires.there_is.the; is = declare_shape (shape refl c.requires.there_is.is) (λ z. omega arith) (λ z. omega arith) (λ z. omega arith) (λ z. omega arith) (λ z. omega arith) (λ z. omega arith) }

pub statement-returns-in-52 : goal.statement-returns-in-52
statement-returns-in-52 t c = λ s x. let e = empty_shape (shape c.in-52.is x) in Walk.step_walks c.requires.typing_room e.long (c.empty.ensures s e)

pub statement-returns-in-2 : goal.statement-returns-in-2
statement-returns-in-2 t c = λ s x. c.assignment.ensures s (assign_shape (shape c.in-2.is x))

pub statement-returns-in-53 : goal.statement-returns-in-53
statement-returns-in-53 t c = λ s x. c.braces.ensures s (braces_shape (shape c.in-53.is x)).1

pub statement-returns-in-19 : goal.statement-returns-in-19
statement-returns-in-19 t c = λ s x. c.choice.ensures s (choice_shape (shape c.in-19.is x)).1

pub statement-returns-in-21 : goal.statement-returns-in-21
statement-returns-in-21 t c = λ s x. c.cycle.ensures s (cycle_shape (shape c.in-21.is x)).1

pub statement-returns-in-22 : goal.statement-returns-in-22
statement-returns-in-22 t c = λ s x. c.alone.ensures s (alone_shape (shape c.in-22.is x)).1

pub statement-returns-in_default : goal.statement-returns-in_default
statement-returns-in_default t c = λ s x. c.declaration.ensures s (declare_shape (shape refl x) (λ z. omega arith) (λ z. omega arith) (λ z. omega arith) (λ z. omega arith) (λ z. omega arith) (λ z. omega arith))

-- ---- a sequence
pub statements-loop-i-init : goal.statements-loop-i-init
statements-loop-i-init t c = sequel_start c.requires.typing_room c.requires.there_is

pub statements-word-requires : goal.statements-word-requires
statements-word-requires t c = omega (arith, sequel_inside c.loop-i.invariant c.loop-i-test.true refl)

pub statements-slice_bounds-statement-end : goal.statements-slice_bounds-statement-end
statements-slice_bounds-statement-end t c = let loop = c.loop-i in sequel_inside loop.invariant c.loop-i-test.true c.word.ensures

pub statements-statement-requires : goal.statements-statement-requires
statements-statement-requires t c = let loop = c.loop-i in
    (omega (arith, c.decreases), (sequel_room loop.invariant c.loop-i-test.true c.word.ensures, sequel_statement loop.invariant c.loop-i-test.true c.word.ensures))

pub statements-returns-in_err-so_far : goal.statements-returns-in_err-so_far
statements-returns-in_err-so_far t c = let loop = c.loop-i in
    rw (handed_up c.from_residual.result c.from_residual.ensures.1) (sequel_refused loop.invariant c.loop-i-test.true c.word.ensures c.in_err-so_far.ensures)

pub statements-loop-i-preserved : goal.statements-loop-i-preserved
statements-loop-i-preserved t c = let loop = c.loop-i in
    sequel_next loop.invariant c.loop-i-test.true c.word.ensures c.in_ok-so_far.ensures c.statement.auto.table c.statement.auto.code c.statement.auto.stack

pub statements-returns : goal.statements-returns
statements-returns t c = sequel_end c.loop-i.invariant c.loop-i-test.false
