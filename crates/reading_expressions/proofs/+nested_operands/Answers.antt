-- The four functions that read an expression call each other: unread tokens, paired with the level, fall.
use Prim.Native.Nat.{◌<◌}
use mathlib.Core.Logic.{◌⊎◌, inl, inr}
use mathlib.Core.Path.{refl, sym, ◌∙◌}
use native.Mathlib.Omega.{arith}
use borrow.Author.Rules.{rules}
use Rattle.meaning.specs.Tokens.{the, words, marks, numbered, reserved, signs}
use Rattle.reading_expressions.proofs.Climbing.{Climb}
use Rattle.reading_expressions.proofs.Answers as answers
use Rattle.reading_expressions.proofs.Climbing as climb
use Rattle.reading_expressions.proofs.Laws as law
use Rattle.reading_expressions.proofs.+nested_operands.Goals as goal
use Rattle.reading_expressions.proofs.+nested_operands.Goals.{binary-then-next-level-via-then-next-level, binary-then-next-level-via-else-next-level+then-last-next}

-- A unary operator.
pub unary-returns-then-room-eq0 : goal.unary-returns-then-room-eq0
unary-returns-then-room-eq0 t c = answers.shows_refused (search) (λ ts h. law.unary_deep _ (law.seen h (search rules)) (search) (search))

pub unary-overflow_add-sign : goal.unary-overflow_add-sign
unary-overflow_add-sign t c = omega (arith, law.sign_bounds _ c.requires.at_value)

pub unary-operand-requires : goal.unary-operand-requires
unary-operand-requires t c = (omega arith, search (answers.ready_next, law.sign_above, rules))

pub unary-returns-in_err-inner : goal.unary-returns-in_err-inner
unary-returns-in_err-inner t c = answers.hands_up c.in_err-inner.ensures c.from_residual.ensures.1
    (λ ts h said. law.unary_refused _ (law.seen h (search rules)) (search) (search) said)

pub unary-returns : goal.unary-returns
unary-returns t c = let put = rw c.kind-sign.ensures at c.put_operator-grown.ensures.1 in
    answers.shows_then c.in_ok-inner.ensures refl (λ m. omega arith)
    (λ ts h d. law.unary_read _ (law.seen h (search rules)) (search) (search) d put)

-- An expression in parentheses.
pub parenthesised-returns-then-room-eq0 : goal.parenthesised-returns-then-room-eq0
parenthesised-returns-then-room-eq0 t c = answers.shows_refused (search) (λ ts h. law.enclosed_deep _ (law.seen h (search rules)) (search))

pub parenthesised-returns-in_err-inner : goal.parenthesised-returns-in_err-inner
parenthesised-returns-in_err-inner t c = answers.hands_up c.in_err-inner.ensures c.from_residual.ensures.1 (λ ts h said. law.enclosed_refused ts _ _ (search) said)

pub parenthesised-returns : goal.parenthesised-returns
parenthesised-returns t c = let inner = c.in_ok-inner.ensures in
    answers.shows_expect (search) inner c.expect.ensures (omega arith)
    (λ ts h a e is. law.enclosed_read ts _ _ (search) (law.seen h inner.moved.within) e is) (λ ts h a e is. law.enclosed_open ts _ _ (search) (law.seen h inner.moved.within) e is)

-- An operand.
pub operand-parenthesised-requires : goal.operand-parenthesised-requires
operand-parenthesised-requires t c = (omega arith, answers.ready_next c.requires (sym c.kind-kind.ensures ∙ c.if-kind-eq-OPEN.true) (omega arith))

pub operand-returns-then-kind-eq-OPEN : goal.operand-returns-then-kind-eq-OPEN
operand-returns-then-kind-eq-OPEN t c = let is = sym c.kind-kind.ensures ∙ c.if-kind-eq-OPEN.true in
    answers.shows_alike c.parenthesised.ensures (omega arith) (λ ts h. law.read_open _ (law.seen h (search rules)) is)

pub operand-leaf-requires-clause-at_value : goal.operand-leaf-requires-clause-at_value
unfolding the numbered reserved signs words marks
operand-leaf-requires-clause-at_value t c = ((cc), λ is. c.if-kind-eq-OPEN.false (c.kind-kind.ensures ∙ is))

pub operand-returns : goal.operand-returns
unfolding the numbered reserved signs words marks
operand-returns t c = answers.shows_alike c.leaf.ensures (omega arith) (λ ts h. law.read_leaf _ (law.seen h (search rules)) (cc) (λ is. c.if-kind-eq-OPEN.false (c.kind-kind.ensures ∙ is)))

-- A level: its first operand, and then a turn for each operator.
pub binary-returns-in_err-left : goal.binary-returns-in_err-left
binary-returns-in_err-left t c = climb.first_refused _ _ c.in_err-left.ensures c.from_residual.ensures.1 (omega arith)

pub binary-loop-left-init : goal.binary-loop-left-init
binary-loop-left-init t c = climb.begins _ _ c.in_ok-left.ensures (omega arith) (search) (search)

pub binary-returns-then-next-level : goal.binary-returns-then-next-level
binary-returns-then-next-level t c =
    let none : (c.level_of-next.result < c.args.level) ⊎ (c.loop-left.last < c.level_of-next.result) = elim c.then-next-level.branch [
      | binary-then-next-level-via-then-next-level w ↦ inl w.if-next-level.true
      | binary-then-next-level-via-else-next-level+then-last-next w ↦ inr w.if-last-next.true
    ] in
    climb.ends _ _ c.in_ok-left.ensures (omega arith) (search) (search) c.loop-left.invariant c.kind-kind.ensures c.level_of-next.ensures none

pub binary-binary-requires : goal.binary-binary-requires
binary-binary-requires t c = let climbs = c.loop-left.invariant in
    let kind = c.kind-kind.ensures in
    let own = c.level_of-next.ensures in
    let turn = climb.turn_level climbs kind own (search) (search) in
    (omega arith, (climb.turn_ready climbs kind own (search) (search), omega arith))

pub binary-returns-in_err-right : goal.binary-returns-in_err-right
binary-returns-in_err-right t c = climb.turn_refused c.loop-left.invariant c.kind-kind.ensures c.level_of-next.ensures (search) (search) c.in_err-right.ensures
    c.from_residual-in_err-right.ensures.1

pub binary-loop-left-preserved : goal.binary-loop-left-preserved
binary-loop-left-preserved t c = climb.turn_read c.loop-left.invariant c.kind-kind.ensures c.level_of-next.ensures (search) (search) c.in_ok-right.ensures (search) (search)
    c.put_operator.ensures
