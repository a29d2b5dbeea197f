-- `typing_simple::value` meets its contract. Assumes nothing.
use Rattle.layout.proofs.Handed.{handed_up}
use Rattle.typing_simple.proofs.Outcomes.{kinds_differ, kinds_agree, value_no, value_8, value_9, value_10, value_ok}
use Rattle.typing_simple.proofs.Walk.{slot_room}
use Rattle.typing_simple.proofs.value.Goals as goal

pub returns-in_err-right : goal.returns-in_err-right
returns-in_err-right c = rw (handed_up c.from_residual.result c.from_residual.ensures.1) (λ e x. value_no c.args.at.context c.args.target e (c.in_err-right.ensures e x))

pub returns-then-ne : goal.returns-then-ne
returns-then-ne c = λ e x. value_8 c.args.at.context c.args.target e (c.in_ok-right.ensures e x) c.kind.ensures c.lanes-n.ensures c.length_or-length.ensures (kinds_differ _ _ c.ne.ensures c.if-ne.true)

pub returns-then-n-length : goal.returns-then-n-length
returns-then-n-length c = λ e x. value_9 c.args.at.context c.args.target e (c.in_ok-right.ensures e x) c.kind.ensures c.lanes-n.ensures c.length_or-length.ensures (kinds_agree _ _ c.ne.ensures c.if-ne.false) c.if-n-ne1.true c.if-n-length.true

pub returns-then-length-eq1 : goal.returns-then-length-eq1
returns-then-length-eq1 c = λ e x. value_10 c.args.at.context c.args.target e (c.in_ok-right.ensures e x) c.kind.ensures c.lanes-n.ensures c.length_or-length.ensures (kinds_agree _ _ c.ne.ensures c.if-ne.false) c.else-n-ne1.either c.if-at-ne1.true c.if-length-eq1.true

pub returns : goal.returns
returns c = λ e x. value_ok c.args.at.context c.args.target e (c.in_ok-right.ensures e x) c.kind.ensures c.lanes-n.ensures c.length_or-length.ensures (kinds_agree _ _ c.ne.ensures c.if-ne.false) c.else-n-ne1.either c.else-at-ne1.either c.word-word.result c.put.ensures (slot_room c.requires.typing_room c.expression.auto.stack)
