-- `typing_simple::initial` meets its contract. Assumes nothing.
use mathlib.Core.Path.{refl}
use native.Mathlib.Omega.{arith}
use Rattle.layout.proofs.Handed.{handed_up}
use Rattle.typing_simple.proofs.Words.{rest_long}
use Rattle.typing_simple.proofs.Walk.{room_again, declare_within, initial_no, initial-listed, initial_6, initial_ok}
use Rattle.typing_simple.proofs.initial.Goals as goal

pub value-requires : goal.value-requires
value-requires c = let g = c.requires.typing_room in
    let d = c.requires.there_is.is in
    record {
      typing_room = room_again g g.rows g.listed (omega (arith, rest_long c.args.tree.now 9 c.args.at.size d.shape.long)) refl refl;
      there_is = record { the = d.right; is = d.its_right };
    }

pub returns-in_err-right : goal.returns-in_err-right
returns-in_err-right c = rw (handed_up c.from_residual.result c.from_residual.ensures.1) (λ s d. initial_no c.requires.typing_room d c.word.ensures (c.in_err-right.ensures d.right d.its_right))

pub declare-requires : goal.declare-requires
declare-requires c = let d = c.requires.there_is.is in
    record {
      rows = c.requires.typing_room.rows;
      spans = (rw (c.word-place.ensures, c.word-end.ensures) (declare_within d.shape), initial-listed c.requires.typing_room d c.word.ensures (c.in_ok-right.ensures d.right d.its_right) c.lanes-length.ensures);
    }

pub returns-in_err-new : goal.returns-in_err-new
returns-in_err-new c = rw (handed_up c.from_residual-in_err-new.result c.from_residual-in_err-new.ensures.1) (λ s d. initial_6 c.requires.typing_room d c.word.ensures (c.in_ok-right.ensures d.right d.its_right) c.lanes-length.ensures c.word-place.ensures c.word-end.ensures c.in_err-new.ensures)

pub put_head-requires : goal.put_head-requires
put_head-requires c = let g = c.requires.typing_room in
    let d = c.requires.there_is.is in
    let on = (c.in_ok-right.ensures d.right d.its_right).on in
    omega (arith, on.ends, rest_long c.args.tree.now 9 c.args.at.size d.shape.long, d.shape.long, g.code_room, g.short, c.value.auto.code)

pub returns : goal.returns
returns c = λ s d. initial_ok c.requires.typing_room d c.word.ensures (c.in_ok-right.ensures d.right d.its_right) c.lanes-length.ensures c.word-place.ensures c.word-end.ensures c.in_ok-new.ensures (omega (arith, rest_long c.args.tree.now 9 c.args.at.size d.shape.long, d.shape.long)) c.put_head.ensures
