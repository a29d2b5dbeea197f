-- `typing_simple::assignment` meets its contract. Assumes nothing.
use mathlib.Core.Path.{refl}
use native.Mathlib.Omega.{arith}
use Rattle.layout.proofs.Handed.{handed_up}
use Rattle.typing_simple.proofs.Words.{rest_long}
use Rattle.typing_simple.proofs.Walk.{room_again, slot_room, name_within, assign_5, assign_8, assign_ok}
use Rattle.typing_simple.proofs.assignment.Goals as goal

pub named-requires : goal.named-requires
named-requires c = let a = c.requires.there_is.is in
    record { rows = c.requires.typing_room.rows; spans = (rw (c.word-place.ensures, c.word-end.ensures) (name_within a.spelled a.ends), slot_room c.requires.typing_room refl) }

pub returns-in_err-named : goal.returns-in_err-named
returns-in_err-named c = rw (handed_up c.from_residual.result c.from_residual.ensures.1) (λ s a. assign_5 c.requires.typing_room a c.word-place.ensures c.word-end.ensures c.in_err-named.ensures)

pub value-requires : goal.value-requires
value-requires c = let g = c.requires.typing_room in
    let a = c.requires.there_is.is in
    record {
      typing_room = room_again g g.rows g.listed (omega (arith, rest_long c.args.tree.now 6 c.args.at.size a.long)) refl c.named.auto.stack;
      there_is = record { the = a.value; is = a.right };
    }

pub returns-in_err-right : goal.returns-in_err-right
returns-in_err-right c = rw (handed_up c.from_residual-in_err-right.result c.from_residual-in_err-right.ensures.1) (λ s a. assign_8 c.requires.typing_room a c.word-place.ensures c.word-end.ensures c.in_ok-named.ensures c.kind.ensures c.lanes.ensures c.word-number.ensures c.word.ensures (c.in_err-right.ensures a.value a.right))

pub put_head-requires : goal.put_head-requires
put_head-requires c = let g = c.requires.typing_room in
    let a = c.requires.there_is.is in
    let on = (c.in_ok-right.ensures a.value a.right).on in
    omega (arith, on.ends, rest_long c.args.tree.now 6 c.args.at.size a.long, a.long, g.code_room, g.short, c.value.auto.code)

pub returns : goal.returns
returns c = λ s a. assign_ok c.requires.typing_room a c.word-place.ensures c.word-end.ensures c.in_ok-named.ensures c.kind.ensures c.lanes.ensures c.word-number.ensures c.word.ensures (c.in_ok-right.ensures a.value a.right) (rest_long c.args.tree.now 6 c.args.at.size a.long) c.put_head.ensures
