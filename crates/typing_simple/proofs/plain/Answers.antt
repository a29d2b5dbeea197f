-- `typing_simple::plain` meets its contract. Assumes nothing.
use Rattle.layout.proofs.Handed.{handed_up}
use Rattle.typing_expressions.proofs.Tables.{listed_one}
use Rattle.typing_simple.proofs.Shapes.{length-listed}
use Rattle.typing_simple.proofs.Walk.{declare_within, plain_no, plain_ok}
use Rattle.typing_simple.proofs.plain.Goals as goal

pub declare-requires : goal.declare-requires
declare-requires c = let d = c.requires.there_is.is in
    record {
      rows = c.requires.plain_room.rows;
      spans = (rw (c.word-place.ensures, c.word-end.ensures) (declare_within d.shape), rw (c.length_or-lanes.ensures, ← d.shape.lanes) (length-listed d.shape.block d.good listed_one));
    }

pub returns-in_err-new : goal.returns-in_err-new
returns-in_err-new c = rw (handed_up c.from_residual.result c.from_residual.ensures.1) (λ s d. plain_no c.requires.plain_room d c.length_or-lanes.ensures c.word-place.ensures c.word-end.ensures c.in_err-new.ensures)

pub returns : goal.returns
returns c = λ s d. plain_ok c.requires.plain_room d c.length_or-lanes.ensures c.word-place.ensures c.word-end.ensures c.in_ok-new.ensures c.put_step.ensures
