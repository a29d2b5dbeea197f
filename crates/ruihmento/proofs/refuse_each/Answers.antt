-- `ruihmento::refuse_each` meets its contract. The loop's invariant: the first answers are told. Assumes nothing.
use Prim.Native.Nat.{◌*◌}
use Rattle.meaning.specs.Services.{answer_bytes}
use Rattle.laws.proofs.Images.{piece-fits}
use Rattle.ruihmento.proofs.Images.{none_done, part_bytes, one_refused, all_done}
use Rattle.ruihmento.proofs.refuse_each.Goals as goal

pub loop-told-init : goal.loop-told-init
loop-told-init c = λ size images room. none_done _ _ _ _ _

pub loop-told-preserved : goal.loop-told-preserved
loop-told-preserved c = let more = c.loop-told-test.true in
    λ size images room. one_refused _ _ _ _ _ c.loop-told.told more (piece-fits _ _ more room.images_fit) (rw c.loop-told.auto.answers (piece-fits _ _ more c.requires.room)) (c.loop-told.invariant size images room) (part_bytes (c.loop-told.told * answer_bytes) answer_bytes) c.tell_refusal.ensures

pub returns : goal.returns
returns c = λ size images room. all_done _ _ _ _ _ _ c.loop-told-test.false (c.loop-told.invariant size images room)
