-- `ruihmento::perform_each` meets its contract. The loop's invariant: the first k images are done.
use Prim.Native.Nat.{◌*◌}
use native.Mathlib.Omega.{arith}
use lib.ListN.{length-replicate}
use Rattle.meaning.specs.Services.{answer_bytes}
use Rattle.laws.proofs.Images.{piece-fits}
use Rattle.ruihmento.proofs.Images.{none_done, part_bytes, one_more, all_done}
use Rattle.ruihmento.proofs.perform_each.Goals as goal

pub loop-k-init : goal.loop-k-init
loop-k-init g c = record { registers = length-replicate _ _; done = λ Γ P p. none_done _ _ _ _ _ }

pub loop-k-preserved : goal.loop-k-preserved
loop-k-preserved g c = let inv = c.loop-k.invariant in
    let more = c.loop-k-test.true in
    record {
      registers = omega arith;
      done = λ Γ P p. one_more _ _ _ _ _ c.loop-k.k more (rw c.loop-k.auto.images (piece-fits _ _ more c.requires.room.images_fit)) (rw c.loop-k.auto.answers (piece-fits _ _ more c.requires.room.answers_fit)) (inv.done Γ P p)
          (part_bytes _ _) (part_bytes (c.loop-k.k * answer_bytes) answer_bytes) (omega arith) (c.perform.ensures Γ P (rw inv.registers p));
    }

pub returns : goal.returns
returns g c = λ Γ P p. all_done _ _ _ _ _ _ c.loop-k-test.false (c.loop-k.invariant.done Γ P p)
