-- `blocks::store_bools` meets its contract. Assumes nothing.
use Prim.Native.Nat.{◌<◌}
use lib.ListN.{length}
use borrow.Author.Tests.{eq-eqb, ne_eqb}
use mathlib.Core.Path.{◌∙◌}
use native.Mathlib.Omega.{arith}
use Rattle.meaning.specs.Memory.{size, whole}
use Rattle.blocks.proofs.Stores.{store_begun, lane_room, one_stored, all_stored, bool_stored, bool_kept}
use Rattle.blocks.proofs.store_bools.Goals as goal
use Rattle.blocks.proofs.store_bools.Goals.{then-mask-i-eq1, else-mask-i-eq1}

pub loop-i-init : goal.loop-i-init
unfolding whole
loop-i-init c = store_begun _ _ _ _ (omega arith) c.requires.1

pub bounds-bytes-i : goal.bounds-bytes-i
unfolding size
bounds-bytes-i c = omega (arith, lane_room c.loop-i.invariant c.loop-i-test.true)

pub loop-i-preserved : goal.loop-i-preserved
unfolding size
loop-i-preserved c = let bytes = c.loop-i.bytes in
    let i = c.loop-i.i in
    let inv = c.loop-i.invariant in
    let taken = c.loop-i-test.true in
    let room : i < length bytes = omega (arith, lane_room inv taken) in
    one_stored inv taken (elim c.if-mask-i-eq1.branch [
      | then-mask-i-eq1 w ↦ w.bytes-is ∙ bool_stored bytes i _ _ room (eq-eqb _ 1 w.if-mask-i-eq1.true) w.truth_byte.ensures
      | else-mask-i-eq1 w ↦ w.bytes-is ∙ bool_kept bytes i _ _ room (ne_eqb _ 1 w.if-mask-i-eq1.false)
    ])

pub returns : goal.returns
returns c = all_stored c.loop-i.invariant c.loop-i-test.false
