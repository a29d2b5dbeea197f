-- `blocks::store_ints` meets its contract. Assumes nothing.
use native.Mathlib.Omega.{arith}
use Rattle.meaning.specs.Memory.{size, whole}
use Rattle.blocks.proofs.Stores.{store_begun, lane_room, one_stored, all_stored, length_int, int_stored}
use Rattle.blocks.proofs.store_ints.Goals as goal

pub loop-i-init : goal.loop-i-init
unfolding whole
loop-i-init c = store_begun _ _ _ _ (omega arith) c.requires.1

pub slice_bounds-put_if-end : goal.slice_bounds-put_if-end
unfolding size
slice_bounds-put_if-end c = lane_room c.loop-i.invariant c.loop-i-test.true

pub put_if-requires : goal.put_if-requires
put_if-requires c = length_int c.loop-i.bytes _ (lane_room c.loop-i.invariant c.loop-i-test.true)

pub loop-i-preserved : goal.loop-i-preserved
loop-i-preserved c = one_stored c.loop-i.invariant c.loop-i-test.true (int_stored c.loop-i.bytes _ _ _ c.put_if.ensures)

pub returns : goal.returns
returns c = all_stored c.loop-i.invariant c.loop-i-test.false
