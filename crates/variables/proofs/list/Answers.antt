-- `variables::list` meets its contract. The loop's invariant: the first i records are written. Assumes nothing.
use native.Mathlib.Omega.{arith}
use native.Mathlib.Numerals.{add-one}
use Rattle.variables.proofs.Laws.{listing_start, listing_more, listing_length, listed_as_fit}
use Rattle.variables.proofs.list.Goals as goal

pub loop-i-init : goal.loop-i-init
loop-i-init c = listing_start _ _

pub loop-i-preserved : goal.loop-i-preserved
loop-i-preserved c =
    let s = c.args in
    let so_far = c.loop-i.invariant in
    let same = listing_length s.table.now s.records.now _ c.loop-i.i so_far in
    rw add-one (listing_more s.table.now s.records.now _ c.loop-i.i so_far _ _ _ _ _ _ (omega (arith, same)) c.place-place.ensures c.kind.ensures c.from-kind.ensures c.lanes-lanes.ensures c.address-address.ensures c.put_four.ensures)

pub returns : goal.returns
returns c = listed_as_fit c.args.table.now c.args.records.now _ c.loop-i.i c.loop-i.invariant c.args.count (omega arith)
