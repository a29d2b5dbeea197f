-- `blocks::store16` meets its contract. Assumes nothing.
use Rattle.meaning.specs.Memory.{whole, size}
use Rattle.blocks.proofs.Bytes.{whole_int}
use Rattle.blocks.proofs.Fours.{stored_sixteen}
use borrow.Author.Rules.{rules}
use Rattle.blocks.proofs.store16.Goals as goal

pub slice_bounds-four-end : goal.slice_bounds-four-end
unfolding whole size
slice_bounds-four-end c = search rules

pub slice_bounds-four-end-2 : goal.slice_bounds-four-end-2
unfolding whole size
slice_bounds-four-end-2 c = search rules

pub slice_bounds-four-end-3 : goal.slice_bounds-four-end-3
unfolding whole size
slice_bounds-four-end-3 c = search rules

pub slice_bounds-four-end-4 : goal.slice_bounds-four-end-4
unfolding whole size
slice_bounds-four-end-4 c = search rules

pub returns : goal.returns
returns c = stored_sixteen _ _ _ (search (rules, c.well_formed, c.ranges)) (rw (whole_int 16) at c.requires) c.four.ensures c.four-2.ensures c.four-3.ensures c.four-4.ensures
