-- `print::put_rows` meets its contract: a row more each time. Assumes nothing.
use Prim.Native.Nat.{◌+◌, ◌≤◌, min}
use mathlib.Core.Path.{◌≡◌, ◌∙◌}
use Rattle.std.proofs.Common.{arith, rules, length}
use Rattle.print.specs.Shown.{hex}
use Rattle.print.proofs.Printing.{printed_both, printed_length}
use Rattle.print.proofs.Rows.{row_room, row_more, all_rows}
use Rattle.print.proofs.put_rows.Goals as goal
use Rattle.print.proofs.put_rows.Goals.{In-Some}

-- A row has 16 bytes, or all that are left, and there is room for it.
row_size : (c : In-Some) → length c.in-Some.row.now ≡ min 16 (length c.loop-row.row-iterator.rest.now)
row_size c = rw c.loop-row.invariant.2 at c.in-Some.ensures.steps.1.1

room : (c : In-Some) → c.loop-row.next + length (hex c.in-Some.row.now) + 1 ≤ length c.loop-row.page
room c = let s = c.in-Some.ensures.steps.1 in row_room c.loop-row.invariant.3 _ _ s.0 (row_size c) s.2 c.requires

pub put_hex-ended-requires : goal.put_hex-ended-requires
put_hex-ended-requires c = omega (arith, room (goal.at.put_hex-ended-requires c).In-Some)

pub put-next-requires : goal.put-next-requires
put-next-requires c = omega (arith, room (goal.at.put-next-requires c).In-Some, c.put_hex-ended.ensures.next_is, printed_length c.put_hex-ended.ensures)

pub loop-row-preserved : goal.loop-row-preserved
loop-row-preserved c =
    let s = c.in-Some.ensures.steps in
    (search rules, tt, s.0 ∙ c.loop-row.invariant.2, row_more c.loop-row.invariant.3 _ _ s.1.0 (row_size (goal.at.loop-row-preserved c).In-Some) s.1.2 (printed_both c.put_hex-ended.ensures c.put-next.ensures))

pub returns : goal.returns
returns c = all_rows c.loop-row.invariant.3 c.in-None.ensures.steps.1.0
