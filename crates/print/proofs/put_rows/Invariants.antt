-- The invariant of the loop of `print::put_rows`: the rows before those that the iterator has left are printed.
use mathlib.Core.Path.{◌≡◌}
use Rattle.std.specs.Slice.Iter.{chunks_rest, chunks_size}
use Rattle.print.proofs.Rows.{RowsBefore}
use Rattle.print.proofs.put_rows.Given as goal

abbrev pub invariant-loop-row : goal.invariant-loop-row
invariant-loop-row l =
    goal.iterator-loop-row.can_next l.row-iterator
    × goal.iterator-loop-row.is_finite l.row-iterator
    × (chunks_size l.row-iterator ≡ 16)
    × RowsBefore l.memory (chunks_rest l.row-iterator) l.fn.page l.at l.page l.next
