-- `print::put_shown` meets its contract: the line of the four numbers that are the answer, then the rows. Assumes nothing.
use Rattle.std.proofs.Common.{◌≡◌, arith}
use Rattle.meaning.specs.Services.{answer}
use Rattle.print.specs.Shown.{held}
use Rattle.print.proofs.Printing.{printed_length}
use Rattle.print.proofs.Page.{held_is, shown-length, shown_both}
use Rattle.print.proofs.put_shown.Goals as goal
use Rattle.print.proofs.put_shown.Goals.{After-number_at-steps}

-- The four numbers that are read are the answer that the slice holds.
whole : (c : After-number_at-steps) → answer c.number_at-code.result c.number_at-place.result c.number_at-need.result c.number_at-steps.result ≡ held c.args.answer.now
whole c = held_is (record { code = c.number_at-code.ensures; place = c.number_at-place.ensures; need = c.number_at-need.ensures; steps = c.number_at-steps.ensures })

pub put_line-at-requires : goal.put_line-at-requires
put_line-at-requires c = rw (whole (goal.at.put_line-at-requires c).After-number_at-steps) (omega (arith, c.requires.1, shown-length (held c.args.answer.now) c.args.memory.now))

pub put_rows-requires : goal.put_rows-requires
put_rows-requires c =
    let p = rw (whole (goal.at.put_rows-requires c).After-number_at-steps) at c.put_line-at.ensures in
    omega (arith, c.requires.1, shown-length (held c.args.answer.now) c.args.memory.now, p.next_is, printed_length p)

pub returns : goal.returns
returns c =
    shown_both (held c.args.answer.now) c.args.memory.now (rw (whole (goal.at.returns c).After-number_at-steps) at c.put_line-at.ensures) c.put_rows.ensures
