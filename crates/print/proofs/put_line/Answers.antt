-- `print::put_line` meets its contract: four numbers, each with the byte that ends it. Assumes nothing.
use Rattle.std.proofs.Common.{arith}
use Rattle.print.proofs.Printing.{printed_both, printed_length, printed_as}
use Rattle.print.proofs.Numbers.{line_is, line-length, ended_at}
use Rattle.print.proofs.put_line.Goals as goal

pub put_ended-second-requires : goal.put_ended-second-requires
put_ended-second-requires c = let s = c.args in omega (arith, c.requires, line-length s.code s.place s.need s.steps)

pub put_ended-third-requires : goal.put_ended-third-requires
put_ended-third-requires c =
    let s = c.args in
    let p = c.put_ended-second.ensures in
    omega (arith, c.requires, line-length s.code s.place s.need s.steps, ended_at s.code 32 p, printed_length p)

pub put_ended-fourth-requires : goal.put_ended-fourth-requires
put_ended-fourth-requires c =
    let s = c.args in
    let p = c.put_ended-second.ensures in
    let q = c.put_ended-third.ensures in
    omega (arith, c.requires, line-length s.code s.place s.need s.steps, ended_at s.code 32 p, printed_length p, ended_at s.place 32 q, printed_length q)

pub put_ended-requires : goal.put_ended-requires
put_ended-requires c =
    let s = c.args in
    let p = c.put_ended-second.ensures in
    let q = c.put_ended-third.ensures in
    let r = c.put_ended-fourth.ensures in
    omega (arith, c.requires, line-length s.code s.place s.need s.steps, ended_at s.code 32 p, printed_length p, ended_at s.place 32 q, printed_length q, ended_at s.need 32 r, printed_length r)

pub returns : goal.returns
returns c =
    let s = c.args in
    printed_as (line_is s.code s.place s.need s.steps)
    (printed_both (printed_both (printed_both c.put_ended-second.ensures c.put_ended-third.ensures) c.put_ended-fourth.ensures) c.put_ended.ensures)
