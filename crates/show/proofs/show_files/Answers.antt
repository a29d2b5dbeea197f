-- `show::show_files` is safe and ends, and what it lends to `fill_page` has the lengths that it asks. Assumes nothing.
use Rattle.std.proofs.Common.{arith, length-take}
use Rattle.laws.specs.Words.{need_limit}
use Rattle.show.proofs.show_files.Goals as goal

pub fill_page-count-requires : goal.fill_page-count-requires
unfolding need_limit
fill_page-count-requires g c = (simp length-take (omega (arith, c.read_start-2.auto.buffer)), omega arith)
