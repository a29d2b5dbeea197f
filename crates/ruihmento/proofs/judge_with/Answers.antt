-- `ruihmento::judge_with` meets its contract. Assumes nothing.
use Rattle.ruihmento.proofs.Judging.{judging_room}
use borrow.Author.Rules.{rules}
use Rattle.ruihmento.proofs.judge_with.Goals as goal

pub judge-requires : goal.judge-requires
judge-requires g c = judging_room c.requires.room (search rules) (search rules) c.requires.rows_room (search rules)
