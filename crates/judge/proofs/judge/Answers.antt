-- `judge::judge` meets its contract: what the stages say, one after another, is what judging says.
use Rattle.judge.proofs.Buffers.{read_room}
use Rattle.judge.proofs.Judging.{not_lexed, not_read, a_tree, program_room, judges}
use borrow.Author.Rules.{rules}
use Rattle.judge.proofs.judge.Goals as goal

pub returns-in_err-lexed : goal.returns-in_err-lexed
returns-in_err-lexed c = not_lexed _ _ c.in_err-lexed.ensures c.from_residual.ensures.1

pub read-tree_read-requires : goal.read-tree_read-requires
read-tree_read-requires c = read_room c.in_ok-lexed.ensures c.requires

pub returns-in_default : goal.returns-in_default
returns-in_default c = not_read c.in_ok-lexed.ensures _ _ c.in_default.ensures c.in_default.is

pub program-requires : goal.program-requires
program-requires c = let l = c.in_ok-lexed.ensures in
    let t = c.in-Ok.ensures in record { program_room = program_room l t c.requires (search rules) (search rules); there_is = a_tree l t }

pub returns : goal.returns
returns c = judges c.in_ok-lexed.ensures c.in-Ok.ensures c.program.ensures
