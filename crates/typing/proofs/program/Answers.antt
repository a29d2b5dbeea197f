-- `typing::program` meets its contract: what is said of its statements is said of the program.
use borrow.Author.Rules.{rules}
use Rattle.typing.proofs.Walk.{room_before_all, program_typed}
use Rattle.typing.proofs.program.Goals as goal

pub statements-requires : goal.statements-requires
statements-requires c = record { typing_room = room_before_all c.requires.program_room; there_is = c.requires.there_is }

pub returns : goal.returns
returns c = λ l x. program_typed c.requires.program_room l (c.statements.ensures l x) (search rules)
