-- `blocks::store` meets its contract. Assumes nothing.
use borrow.Enum.Refused.{opened}
use Rattle.blocks.specs.Chunks.{held_as}
use Rattle.blocks.proofs.ByKind.{whole_word, held_word}
use Rattle.blocks.proofs.store.Goals as goal

pub store_words-requires : goal.store_words-requires
store_words-requires c = (c.requires.0, rw (whole_word c.args.kind (search opened) c.args.n) at c.requires.1)

pub store_bools-requires : goal.store_bools-requires
store_bools-requires c = (c.requires.0, rw c.in-Bool.is at c.requires.1)

pub returns-in-Int : goal.returns-in-Int
returns-in-Int c = rw (held_word c.args.kind (search opened)) c.store_words.ensures

pub returns-in-Bool : goal.returns-in-Bool
unfolding held_as
returns-in-Bool c = rw c.in-Bool.is c.store_bools.ensures
