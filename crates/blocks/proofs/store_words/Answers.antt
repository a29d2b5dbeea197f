-- `blocks::store_words` meets its contract. Assumes nothing.
use Rattle.blocks.proofs.store_words.Goals as goal

pub store16-requires : goal.store16-requires
store16-requires c = rw c.if-n-eq-CHUNK.true at c.requires.1

pub returns-then-n-eq-CHUNK : goal.returns-then-n-eq-CHUNK
returns-then-n-eq-CHUNK c = rw c.if-n-eq-CHUNK.true c.store16.ensures
