-- `typing_simple::declaration` meets its contract. Assumes nothing.
use Rattle.typing_simple.proofs.Shapes.{without_value, with_value}
use Rattle.typing_simple.proofs.Walk.{declare_7}
use Rattle.typing_simple.proofs.declaration.Goals as goal

pub returns-then-not-good_block : goal.returns-then-not-good_block
returns-then-not-good_block c = λ s d. declare_7 d c.requires.typing_room c.good_block.ensures c.word-place.ensures c.if-not-good_block.true

pub plain-requires : goal.plain-requires
plain-requires c = let g = c.requires.typing_room in
    let some = c.requires.there_is in
    record {
      plain_room = record { rows = g.rows; short = g.short; code_room = g.code_room };
      there_is = record { the = some.the; is = without_value some.is c.kind_named-kind.ensures c.good_block.ensures c.word-place.ensures c.if-not-good_block.false c.if-tree-eq0.true };
    }

pub returns-then-tree-eq0 : goal.returns-then-tree-eq0
returns-then-tree-eq0 c = λ s d. c.plain.ensures s (without_value d c.kind_named-kind.ensures c.good_block.ensures c.word-place.ensures c.if-not-good_block.false c.if-tree-eq0.true)

pub initial-requires : goal.initial-requires
initial-requires c = let some = c.requires.there_is in
    record {
      typing_room = c.requires.typing_room;
      there_is = record { the = some.the; is = with_value some.is c.kind_named-kind.ensures c.good_block.ensures c.word-place.ensures c.if-not-good_block.false c.if-tree-eq0.false };
    }

pub returns : goal.returns
returns c = λ s d. c.initial.ensures s (with_value d c.kind_named-kind.ensures c.good_block.ensures c.word-place.ensures c.if-not-good_block.false c.if-tree-eq0.false)
