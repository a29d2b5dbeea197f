-- `typing_simple::condition` meets its contract. Assumes nothing.
use mathlib.Core.Path.{refl}
use native.Mathlib.Omega.{arith}
use lib.ListN.{get_or}
use Rattle.layout.proofs.Handed.{handed_up}
use Rattle.layout.specs.Heads.{place_word}
use Rattle.typing_simple.proofs.Outcomes.{kinds_differ, kinds_agree, condition_no, condition_8, condition_ok}
use Rattle.typing_simple.proofs.Walk.{room_again, condition_end, condition_typed}
use Rattle.typing_simple.proofs.condition.Goals as goal

pub expression-requires : goal.expression-requires
expression-requires c = let g = c.requires.typing_room in
    let test = c.requires.there_is in
    record {
      typing_room = room_again g g.rows g.listed (omega (arith, condition_end test.is c.word-end.ensures c.args.at.size, test.is.long)) refl refl;
      there_is = record { the = test.the; is = rw c.word-end.ensures test.is.is };
    }

pub returns-in_err-test : goal.returns-in_err-test
returns-in_err-test c = rw (handed_up c.from_residual.result c.from_residual.ensures.1)
    (λ e x. condition_no c.args.at.context (get_or c.args.tree.now place_word 0) e (condition_typed x c.word-end.ensures c.requires.typing_room c.in_err-test.ensures))

pub returns-then-ne : goal.returns-then-ne
returns-then-ne c = λ e x. rw c.word.ensures
    (condition_8 c.args.at.context (get_or c.args.tree.now place_word 0) e (condition_typed x c.word-end.ensures c.requires.typing_room c.in_ok-test.ensures) c.kind.ensures (kinds_differ _ _ c.ne.ensures c.if-ne.true))

pub returns : goal.returns
returns c = λ e x.
    condition_ok c.args.at.context (get_or c.args.tree.now place_word 0) e (condition_typed x c.word-end.ensures c.requires.typing_room c.in_ok-test.ensures) c.kind.ensures (kinds_agree _ _ c.ne.ensures c.if-ne.false)
