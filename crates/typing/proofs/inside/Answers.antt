-- `typing::inside` meets its contract. Assumes nothing.
use lib.ListN.{get_or}
use Rattle.layout.proofs.Handed.{handed_up}
use Rattle.layout.specs.Heads.{place_word}
use Rattle.typing_simple.proofs.Walk.{slot_room}
use Rattle.typing.proofs.Walk.{tests_no, tests_ok}
use Rattle.typing.proofs.inside.Goals as goal

pub returns-in_err-test : goal.returns-in_err-test
returns-in_err-test c = rw (handed_up c.from_residual.result c.from_residual.ensures.1) (λ e x. tests_no (c.in_err-test.ensures e x))

pub lanes-requires : goal.lanes-requires
lanes-requires c = slot_room c.requires.typing_room c.condition.auto.stack

pub returns : goal.returns
returns c = λ e x. tests_ok (get_or c.args.tree.now place_word 0) e c.requires.typing_room (c.in_ok-test.ensures e x) c.lanes.ensures c.joined.ensures
