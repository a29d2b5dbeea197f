-- `ruihmento::run_with` meets its contract. Assumes nothing.
use Rattle.ruihmento.proofs.Judging.{judging_shared, refusable}
use Rattle.ruihmento.proofs.Ready.{a_plannable, plan_fits, planned, a_plan}
use Rattle.ruihmento.proofs.Images.{each_refused, each_accepted}
use native.Mathlib.Omega.{arith}
use mathlib.Core.Path.{◌≡◌}
use lib.ListN.{length, length-replicate}
use borrow.Author.Rules.{rules}
use Rattle.ruihmento.proofs.run_with.Goals as goal

pub judge-requires : goal.judge-requires
judge-requires g c = judging_shared _ c.requires.room (length-replicate _ _) (length-replicate _ _) (search rules) (search rules)

pub plan-words-requires : goal.plan-words-requires
plan-words-requires g c = a_plannable c.in-Ok.ensures (search rules) (search rules)

pub shared_whole_as_front-run_planned : goal.shared_whole_as_front-run_planned
shared_whole_as_front-run_planned g c = let all : length c.plan-words.new.out ≡ g.row.PLAN = search (rules, length-replicate) in
    (omega (arith, plan_fits c.in-Ok.ensures c.plan-words.ensures (search rules) (search rules)), omega arith)

pub run_planned-requires : goal.run_planned-requires
run_planned-requires g c = (c.requires.images_room, a_plan c.in-Ok.ensures c.plan-words.ensures (search rules) (search rules) c.need-bytes.ensures)

pub refuse_each-requires : goal.refuse_each-requires
refuse_each-requires g c = refusable c.in-Err.ensures _ _ c.requires.images_room.answers_fit

pub returns-in-Ok : goal.returns-in-Ok
returns-in-Ok g c = let j = c.in-Ok.ensures in each_accepted _ _ _ j (c.run_planned.ensures _ _ (planned j c.plan-words.ensures (search rules) (search rules) c.need-bytes.ensures))

pub returns-in-Err : goal.returns-in-Err
returns-in-Err g c = each_refused _ _ _ c.in-Err.ensures c.requires.images_room c.refuse_each.ensures
