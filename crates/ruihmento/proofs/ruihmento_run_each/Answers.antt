-- `ruihmento::ruihmento_run_each` meets its contract.
use Rattle.ruihmento.proofs.Images.{images_room, none_run, each-run}
use Rattle.ruihmento.proofs.ruihmento_run_each.Goals as goal

pub returns-then-count-eq0 : goal.returns-then-count-eq0
returns-then-count-eq0 c = none_run _ _ _ _ _ c.how_many-count.ensures c.if-count-eq0.true

pub run_images-requires : goal.run_images-requires
run_images-requires c = images_room _ _ _ c.how_many-count.ensures

pub returns : goal.returns
returns c = each-run _ _ _ _ _ c.how_many-count.ensures c.run_images.ensures
