-- `show::fill_page` meets its contract: the service's promise, then the page's. Assumes nothing.
use Rattle.std.proofs.Common.{arith}
use Rattle.show.proofs.Run.{ran, shows}
use Rattle.show.proofs.fill_page.Goals as goal

pub put_shown-requires : goal.put_shown-requires
put_shown-requires c =
    let ended = c.ruihmento_run in
    let k = ran _ _ _ _ _ _ (omega arith) (omega (arith, c.requires, ended.auto)) ended.ensures in
    (omega (arith, ended.auto), omega (arith, k.fits, c.requires))

pub returns : goal.returns
returns c =
    let ended = c.ruihmento_run in
    let k = ran _ _ _ _ _ _ (omega arith) (omega (arith, c.requires, ended.auto)) ended.ensures in
    shows _ _ _ _ k c.put_shown.ensures (omega (arith, c.requires))
