-- `numbers::put_four` meets its contract: four numbers stored one after another. Assumes nothing.
use Rattle.numbers.proofs.Stores.{four_stores}
use Rattle.numbers.proofs.put_four.Goals as goal

pub returns : goal.returns
returns c =
    let s = c.args in
    four_stores s.bytes.now _ _ _ _ s.at s.a s.b s.c s.d c.put_number.ensures c.put_number-2.ensures c.put_number-3.ensures c.put_number-4.ensures
