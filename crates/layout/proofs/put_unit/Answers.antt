-- `layout::put_unit` meets its contract. Assumes nothing.
use Prim.Native.Nat.{suc, ◌+◌}
use mathlib.Core.Path.{◌≡◌}
use native.Mathlib.Omega.{arith}
use lib.ListN.{length-set}
use Rattle.layout.proofs.put_unit.Goals as goal

pub bounds-words-n-2 : goal.bounds-words-n-2
bounds-words-n-2 c = simp length-set (omega arith)

pub bounds-words-n-3 : goal.bounds-words-n-3
bounds-words-n-3 c = simp length-set (omega arith)

pub returns : goal.returns
returns c = let n = c.args.n in
    let one : n + 1 ≡ suc n = omega arith in
    let two : n + 2 ≡ suc (suc n) = omega arith in
    rw (one, two)
