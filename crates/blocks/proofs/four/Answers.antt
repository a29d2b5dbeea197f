-- `blocks::four` meets its contract. Assumes nothing.
use mathlib.Core.Path.{refl, sym}
use native.Mathlib.Omega.{arith}
use Rattle.meaning.specs.declared.Kind.TheVariants.{Int as int}
use Rattle.meaning.specs.Memory.{size}
use Rattle.blocks.proofs.Stores.{store_none}
use Rattle.blocks.proofs.Fours.{four_active, four_idle}
use Rattle.blocks.proofs.four.Goals as goal

pub returns-then-active-eq15 : goal.returns-then-active-eq15
returns-then-active-eq15 c = rw (four_active _ c.if-active-eq15.true) c.all_of_four.ensures

pub returns-else-active-ne0 : goal.returns-else-active-ne0
unfolding size
returns-else-active-ne0 c = rw (four_idle _ c.if-active-ne0.false) (sym (store_none int 4 _ _ refl (omega (arith, c.requires))))
