-- `blocks::put_if` meets its contract. Assumes nothing.
use mathlib.Core.Path.{sym, ◌∙◌}
use Rattle.meaning.specs.declared.Kind.TheVariants.{Int as int}
use Rattle.meaning.specs.Memory.{size}
use Rattle.blocks.proofs.Stores.{one_active, one_idle}
use Rattle.blocks.proofs.put_if.Goals as goal

pub returns-then-active : goal.returns-then-active
unfolding size
returns-then-active c = rw c.if-active.true (c.put_int.ensures ∙ sym (one_active int _ _ c.requires))

pub returns-else-active : goal.returns-else-active
unfolding size
returns-else-active c = rw c.if-active.false (sym (one_idle int _ _ c.requires))
