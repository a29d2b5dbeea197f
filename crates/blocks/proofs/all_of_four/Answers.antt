-- `blocks::all_of_four` meets its contract. Assumes nothing.
use mathlib.Core.Path.{refl}
use mathlib.Core.List.{[], ◌∷◌}
use Rattle.meaning.specs.declared.Kind.TheVariants.{Int as int}
use Rattle.meaning.specs.Memory.{size}
use Rattle.blocks.specs.Masks.{bits}
use Rattle.blocks.proofs.Fours.{stored_up}
use Rattle.blocks.proofs.all_of_four.Goals as goal

pub returns : goal.returns
unfolding size bits
returns c = stored_up int 4 (_ ∷ []) (_ ∷ []) (_ ∷ []) (_ ∷ []) (_ ∷ []) (_ ∷ []) (_ ∷ []) (_ ∷ []) _ refl refl refl refl refl refl
    c.requires c.put_if.ensures c.put_if-2.ensures c.put_if-3.ensures c.put_if-4.ensures
