-- `blocks::some_of_four` meets its contract. Assumes nothing.
use mathlib.Core.Path.{refl}
use mathlib.Core.List.{[], ◌∷◌}
use Rattle.meaning.specs.declared.Kind.TheVariants.{Int as int}
use Rattle.meaning.specs.Memory.{size}
use Rattle.blocks.proofs.Fours.{stored_fours, bits_four}
use Rattle.blocks.proofs.some_of_four.Goals as goal

pub returns : goal.returns
unfolding size
returns c = rw bits_four
    (stored_fours int 4 (_ ∷ []) (_ ∷ []) (_ ∷ []) (_ ∷ []) (_ ∷ []) (_ ∷ []) (_ ∷ []) (_ ∷ []) _ refl refl refl refl refl refl
    c.requires c.put_if.ensures c.put_if-2.ensures c.put_if-3.ensures c.put_if-4.ensures)
