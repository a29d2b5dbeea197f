-- What each turn of the loop of `blocks::store_bools` keeps.
use Rattle.meaning.specs.declared.Kind.TheVariants.{Bool as bool}
use Rattle.blocks.proofs.Stores.{Storing}
use Rattle.blocks.proofs.store_bools.Given as goal

abbrev pub invariant-loop-i : goal.invariant-loop-i
invariant-loop-i l = Storing bool l.mask l.n l.x l.initial.bytes l.bytes l.i
