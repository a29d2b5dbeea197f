-- What each turn of the loop of `blocks::store_ints` keeps.
use Rattle.meaning.specs.declared.Kind.TheVariants.{Int as int}
use Rattle.blocks.proofs.Stores.{Storing}
use Rattle.blocks.proofs.store_ints.Given as goal

abbrev pub invariant-loop-i : goal.invariant-loop-i
invariant-loop-i l = Storing int l.mask l.n l.x l.initial.bytes l.bytes l.i
