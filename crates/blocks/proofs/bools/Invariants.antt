-- What each turn of the loop of `blocks::bools` keeps.
use lib.ListN.{drop}
use Rattle.meaning.specs.declared.Kind.TheVariants.{Bool as bool}
use Rattle.meaning.specs.Memory.{load}
use Rattle.laws.proofs.Making.{Making}
use Rattle.blocks.proofs.bools.Given as goal

abbrev pub invariant-loop-i : goal.invariant-loop-i
invariant-loop-i l = Making (load bool l.n (drop l.at l.memory)) l.r l.i
