-- What each turn of the loop of `blocks::put` keeps.
use Rattle.blocks.proofs.Chunks.{Pasting}
use Rattle.blocks.proofs.put.Given as goal

abbrev pub invariant-loop-i : goal.invariant-loop-i
invariant-loop-i l = Pasting l.initial.registers l.at l.x l.registers l.i
