-- What each turn of the loop of `blocks::truths` keeps.
use Rattle.blocks.proofs.Masks.{Counting}
use Rattle.blocks.proofs.truths.Given as goal

abbrev pub invariant-loop-i : goal.invariant-loop-i
invariant-loop-i l = Counting l.x l.r l.i
