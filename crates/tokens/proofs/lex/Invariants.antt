-- The invariant of the loop of `tokens::lex`: the buffer holds the tokens so far.
use Prim.Native.Nat.{◌-◌}
use lib.ListN.{length}
use Rattle.tokens.proofs.SoFar.{TokensSoFar}
use Rattle.tokens.proofs.lex.Given as goal

abbrev pub invariant-loop-at : goal.invariant-loop-at
invariant-loop-at l = TokensSoFar l.text l.initial.tokens l.tokens l.at l.n

abbrev pub decreases-loop-at : goal.decreases-loop-at
decreases-loop-at l = length l.text - l.at
