-- The invariant of the loop of `tokens::sign::kind`: a walk to the first sign that has the bytes.
use Rattle.meaning.specs.Tokens.{signs}
use Rattle.tokens.specs.Lexing.{pair_bytes, paired}
use Rattle.tokens.proofs.Walking.{Walk}
use Rattle.tokens.proofs.Signs.{first_sign}
use Rattle.tokens.proofs.sign.kind.Given as goal

abbrev pub invariant-loop-i : goal.invariant-loop-i
invariant-loop-i l = Walk pair_bytes (λ s. paired s l.b l.c) first_sign signs l.list l.i
