-- The invariant of the loop of `tokens::word::row_kind`: a walk to the first row that has the letters.
use Rattle.meaning.specs.Tokens.{reserved}
use Rattle.tokens.specs.Lexing.{row_bytes, spelled}
use Rattle.tokens.proofs.Walking.{Walk}
use Rattle.tokens.proofs.Words.{first_word}
use Rattle.tokens.proofs.word.row_kind.Given as goal

abbrev pub invariant-loop-i : goal.invariant-loop-i
invariant-loop-i l = Walk row_bytes (λ s. spelled s l.first l.second l.third) first_word reserved l.list l.i
