-- `tokens::is_letter` meets its contract.
use Rattle.meaning.specs.Tokens.{letter}
use Rattle.tokens.proofs.is_letter.Goals as goal

pub returns : goal.returns
unfolding letter
returns c = rw c.is_ascii_alphabetic.ensures.value
