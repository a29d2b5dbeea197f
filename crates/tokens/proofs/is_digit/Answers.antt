-- `tokens::is_digit` meets its contract.
use Rattle.meaning.specs.Tokens.{digit}
use Rattle.tokens.proofs.is_digit.Goals as goal

pub returns : goal.returns
unfolding digit
returns c = c.is_ascii_digit.ensures.value
