-- `tokens::with_digit` meets its contract.
use Rattle.meaning.specs.Tokens.{decimal}
use Rattle.laws.proofs.Bytes.{digit_low}
use borrow.Author.Rules.{rules}
use Rattle.tokens.proofs.with_digit.Goals as goal

pub overflow_sub-result : goal.overflow_sub-result
overflow_sub-result c = digit_low _ c.requires.0

pub returns : goal.returns
unfolding decimal
returns c = search rules
