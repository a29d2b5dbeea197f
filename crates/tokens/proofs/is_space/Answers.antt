-- `tokens::is_space` meets its contract.
use lib.Dec.{eqb}
use Rattle.meaning.specs.Tokens.{space, bytes}
use Rattle.laws.proofs.Tests.{any_of_four}
use Rattle.tokens.proofs.is_space.Goals as goal

pub returns : goal.returns
unfolding space bytes
returns c = let b = c.args.b in any_of_four (eqb b 32) (eqb b 9) (eqb b 10) (eqb b 13)
