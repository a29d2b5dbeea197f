-- How many values wait in the expressions of a program, by its words.
use Rattle.std.specs.Prelude.{ℕ, ◌+◌, ◌*◌, ◌/◌, min}
use Rattle.layout.specs.Words.{unit_words}
use Rattle.laws.specs.Sound.{stack_limit}

-- How many may wait at once in an expression of so many words: each but one has an operator, and `stack_limit` holds for every
-- expression.
unfoldable pub waiting : ℕ → ℕ
waiting words = min stack_limit ((words + unit_words) / (2 * unit_words))
