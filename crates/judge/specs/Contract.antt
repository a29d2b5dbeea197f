-- What judging asks of its buffers, and what it says of a text.
use Rattle.std.specs.Prelude.{ℕ, ◌*◌, ◌≤◌, min, ◌≡◌, List, length, IfOk}
use Rattle.meaning.specs.Codes.{text_limit}
use Rattle.meaning.specs.Program.{Program}
use Rattle.meaning.specs.Services.{judged}
use Rattle.layout.specs.Stage.{Stage}
use Rattle.layout.specs.Sizes.{tree_room, tree_limit, table_room}
use Rattle.layout.specs.Stack.{slot_words}
use Rattle.laws.specs.Sound.{stack_limit}
use Rattle.tokens.specs.Lexing.{TokenRoom}
use Rattle.typing.specs.Answers.{program_out, Accepts}

-- The tree, the declarations and the program of a text that is not too long have room, and so has the stack of its expressions. Its
-- tokens stand where its program will.
pub record JudgingRoom (text tree table code stack : List ℕ) : Type 0 where
  pub tokens_room : TokenRoom text code
  pub tree_fits : tree_room (min (length text) text_limit) ≤ length tree
  pub few : length tree ≤ tree_limit
  pub code_room : length tree ≤ length code
  pub rows_room : table_room ≤ length table
  pub stack_room : stack_limit * slot_words ≤ length stack

-- The text was judged as the definition says; of an accepted one, the table and the code are as a run wants them.
pub record JudgesText (text table code : List ℕ) (r : Stage) : Type 0 where
  pub program : Program
  pub is : judged text ≡ program_out r program text table
  pub accepted : IfOk r (λ reached. Accepts text table code reached.count reached.size program)
