-- What typing makes of a tree: a name is the number of its declaration, and an operator has its place and the kind of its operands.
use Rattle.std.specs.Prelude.{ℕ}
use Rattle.meaning.specs.declared.Kind.{Kind}
use Rattle.meaning.specs.declared.Unary.{Unary}
use Rattle.meaning.specs.declared.Binary.{Binary}

-- An expression; a constant is its lane (`true` is 1).
pub data Code : Type 0 where
  constant : ℕ → Code
  variable : ℕ → Code
  the_mask : Code
  one : ℕ → Kind → Unary → Code → Code
  two : ℕ → Kind → Binary → Code → Code → Code

-- Statements. The number in front is the place of the statement's first token. `;` and a declaration without value are a
-- `step`; an assignment and a declaration with value `put` a value into the variable of a number.
pub data Program : Type 0 where
  nothing : Program
  step : ℕ → Program
  put : ℕ → ℕ → Code → Program
  both : Program → Program → Program
  choice : ℕ → Code → Program → Program → Program
  cycle : ℕ → Code → Program → Program
  alone : Program → Program
