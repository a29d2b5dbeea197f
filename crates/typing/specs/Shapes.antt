-- What the words of a statement hold, and of those that hold others: their parts, and where they stand.
use Rattle.std.specs.Prelude.{ℕ, ◌+◌, ◌≤◌, ◌≡◌, List, length, get_or}
use Rattle.meaning.specs.Tree.{Expr, Stmt, braces, if_else, while, scalar, Stmts}
use Rattle.layout.specs.Words.{flat_stmt, flat_stmts}
use Rattle.layout.specs.Heads.{place_word, short_head, long_head, condition_word, branch_word}
use Rattle.laws.specs.Sound.{Walkable, AllWalkable}
use Rattle.typing_expressions.specs.Answers.{Expression}
use Rattle.typing_simple.specs.Shapes.{part}

-- The words are those of the statement s, of at most r levels, which can be gone through.
pub record Statement (r : ℕ) (text words : List ℕ) (s : Stmt) : Type 0 where
  pub is : words ≡ flat_stmt s
  pub walkable : Walkable text r s

-- The same of a sequence.
pub record Statements (r : ℕ) (text words : List ℕ) (l : Stmts) : Type 0 where
  pub is : words ≡ flat_stmts l
  pub walkable : AllWalkable text r l

-- The statement s is a braced sequence, of at most r levels inside.
pub record Braces (r : ℕ) (text words : List ℕ) (s : Stmt) : Type 0 where
  pub place : ℕ
  pub inside : Stmts
  pub is : s ≡ braces place inside
  pub long : short_head ≤ length words
  pub all : Statements r text (part words short_head (length words)) inside

-- It is an `if`, with a words of condition and b words of first branch; branches of at most r levels.
pub record ChoiceOf (r : ℕ) (text words : List ℕ) (a b : ℕ) (s : Stmt) : Type 0 where
  pub test : Expr
  pub first : Stmt
  pub second : Stmt
  pub is : s ≡ if_else (get_or words place_word 0) test first second
  pub long : long_head + a + b ≤ length words
  pub its_test : Expression text (part words long_head (long_head + a)) test
  pub its_first : Statement r text (part words (long_head + a) (long_head + a + b)) first
  pub its_second : Statement r text (part words (long_head + a + b) (length words)) second

abbrev pub Choice : ℕ → List ℕ → List ℕ → Stmt → Type 0
Choice r text words s = ChoiceOf r text words (get_or words condition_word 0) (get_or words branch_word 0) s

-- It is a `while`, with a words of condition; a body of at most r levels.
pub record CycleOf (r : ℕ) (text words : List ℕ) (a : ℕ) (s : Stmt) : Type 0 where
  pub test : Expr
  pub body : Stmt
  pub is : s ≡ while (get_or words place_word 0) test body
  pub long : long_head + a ≤ length words
  pub its_test : Expression text (part words long_head (long_head + a)) test
  pub its_body : Statement r text (part words (long_head + a) (length words)) body

abbrev pub Cycle : ℕ → List ℕ → List ℕ → Stmt → Type 0
Cycle r text words s = CycleOf r text words (get_or words condition_word 0) s

-- It is a `scalar`, with a body of at most r levels.
pub record Alone (r : ℕ) (text words : List ℕ) (s : Stmt) : Type 0 where
  pub place : ℕ
  pub body : Stmt
  pub is : s ≡ scalar place body
  pub long : short_head ≤ length words
  pub its_body : Statement r text (part words short_head (length words)) body
