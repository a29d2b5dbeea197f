-- What the answers for programs say: one definition turns each into the definition's outcome.
use Rattle.std.specs.Prelude.{ℕ, ◌+◌, ◌*◌, ◌≤◌, ◌≡◌, List, length, get_or, take, IfOk}
use Rattle.meaning.specs.Codes.{Out, ok, refused, text_limit, nesting_limit}
use Rattle.meaning.specs.Tree.{Expr, Stmt, Stmts}
use Rattle.meaning.specs.Program.{Program}
use Rattle.meaning.specs.Memory.{Declarations}
use Rattle.meaning.specs.Typing.{Typed, joined, scope, typed_condition, typed_statement, typed_statements, typed_program}
use Rattle.layout.specs.Code.{program_words}
use Rattle.layout.specs.Sizes.{tree_limit, table_room}
use Rattle.layout.specs.Stack.{slot_words}
use Rattle.layout.specs.Table.{entries}
use Rattle.laws.specs.Sound.{stack_limit}
use Rattle.typing_expressions.specs.declared.Point.{Point}
use Rattle.typing_expressions.specs.Rows.{Rows, ListedLength}
use Rattle.typing_expressions.specs.Answers.{TypedTo}
use Rattle.layout.specs.Heads.{place_word, long_head, condition_word}
use Rattle.layout.specs.Stage.{Stage}
use Rattle.layout.specs.declared.Refused.{Refused}
use Rattle.typing_simple.specs.Shapes.{Condition}
use Rattle.typing_simple.specs.Answers.{Walks}
use Rattle.typing.specs.Shapes.{Statement, Statements}
use Rattle.std.specs.declared.result.Result.{Result}
use Rattle.std.specs.declared.result.Result.TheVariants.{Ok, Err}

-- ---- a condition
-- The answer for a condition that becomes a.
unfoldable pub tested_out : Result Point Refused → Typed → Declarations → Out Declarations Typed
tested_out (Ok inside) a Γ = ok a Γ
tested_out (Err why) a Γ = refused why.refusal why.place

-- The branches of a condition that has become a are typed in the context that it makes, behind its code.
pub record Inside (at : Point) (before code : List ℕ) (end : ℕ) (a : Typed) (inside : Point) : Type 0 where
  pub context : inside.context ≡ joined a.lanes at.context
  pub listed : ListedLength inside.context
  pub on : TypedTo before code at.count end inside.count inside.size a.code

-- A condition was typed with an outcome, and its code written.
pub record Tests (at : Point) (before code : List ℕ) (end : ℕ) (Γ : Declarations) (r : Result Point Refused) (out : Out Declarations Typed) : Type 0 where
  pub becomes : Typed
  pub is : tested_out r becomes Γ ≡ out
  pub on : IfOk r (λ inside. Inside at before code end becomes inside)

-- The condition of an `if` or a `while` whose words are the tree was typed at a point as the definition says, behind the room for its head.
abbrev pub TestsAt : Point → List ℕ → List ℕ → List ℕ → List ℕ → List ℕ → Result Point Refused → Type 0
TestsAt at text tree table before after r =
    (e : Expr) → Condition text tree e
    → Tests at (take (at.size + long_head) before) after (at.size + (long_head + get_or tree condition_word 0)) (entries text table at.count) r
    (typed_condition at.context (get_or tree place_word 0) e (entries text table at.count))

-- ---- statements
-- The sequence whose words are the tree, of at most `nest` levels, was typed at a point as the definition says.
abbrev pub TypesSequence : ℕ → Point → List ℕ → List ℕ → List ℕ → List ℕ → List ℕ → List ℕ → Stage → Type 0
TypesSequence nest at text tree table table' code code' r =
    (l : Stmts) → Statements nest text tree l
    → Walks text table' (take at.size code) code' at.count (at.size + length tree) r (typed_statements at.context l (entries text table at.count))

-- So was the statement, in a scope of its own.
abbrev pub TypesBranch : ℕ → Point → List ℕ → List ℕ → List ℕ → List ℕ → List ℕ → List ℕ → Stage → Type 0
TypesBranch nest at text tree table table' code code' r =
    (s : Stmt) → Statement nest text tree s
    → Walks text table' (take at.size code) code' at.count (at.size + length tree) r (scope (typed_statement at.context s) (entries text table at.count))

-- What is lent to typing for a whole program.
pub record ProgramRoom (text tree table code stack : List ℕ) : Type 0 where
  pub short : length text ≤ text_limit
  pub few : length tree ≤ tree_limit
  pub rows_room : table_room ≤ length table
  pub code_room : length tree ≤ length code
  pub stack_room : stack_limit * slot_words ≤ length stack

-- The answer for a program P.
unfoldable pub program_out : Stage → Program → List ℕ → List ℕ → Out Declarations Program
program_out (Ok reached) P text table = ok P (entries text table reached.count)
program_out (Err why) P text table = refused why.refusal why.place

-- Of an accepted text: that the table is as a run wants it, and its program's words, which the buffer has room for, and which are no more
-- than the longest tree has.
pub record Accepts (text table code : List ℕ) (n z : ℕ) (P : Program) : Type 0 where
  pub rows : Rows text table n
  pub fits : z ≤ length code
  pub short : z ≤ tree_limit
  pub words : take z code ≡ program_words P

-- The program l was typed as the definition says.
pub record TypedProgram (text table code : List ℕ) (l : Stmts) (r : Stage) : Type 0 where
  pub program : Program
  pub is : program_out r program text table ≡ typed_program l
  pub accepted : IfOk r (λ reached. Accepts text table code reached.count reached.size program)

-- The program whose words are the tree was typed so.
abbrev pub TypesProgram : List ℕ → List ℕ → List ℕ → List ℕ → Stage → Type 0
TypesProgram text tree table code r = (l : Stmts) → Statements nesting_limit text tree l → TypedProgram text table code l r
