-- What the answers for statements say: one definition turns each into the definition's outcome.
use Rattle.std.specs.Prelude.{ℕ, ◌+◌, ◌≤◌, ◌≡◌, Bool, List, ◌++◌, eqb, length, get_or, take, IfOk}
use Rattle.meaning.specs.declared.Kind.{Kind}
use Rattle.meaning.specs.Codes.{Out, ok, refused, ◌>>=◌, ◌>>◌, give, when◌then◌else◌, declaration_limit}
use Rattle.meaning.specs.Tree.{Expr, Block, Stmt}
use Rattle.meaning.specs.Program.{Program}
use Rattle.meaning.specs.Memory.{Declarations}
use Rattle.meaning.specs.Typing.{Types, Typed, typed, storable, typed_condition, typed_statement}
use Rattle.layout.specs.Words.{unit_words, kind_tag, block_length, block_place}
use Rattle.layout.specs.Heads.{place_word, long_head, condition_word}
use Rattle.layout.specs.Code.{program_words}
use Rattle.layout.specs.Sizes.{table_room, tree_limit}
use Rattle.layout.specs.Table.{entries}
use Rattle.laws.specs.Sound.{Placed}
use Rattle.typing_expressions.specs.declared.Point.{Point}
use Rattle.typing_expressions.specs.Rows.{Rows, Closes}
use Rattle.typing_expressions.specs.Answers.{TypesAs}
use Rattle.typing_simple.specs.declared.Target.{Target}
use Rattle.layout.specs.Stage.{Stage}
use Rattle.std.specs.declared.result.Result.TheVariants.{Ok, Err}
use Rattle.typing_simple.specs.Shapes.{listed_block, Empty, Condition}

-- ---- the parts of a statement
-- The target's length m, or the value's n where m is 0, for a declaration without `block`.
unfoldable pub length_or : ℕ → ℕ → ℕ
length_or m n = when eqb m 0 then (λ _. n) else λ _. m

-- "the right side, then 8, 9, 10 at `=`": a value, typed, for a target.
unfoldable pub valued : ℕ → Target → Expr → Types Typed
valued C t e = do
  a ← typed C e
  storable C t.place t.kind (length_or t.lanes a.lanes) a
  give (record { code = a.code; kind = t.kind; lanes = length_or t.lanes a.lanes })

-- The kind whose token's number is a tag.
abbrev pub NamesKind : ℕ → Kind → Type 0
NamesKind tag r = (k : Kind) → kind_tag k ≡ tag → r ≡ k

-- The `block[N]` with this N and its place has a good N.
abbrev pub BlocksWell : ℕ → ℕ → Bool → Type 0
BlocksWell n place r = (text : List ℕ) (b : Block) → Placed text b → block_length b ≡ n → block_place b ≡ place → r ≡ listed_block b

-- The condition of an `if` or a `while` whose words are the tree was typed at a point as the definition says, behind the room for its head.
abbrev pub TypesCondition : Point → List ℕ → List ℕ → List ℕ → List ℕ → List ℕ → List ℕ → Stage → Type 0
TypesCondition at text tree table before after stack r =
    (e : Expr) → Condition text tree e
    → TypesAs (take (at.size + long_head) before) after stack at.count (at.size + (long_head + get_or tree condition_word 0)) (entries text table at.count) r
    (typed_condition at.context (get_or tree place_word 0) e (entries text table at.count))

-- ---- a statement
-- The answer for a statement that becomes P.
unfoldable pub walked_out : Stage → Program → List ℕ → List ℕ → Out Declarations Program
walked_out (Ok reached) P text table = ok P (entries text table reached.count)
walked_out (Err why) P text table = refused why.refusal why.place

-- After a statement the table holds n declarations, which are no fewer than before, and the code z words, which stand behind those
-- before and are at most as many as the tree has.
pub record WalkedTo (text table before code : List ℕ) (count end n z : ℕ) (P : Program) : Type 0 where
  pub rows : Rows text table n
  pub more : count ≤ n
  pub room : z ≤ end
  pub words : take z code ≡ before ++ program_words P

-- A statement was typed with an outcome, and its program written.
pub record Walks (text table before code : List ℕ) (count end : ℕ) (r : Stage) (out : Out Declarations Program) : Type 0 where
  pub program : Program
  pub is : walked_out r program text table ≡ out
  pub on : IfOk r (λ reached. WalkedTo text table before code count end reached.count reached.size program)

-- The statement s, whose words are the tree, was typed at a point as the definition says.
abbrev pub WalksAt : Point → List ℕ → List ℕ → List ℕ → List ℕ → List ℕ → List ℕ → Stmt → Stage → Type 0
WalksAt at text tree table table' code code' s r =
    Walks text table' (take at.size code) code' at.count (at.size + length tree) r (typed_statement at.context s (entries text table at.count))

-- So was each of a shape.
abbrev pub TypesStatement : (List ℕ → List ℕ → Stmt → Type 0) → Point → List ℕ → List ℕ → List ℕ → List ℕ → List ℕ → List ℕ → Stage → Type 0
TypesStatement Shape at text tree table table' code code' r = (s : Stmt) → Shape text tree s → WalksAt at text tree table table' code code' s r

-- What a declaration without value is lent.
pub record PlainRoom (text tree table code : List ℕ) (at : Point) : Type 0 where
  pub rows : Rows text table at.count
  pub short : at.size + length tree ≤ tree_limit
  pub code_room : at.size + length tree ≤ length code

-- `;` was typed as the definition says: it declares nothing and becomes a step.
pub record StepsOn (at : Point) (s : Stmt) (before after : List ℕ) (r : Stage) : Type 0 where
  pub program : Program
  pub is : (C : ℕ) (Γ : Declarations) → typed_statement C s Γ ≡ ok program Γ
  pub answer : r ≡ Ok (record { count = at.count; size = at.size + unit_words })
  pub words : take (at.size + unit_words) after ≡ take at.size before ++ program_words program

abbrev pub TypesEmpty : Point → List ℕ → List ℕ → List ℕ → Stage → Type 0
TypesEmpty at tree before after r = (s : Stmt) → Empty tree s → StepsOn at s before after r

-- ---- a scope
-- The scope of the declarations from a number on can be closed.
pub record ScopeOpen (from n : ℕ) (table : List ℕ) : Type 0 where
  pub order : from ≤ n
  pub few : n ≤ declaration_limit
  pub room : table_room ≤ length table

-- It was closed, if there was no refusal.
pub record ScopeClosed (from : ℕ) (one : Stage) (before after : List ℕ) (r : Stage) : Type 0 where
  pub same : r ≡ one
  pub closes : IfOk one (λ reached. Closes from reached.count before after)
