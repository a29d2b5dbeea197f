-- What the answers of typing say: one definition turns each into the definition's outcome.
use Rattle.std.specs.Prelude.{ℕ, ◌+◌, ◌-◌, ◌*◌, ◌≤◌, ◌≡◌, List, [], ◌++◌, length, get_or, take, IfOk}
use Rattle.meaning.specs.declared.Kind.{Kind}
use Rattle.meaning.specs.declared.Unary.{Unary}
use Rattle.meaning.specs.declared.Binary.{Binary}
use Rattle.meaning.specs.Codes.{Out, ok, refused}
use Rattle.meaning.specs.Tree.{Expr}
use Rattle.meaning.specs.Program.{Code}
use Rattle.meaning.specs.Memory.{Declarations}
use Rattle.meaning.specs.Typing as T
use Rattle.layout.specs.Words.{flat}
use Rattle.layout.specs.Code.{code_words}
use Rattle.layout.specs.Sizes.{tree_limit}
use Rattle.layout.specs.Stack.{slot_words, slot_kind, slot_lanes}
use Rattle.layout.specs.Table.{kind_of, entries}
use Rattle.layout.specs.Stage.{Stage}
use Rattle.std.specs.declared.result.Result.TheVariants.{Ok, Err}
use Rattle.laws.specs.Sound.{Sound, stack_limit}
use Rattle.typing_expressions.specs.declared.Point.{Point}
use Rattle.typing_expressions.specs.Rows.{Rows, ListedLength, spelled}
use Rattle.typing_expressions.specs.Nodes.{TreeNode, a_name, a_unary, a_binary, Entry, entry_at, Slot, step, slots, node_tag, node_first, code_tag, code_place, arity, IsNode, NodeAt}

-- There is one of which P holds.
pub record ThereIs {A : Type 0} (P : A → Type 0) : Type 0 where
  pub the : A
  pub is : P the

-- The words are those of the expression e, which can be gone through.
pub record Expression (text words : List ℕ) (e : Expr) : Type 0 where
  pub is : words ≡ flat e
  pub sound : Sound text e

-- What is lent to typing at a point: the table, room for the code of a tree, and the stack.
pub record TypingRoom (text tree table code stack : List ℕ) (at : Point) : Type 0 where
  pub rows : Rows text table at.count
  pub listed : ListedLength at.context
  pub short : at.size + length tree ≤ tree_limit
  pub code_room : at.size + length tree ≤ length code
  pub stack_room : stack_limit * slot_words ≤ length stack

-- ---- a node
-- The answer for a node whose result is x.
unfoldable pub entry_out : Stage → Entry → Declarations → Out Declarations Entry
entry_out (Ok reached) x Γ = ok x Γ
entry_out (Err why) x Γ = refused why.refusal why.place

-- With a result in slot b of the stack, those under it are as before, the stack is h high and the code still has the words of the point.
pub record Pushed (at : Point) (b : ℕ) (before after : List ℕ) (h z : ℕ) : Type 0 where
  pub height : h ≡ b + 1
  pub size : z ≡ at.size
  pub under : slots after b ≡ slots before b

-- A node was typed at a point as the definition says, over the operands l, and its result stands in slot b.
pub record TypesNode (at : Point) (n : TreeNode) (l : List Slot) (Γ : Declarations) (b : ℕ) (before after : List ℕ) (r : Stage) : Type 0 where
  pub is : entry_out r (entry_at after b) Γ ≡ step at.context n l Γ
  pub on : IfOk r (λ reached. Pushed at b before after reached.count reached.size)

-- The name from a place to an end was.
abbrev pub TypesName : Point → ℕ → ℕ → List ℕ → List ℕ → ℕ → List ℕ → List ℕ → Stage → Type 0
TypesName at place end text table b before after r = TypesNode at (a_name place (spelled text place end)) [] (entries text table at.count) b before after r

-- So was each node without operands whose words these are.
abbrev pub TypesLeaf : Point → ℕ → ℕ → ℕ → List ℕ → List ℕ → ℕ → List ℕ → List ℕ → Stage → Type 0
TypesLeaf at tag x y text table b before after r =
    (n : TreeNode) (l : List Slot) → IsNode text tag x y n → TypesNode at n l (entries text table at.count) b before after r

-- An operator over the operands from slot b on, whatever is declared.
abbrev pub TypesUnary : Point → Unary → ℕ → ℕ → List ℕ → List ℕ → Stage → Type 0
TypesUnary at o place b before after r = (Γ : Declarations) → TypesNode at (a_unary place o) (slots before (b + 1)) Γ b before after r

abbrev pub TypesBinary : Point → Binary → ℕ → ℕ → List ℕ → List ℕ → Stage → Type 0
TypesBinary at o place b before after r = (Γ : Declarations) → TypesNode at (a_binary place o) (slots before (b + 2)) Γ b before after r

-- The node at word i of a tree, over a stack of height h, from which it takes its operands.
abbrev pub TypesAt : Point → ℕ → ℕ → List ℕ → List ℕ → List ℕ → List ℕ → List ℕ → Stage → Type 0
TypesAt at i h text tree table before after r =
    (n : TreeNode) → NodeAt text tree i h n → TypesNode at n (slots before h) (entries text table at.count) (h - arity n) before after r

-- The tag in the code of the node of a tag, and its third word there.
abbrev pub CodesAs : ℕ → ℕ → Type 0
CodesAs tag r = (n : TreeNode) → node_tag n ≡ tag → r ≡ code_tag n

abbrev pub CodesAt : List ℕ → ℕ → ℕ → Type 0
CodesAt tree i r = (n : TreeNode) → node_tag n ≡ get_or tree i 0 → node_first n ≡ get_or tree (i + 1) 0 → r ≡ code_place n

-- ---- an expression
-- The answer for an expression that becomes x: its kind and its length stand in the stack's first slot.
unfoldable pub typed_out : Stage → Code → List ℕ → Declarations → Out Declarations T.Typed
typed_out (Ok reached) x stack Γ = ok (record { code = x; kind = kind_of (slot_kind stack 0); lanes = slot_lanes stack 0 }) Γ
typed_out (Err why) x stack Γ = refused why.refusal why.place

-- There are as many declarations as before, and z words of code: those of x behind those before, as many as its tree has.
pub record TypedTo (before code : List ℕ) (count end n z : ℕ) (x : Code) : Type 0 where
  pub none_new : n ≡ count
  pub ends : z ≡ end
  pub words : take end code ≡ before ++ code_words x

-- An expression was typed with an outcome, and its code written.
pub record TypesAs (before code stack : List ℕ) (count end : ℕ) (Γ : Declarations) (r : Stage) (out : Out Declarations T.Typed) : Type 0 where
  pub becomes : Code
  pub is : typed_out r becomes stack Γ ≡ out
  pub on : IfOk r (λ reached. TypedTo before code count end reached.count reached.size becomes)

-- The expression whose words are the tree was typed at a point as a definition says.
abbrev pub TypesExpression : (Expr → T.Types T.Typed) → Point → List ℕ → List ℕ → List ℕ → List ℕ → List ℕ → List ℕ → Stage → Type 0
TypesExpression definition at text tree table before after stack r =
    (e : Expr) → Expression text tree e
    → TypesAs (take at.size before) after stack at.count (at.size + length tree) (entries text table at.count) r (definition e (entries text table at.count))

-- ---- a declaration
-- The answer for a declaration whose number is i.
unfoldable pub number_out : Stage → ℕ → Declarations → Out Declarations ℕ
number_out (Ok reached) i Γ = ok i Γ
number_out (Err why) i Γ = refused why.refusal why.place

-- The table holds one declaration more than at a point, and the code as many words.
pub record DeclaredTo (at : Point) (text table : List ℕ) (n z : ℕ) : Type 0 where
  pub one_more : n ≡ at.count + 1
  pub size : z ≡ at.size
  pub rows : Rows text table n

-- The name from a place to an end was declared as the definition says, with a kind k and n lanes: it is the next one.
pub record DeclaresName (at : Point) (k : Kind) (n place end : ℕ) (text before after : List ℕ) (r : Stage) : Type 0 where
  pub is : number_out r at.count (entries text after (at.count + 1)) ≡ T.declare_name at.context k n place (spelled text place end) (entries text before at.count)
  pub on : IfOk r (λ reached. DeclaredTo at text after reached.count reached.size)
