-- Document 01, "Typing": the tree to a program, with the declarations; refusals 5 to 11 in the stated order. The rules are those
-- of 001, Figure 8, narrowed as document 01 says.
use Rattle.std.specs.Prelude.{ℕ, suc, Bool, true, false, ◌&&◌, ◌||◌, not, List, [], ◌∷◌, ◌++◌, map, eqb, ltb, length, take, drop}
use Rattle.std.proofs.Math.Option.{Option, none, some}
use Rattle.meaning.specs.declared.Kind.{Kind}
use Rattle.meaning.specs.declared.Kind.TheVariants.{Int as int, Bool as bool, Float as float}
use Rattle.meaning.specs.declared.Refusal.TheVariants.{UnknownName, AlreadyOpen, LengthNotListed, WrongKind, WrongLength, LengthOneTarget, TooManyDeclarations}
use Rattle.meaning.specs.Codes.{Out, ok, Doing, after, ◌>>=◌, ◌>>◌, give, refuse, check, option, when◌then◌else◌, ◌among◌, lengths, declaration_limit}
use Rattle.meaning.specs.Tokens.{equal, starts}
use Rattle.meaning.specs.Tree.{Name, kind_number, same_kind, ◌one_of◌, Gives, a_bool, its_kind, table, unary_table, Expr, number, float_number, boolean, name, current_mask, unary, binary, Block, Stmt, empty, braces, declare, assign, if_else, while, scalar, Stmts, none_yet, ◌⨾◌}
use Rattle.meaning.specs.Program.{Code, constant, variable, the_mask, one, two, Program, nothing, step, put, both, choice, cycle, alone}
use Rattle.meaning.specs.Memory.{Declared, Declarations, declared, whole, next_multiple, need, bit, size}

-- An act of typing goes from the declarations so far to those after it.
abbrev pub Types : Type 0 → Type 0
Types A = Doing Declarations A

-- "Each expression has a kind and a length"; with what it becomes.
pub record Typed : Type 0 where
  pub code : Code
  pub kind : Kind
  pub lanes : ℕ

-- "take two of one kind", of those that it takes
unfoldable pub accepts : List Kind → Kind → Kind → Bool
accepts ks k l = k one_of ks && same_kind k l

-- "Comparisons give bool, the others their operands' kind."
unfoldable pub gives_kind : Gives → Kind → Kind
gives_kind a_bool k = bool
gives_kind its_kind k = k

-- "equal lengths or one of length 1" (001: the type match)
unfoldable pub match : ℕ → ℕ → Bool
match n m = eqb n m || eqb n 1 || eqb m 1

-- The length then; also "C if the condition's length is 1, otherwise the condition's length".
unfoldable pub joined : ℕ → ℕ → ℕ
joined n m = when eqb n 1 then (λ _. m) else λ _. n

-- "must have length 1 or C, unless C is 1"
unfoldable pub fits : ℕ → ℕ → Bool
fits C n = eqb n 1 || eqb n C || eqb C 1

-- "A name is looked for among the declarations of the open scopes": its number, where those before Γ are k.
unfoldable pub find : Name → ℕ → Declarations → Option ℕ
find x k [] = none
find x k (d ∷ Γ) = when d.open? && equal d.name x then (λ _. some k) else λ _. find x (suc k) Γ

-- The name x at place p in a context of length C: 5, then 9.
unfoldable pub variable_named : ℕ → ℕ → Name → Types (ℕ × Declared)
variable_named C p x Γ = option (refuse UnknownName p) (λ i. do
  let d = declared Γ i
  check (fits C d.lanes) WrongLength p
  give (i, d)) (find x 0 Γ) Γ

-- "Within an operator: operands left to right, then 8, 9 at the operator."
unfoldable pub typed : ℕ → Expr → Types Typed
typed C (number n) = give (record { code = constant n; kind = int; lanes = 1 })
typed C (float_number n) = give (record { code = constant n; kind = float; lanes = 1 })
typed C (boolean b) = give (record { code = constant (bit b); kind = bool; lanes = 1 })
typed C (name p x) = do
  (i, d) ← variable_named C p x
  give (record { code = variable i; kind = d.kind; lanes = d.lanes })
typed C current_mask = give (record { code = the_mask; kind = bool; lanes = C })
typed C (unary p o e) = do
  a ← typed C e
  check (a.kind one_of (unary_table o).1) WrongKind p
  give (record { code = one p a.kind o a.code; kind = a.kind; lanes = a.lanes })
typed C (binary p o e e') = do
  a ← typed C e
  b ← typed C e'
  check (accepts (table o).1 a.kind b.kind) WrongKind p
  check (match a.lanes b.lanes) WrongLength p
  give (record { code = two p a.kind o a.code b.code; kind = gives_kind (table o).2 a.kind; lanes = joined a.lanes b.lanes })

-- The length of a typed expression's value, in a context of C lanes.
unfoldable pub width : Declarations → ℕ → Code → ℕ
width Γ C (constant n) = 1
width Γ C (variable x) = (declared Γ x).lanes
width Γ C the_mask = C
width Γ C (one p k o a) = width Γ C a
width Γ C (two p k o a b) = joined (width Γ C a) (width Γ C b)

-- "A condition: its expression, then 8." "A condition is bool."
unfoldable pub typed_condition : ℕ → ℕ → Expr → Types Typed
typed_condition C p e = do a ← typed C e; check (same_kind a.kind bool) WrongKind p; give a

-- "then 8, 9, 10 at `=`": a value for a target of kind k and n lanes. "The right side has the target's kind, and its length or
-- 1 (001, broadcast). Where C is above 1, a target of length 1 is refused".
unfoldable pub storable : ℕ → ℕ → Kind → ℕ → Typed → Types (Unit {0})
storable C p k n a = do
  check (same_kind a.kind k) WrongKind p
  check (eqb a.lanes 1 || eqb a.lanes n) WrongLength p
  check (eqb C 1 || not (eqb n 1)) LengthOneTarget p

-- One more declaration: "the next multiple of its whole size" from the end of the last.
unfoldable pub with_one : Kind → ℕ → ℕ → Name → Declarations → Declarations
with_one k n p x Γ = Γ ++ (record { name = x; place = p; kind = k; lanes = n; address = next_multiple (need Γ) (whole k n); open? = true } ∷ [])

-- "then at the name 9 (length neither 1 nor C, where C is above 1), 6, 11"; the new declaration's number
unfoldable pub declare_name : ℕ → Kind → ℕ → ℕ → Name → Types ℕ
declare_name C k n p x Γ = (do
  check (fits C n) WrongLength p
  check (option true (λ i. false) (find x 0 Γ)) AlreadyOpen p
  check (ltb (length Γ) declaration_limit) TooManyDeclarations p
  λ Γ. ok (length Γ) (with_one k n p x Γ)) Γ

-- N is of the list: "Demands and code 7 read with the new list."
unfoldable pub good_block : Block → Types (Unit {0})
good_block none = give tt
good_block (some n) = check (n.0 among lengths) LengthNotListed n.1

-- The length that `block[N]` gives, or n without it.
unfoldable pub lanes_or : ℕ → Block → ℕ
lanes_or n none = n
lanes_or n (some m) = m.0

-- "Declaration: 7, the initial value, 8, 9, 10 at `=`, then at the name ..". "`t x;` without `block` has length 1; `t x = e;`
-- without `block` takes the length of e." "The initial value is typed before its name is open."
unfoldable pub typed_declaration : ℕ → ℕ → Kind → Block → ℕ → Name → Option (ℕ × Expr) → Types Program
typed_declaration C p k b q x none = do good_block b; declare_name C k (lanes_or 1 b) q x; give (step p)
typed_declaration C p k b q x (some v) = do
  good_block b
  a ← typed C v.1
  let n = lanes_or a.lanes b
  storable C v.0 k n a
  i ← declare_name C k n q x
  give (put p i a.code)

-- A declaration whose scope has ended.
unfoldable pub shut : Declared → Declared
shut d = record { name = d.name; place = d.place; kind = d.kind; lanes = d.lanes; address = d.address; open? = false }

-- "Braces, branches and bodies are scopes": what m declares is not open after it.
unfoldable pub scope : {A : Type 0} → Types A → Types A
scope m Γ = after (m Γ) (λ a Γ'. ok a (take (length Γ) Γ' ++ map shut (drop (length Γ) Γ')))

-- Statements in a context of length C. "Its branches or body have context length C if ..". "`scalar` makes it 1."
unfoldable mutual
  pub typed_statement : ℕ → Stmt → Types Program
  typed_statement C (empty p) = give (step p)
  typed_statement C (braces p l) = scope (typed_statements C l)
  typed_statement C (declare p k b q x v) = typed_declaration C p k b q x v
  typed_statement C (assign p x q e) = do
    (i, d) ← variable_named C p x
    a ← typed C e
    storable C q d.kind d.lanes a
    give (put p i a.code)
  typed_statement C (if_else p e s t) = do
    a ← typed_condition C p e
    s' ← scope (typed_statement (joined a.lanes C) s)
    t' ← scope (typed_statement (joined a.lanes C) t)
    give (choice p a.code s' t')
  typed_statement C (while p e s) = do
    a ← typed_condition C p e
    s' ← scope (typed_statement (joined a.lanes C) s)
    give (cycle p a.code s')
  typed_statement C (scalar p s) = do s' ← scope (typed_statement 1 s); give (alone s')

  -- "in text order"
  pub typed_statements : ℕ → Stmts → Types Program
  typed_statements C none_yet = give nothing
  typed_statements C (l ⨾ s) = do l' ← typed_statements C l; s' ← typed_statement C s; give (both l' s')

-- "The context length C is 1 at the start."
unfoldable pub typed_program : Stmts → Out Declarations Program
unfolding lengths equal starts table unary_table declared whole next_multiple need bit size kind_number same_kind ◌one_of◌ accepts gives_kind match joined fits find variable_named typed typed_condition storable with_one declare_name good_block lanes_or typed_declaration shut scope typed_statement
typed_program l = typed_statements 1 l []
