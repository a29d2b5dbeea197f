-- Document 01, "The text": what a program is, with the places that refusals and code 13 need.
use Rattle.std.specs.Prelude.{ℕ, Bool, false, ◌||◌, List, [], ◌∷◌, eqb}
use Prim.Native.String.{String}
use Rattle.std.proofs.Math.Option.{Option, none, some}
use Rattle.meaning.specs.declared.Kind.{Kind}
use Rattle.meaning.specs.declared.Kind.TheVariants.{Int as int, Bool as bool, Float as float}
use Rattle.meaning.specs.declared.Unary.{Unary}
use Rattle.meaning.specs.declared.Unary.TheVariants.{Neg as neg, Inv as inv, Not as unary_not}
use Rattle.meaning.specs.declared.Binary.{Binary}
use Rattle.meaning.specs.declared.Binary.TheVariants.{Or as or, Xor as xor, And as and, Eq as eq, Ne as ne, Lt as lt, Gt as gt, Le as le, Ge as ge, Add as add, Sub as sub, Mul as mul}
use Rattle.meaning.specs.Codes.{option}

-- The bytes of a name.
abbrev pub Name : Type 0
Name = List ℕ

-- "A type is `int` or `bool`"; document 02, R-2: "Add `float`". The kinds by their words.
unfoldable pub kinds : List (String × Kind)
kinds = ("int", int) ∷ ("bool", bool) ∷ ("float", float) ∷ []

-- The number of a kind, in the same order.
unfoldable pub kind_number : Kind → ℕ
kind_number int = 0
kind_number bool = 1
kind_number float = 2

-- "of one kind"
unfoldable pub same_kind : Kind → Kind → Bool
same_kind k l = eqb (kind_number k) (kind_number l)

infix 40 ◌one_of◌
-- Is a kind in the list?
unfoldable pub ◌one_of◌ : Kind → List Kind → Bool
◌one_of◌ k [] = false
◌one_of◌ k (l ∷ ks) = same_kind k l || k one_of ks

-- What it gives: "Comparisons give bool, the others their operands' kind."
pub data Gives : Type 0 where
  a_bool its_kind : Gives

-- The binary operators: the sign, the kinds of which it takes two alike, and what it gives. "`+ - *` and `< > <= >=` take ints;
-- `== != & | ^` take two of one kind"; of floats "`+ - *`, unary minus and all comparisons".
unfoldable pub table : Binary → String × List Kind × Gives
table or = ("|", int ∷ bool ∷ [], its_kind)
table xor = ("^", int ∷ bool ∷ [], its_kind)
table and = ("&", int ∷ bool ∷ [], its_kind)
table eq = ("==", int ∷ bool ∷ float ∷ [], a_bool)
table ne = ("!=", int ∷ bool ∷ float ∷ [], a_bool)
table lt = ("<", int ∷ float ∷ [], a_bool)
table gt = (">", int ∷ float ∷ [], a_bool)
table le = ("<=", int ∷ float ∷ [], a_bool)
table ge = (">=", int ∷ float ∷ [], a_bool)
table add = ("+", int ∷ float ∷ [], its_kind)
table sub = ("-", int ∷ float ∷ [], its_kind)
table mul = ("*", int ∷ float ∷ [], its_kind)

-- The unary operators: the sign, and the kinds that it takes and gives. "`-` `~` take int, `!` bool"; document 02, R-2: of
-- floats "unary minus".
unfoldable pub unary_table : Unary → String × List Kind
unary_table neg = ("-", int ∷ float ∷ [])
unary_table inv = ("~", int ∷ [])
unary_table unary_not = ("!", bool ∷ [])

-- "Expressions, loosest first: `|`, `^`, `&`, (`==` `!=`), (`<` `>` `<=` `>=`), (`+` `-`), `*`"
unfoldable pub levels : List (List Binary)
levels = (or ∷ []) ∷ (xor ∷ []) ∷ (and ∷ []) ∷ (eq ∷ ne ∷ []) ∷ (lt ∷ gt ∷ le ∷ ge ∷ []) ∷ (add ∷ sub ∷ []) ∷ (mul ∷ []) ∷ []

-- "number, true, false, name, current_mask", and operators; a float's constant by its pattern. The number in front is the place of the
-- name or the operator.
pub data Expr : Type 0 where
  number : ℕ → Expr
  float_number : ℕ → Expr
  boolean : Bool → Expr
  name : ℕ → Name → Expr
  current_mask : Expr
  unary : ℕ → Unary → Expr → Expr
  binary : ℕ → Binary → Expr → Expr → Expr

-- "then perhaps `block[N]`": N with its place.
abbrev pub Block : Type 0
Block = Option (ℕ × ℕ)

infixl 10 ◌⨾◌
-- The first number is the place of the statement's first token. A declaration has its kind, block, name's place and name, and
-- perhaps the place of `=` and the initial value; an assignment the name, the place of `=` and the right side.
mutual
  pub data Stmt : Type 0 where
    empty : ℕ → Stmt
    braces : ℕ → Stmts → Stmt
    declare : ℕ → Kind → Block → ℕ → Name → Option (ℕ × Expr) → Stmt
    assign : ℕ → Name → ℕ → Expr → Stmt
    if_else : ℕ → Expr → Stmt → Stmt → Stmt
    while : ℕ → Expr → Stmt → Stmt
    scalar : ℕ → Stmt → Stmt

  -- "a sequence of statements, perhaps empty"
  pub data Stmts : Type 0 where
    none_yet : Stmts
    ◌⨾◌ : Stmts → Stmt → Stmts

-- The tree without its places: two texts have the same tree when these are equal.
unfoldable pub bare : Expr → Expr
bare (number n) = number n
bare (float_number n) = float_number n
bare (boolean b) = boolean b
bare (name p x) = name 0 x
bare current_mask = current_mask
bare (unary p o a) = unary 0 o (bare a)
bare (binary p o a b) = binary 0 o (bare a) (bare b)

-- The same of statements.
unfoldable mutual
  pub bare_stmt : Stmt → Stmt
  bare_stmt (empty p) = empty 0
  bare_stmt (braces p l) = braces 0 (bare_stmts l)
  bare_stmt (declare p k b q x v) = declare 0 k (option none (λ n. some (n.0, 0)) b) 0 x (option none (λ i. some (0, bare i.1)) v)
  bare_stmt (assign p x q e) = assign 0 x 0 (bare e)
  bare_stmt (if_else p e s t) = if_else 0 (bare e) (bare_stmt s) (bare_stmt t)
  bare_stmt (while p e s) = while 0 (bare e) (bare_stmt s)
  bare_stmt (scalar p s) = scalar 0 (bare_stmt s)

  pub bare_stmts : Stmts → Stmts
  bare_stmts none_yet = none_yet
  bare_stmts (l ⨾ s) = bare_stmts l ⨾ bare_stmt s
