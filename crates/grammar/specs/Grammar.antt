-- Document 01, "The text", and document 02, R-2: the grammar as derivations, with parentheses kept and nesting without a limit.
use Rattle.std.specs.Prelude.{ℕ, suc, ◌≤◌, max, ◌≡◌, List, [], ◌∷◌, ◌++◌}
use Prim.Native.String.{String}
use Rattle.std.proofs.Math.Bool as B
use Rattle.std.proofs.Math.Option.{none, some}
use Rattle.meaning.specs.declared.Kind.{Kind}
use Rattle.meaning.specs.declared.Kind.TheVariants as K
use Rattle.meaning.specs.declared.Unary.{Unary}
use Rattle.meaning.specs.declared.Unary.TheVariants as U
use Rattle.meaning.specs.declared.Binary.{Binary}
use Rattle.meaning.specs.declared.Binary.TheVariants as O
use Rattle.meaning.specs.Codes.{nesting_limit}
use Rattle.meaning.specs.Tokens.{Token, the}
use Rattle.meaning.specs.Tree as T
use Rattle.meaning.specs.Tree.{Expr, Block, Stmt, Stmts}

-- A token of one sort, with its place, value and bytes: `The "if"` is a token `if`.
pub record The (sort : String) : Type 0 where
  pub place : ℕ
  pub value : ℕ
  pub spelled : List ℕ

-- "Expressions, loosest first: `|`, `^`, `&`, (`==` `!=`), (`<` `>` `<=` `>=`), (`+` `-`), `*`": the levels, each by how many are tighter.
abbrev pub ors : ℕ
ors = 6

abbrev pub xors : ℕ
xors = 5

abbrev pub ands : ℕ
ands = 4

abbrev pub equalities : ℕ
equalities = 3

abbrev pub orders : ℕ
orders = 2

abbrev pub sums : ℕ
sums = 1

abbrev pub products : ℕ
products = 0

-- An operator of a level.
pub data Operator : ℕ → Type 0 where
  or : The "|" → Operator ors
  xor : The "^" → Operator xors
  and : The "&" → Operator ands
  eq : The "==" → Operator equalities
  ne : The "!=" → Operator equalities
  lt : The "<" → Operator orders
  gt : The ">" → Operator orders
  le : The "<=" → Operator orders
  ge : The ">=" → Operator orders
  add : The "+" → Operator sums
  sub : The "-" → Operator sums
  mul : The "*" → Operator products

-- "then unary `-` `~` `!`"
pub data Sign : Type 0 where
  neg : The "-" → Sign
  inv : The "~" → Sign
  not : The "!" → Sign

-- How many levels may stand outside parentheses in an expression: all of them, or none.
abbrev pub every_level : ℕ
every_level = suc ors

abbrev pub no_level : ℕ
no_level = 0

-- An expression with the operators of so many levels, the tightest ones.
pub data Expression : ℕ → Type 0 where
  -- "then number, true, false, name, current_mask, or a parenthesised expression"; document 02, R-2: "A constant is a whole number up to
  -- 16777216 followed by `.0`", one token
  number : The "number" → Expression no_level
  float_number : The "float number" → Expression no_level
  true : The "true" → Expression no_level
  false : The "false" → Expression no_level
  name : The "name" → Expression no_level
  current_mask : The "current_mask" → Expression no_level
  parenthesised : The "(" → Expression every_level → The ")" → Expression no_level
  unary : Sign → Expression no_level → Expression no_level
  -- "Binary operators group to the left."
  binary : {n : ℕ} → Expression (suc n) → Operator n → Expression n → Expression (suc n)
  tighter : {n : ℕ} → Expression n → Expression (suc n)

-- "A type is `int` or `bool`, then perhaps `block[N]`."; document 02, R-2: "Add `float`".
pub data KindWord : Type 0 where
  int : The "int" → KindWord
  bool : The "bool" → KindWord
  float : The "float" → KindWord

pub data BlockPart : Type 0 where
  no_block : BlockPart
  block : The "block" → The "[" → The "number" → The "]" → BlockPart

infixl 10 ◌⨾◌
mutual
  -- "Statements: empty `;`, a braced sequence (perhaps empty), a declaration, a declaration with initial value, assignment to a name,
  -- `if` with parenthesised condition and always an `else`, `while`, and `scalar` before a statement."
  pub data Statement : Type 0 where
    empty : The ";" → Statement
    braces : The "{" → Statements → The "}" → Statement
    declaration : KindWord → BlockPart → The "name" → The ";" → Statement
    initialised : KindWord → BlockPart → The "name" → The "=" → Expression every_level → The ";" → Statement
    assignment : The "name" → The "=" → Expression every_level → The ";" → Statement
    if_else : The "if" → The "(" → Expression every_level → The ")" → Statement → The "else" → Statement → Statement
    while : The "while" → The "(" → Expression every_level → The ")" → Statement → Statement
    scalar : The "scalar" → Statement → Statement

  pub data Statements : Type 0 where
    none_yet : Statements
    ◌⨾◌ : Statements → Statement → Statements

-- "A program is a sequence of statements, perhaps empty": and then the end of the text.
pub record Program : Type 0 where
  pub statements : Statements
  pub end : The "end"

-- What a derivation is written as: its tokens from left to right. Of a token itself.
unfoldable pub token : {s : String} → The s → Token
token {s} t = record { is = the s; place = t.place; value = t.value; spelled = t.spelled }

-- Of an operator, and of the sign of a unary one.
unfoldable pub operator_token : {n : ℕ} → Operator n → Token
unfolding token
operator_token (or t) = token t
operator_token (xor t) = token t
operator_token (and t) = token t
operator_token (eq t) = token t
operator_token (ne t) = token t
operator_token (lt t) = token t
operator_token (gt t) = token t
operator_token (le t) = token t
operator_token (ge t) = token t
operator_token (add t) = token t
operator_token (sub t) = token t
operator_token (mul t) = token t

unfoldable pub sign_token : Sign → Token
unfolding token
sign_token (neg t) = token t
sign_token (inv t) = token t
sign_token (not t) = token t

-- Of an expression.
unfoldable pub expression_tokens : {n : ℕ} → Expression n → List Token
unfolding token operator_token sign_token
expression_tokens (number t) = token t ∷ []
expression_tokens (float_number t) = token t ∷ []
expression_tokens (true t) = token t ∷ []
expression_tokens (false t) = token t ∷ []
expression_tokens (name t) = token t ∷ []
expression_tokens (current_mask t) = token t ∷ []
expression_tokens (parenthesised a e b) = token a ∷ expression_tokens e ++ token b ∷ []
expression_tokens (unary o e) = sign_token o ∷ expression_tokens e
expression_tokens (binary e o e') = expression_tokens e ++ operator_token o ∷ expression_tokens e'
expression_tokens (tighter e) = expression_tokens e

-- Of a type.
unfoldable pub kind_token : KindWord → Token
unfolding token
kind_token (int t) = token t
kind_token (bool t) = token t
kind_token (float t) = token t

unfoldable pub block_tokens : BlockPart → List Token
unfolding token
block_tokens no_block = []
block_tokens (block t a n b) = token t ∷ token a ∷ token n ∷ token b ∷ []

-- Of a statement and of a sequence.
unfoldable mutual
  unfolding token kind_token block_tokens expression_tokens

  pub statement_tokens : Statement → List Token
  statement_tokens (empty t) = token t ∷ []
  statement_tokens (braces a l b) = token a ∷ statements_tokens l ++ token b ∷ []
  statement_tokens (declaration k b x c) = kind_token k ∷ block_tokens b ++ token x ∷ token c ∷ []
  statement_tokens (initialised k b x q e c) = kind_token k ∷ block_tokens b ++ token x ∷ token q ∷ expression_tokens e ++ token c ∷ []
  statement_tokens (assignment x q e c) = token x ∷ token q ∷ expression_tokens e ++ token c ∷ []
  statement_tokens (if_else t a e b s v u) = token t ∷ token a ∷ expression_tokens e ++ token b ∷ statement_tokens s ++ token v ∷ statement_tokens u
  statement_tokens (while t a e b s) = token t ∷ token a ∷ expression_tokens e ++ token b ∷ statement_tokens s
  statement_tokens (scalar t s) = token t ∷ statement_tokens s

  pub statements_tokens : Statements → List Token
  statements_tokens none_yet = []
  statements_tokens (l ⨾ s) = statements_tokens l ++ statement_tokens s

-- Of a program.
unfoldable pub program_tokens : Program → List Token
unfolding token statements_tokens
program_tokens p = statements_tokens p.statements ++ token p.end ∷ []

-- "Nesting at a point counts open `(` and `{`, unary operators whose operand is not complete, and branches or bodies of if, while and
-- scalar not complete": the most at any point. Of an expression.
unfoldable pub expression_nesting : {n : ℕ} → Expression n → ℕ
expression_nesting (number t) = 0
expression_nesting (float_number t) = 0
expression_nesting (true t) = 0
expression_nesting (false t) = 0
expression_nesting (name t) = 0
expression_nesting (current_mask t) = 0
expression_nesting (parenthesised a e b) = suc (expression_nesting e)
expression_nesting (unary o e) = suc (expression_nesting e)
expression_nesting (binary e o e') = max (expression_nesting e) (expression_nesting e')
expression_nesting (tighter e) = expression_nesting e

-- Of a statement and of a sequence.
unfoldable mutual
  unfolding expression_nesting

  pub statement_nesting : Statement → ℕ
  statement_nesting (empty t) = 0
  statement_nesting (braces a l b) = suc (statements_nesting l)
  statement_nesting (declaration k b x c) = 0
  statement_nesting (initialised k b x q e c) = expression_nesting e
  statement_nesting (assignment x q e c) = expression_nesting e
  statement_nesting (if_else t a e b s v u) = max (suc (expression_nesting e)) (max (suc (statement_nesting s)) (suc (statement_nesting u)))
  statement_nesting (while t a e b s) = max (suc (expression_nesting e)) (suc (statement_nesting s))
  statement_nesting (scalar t s) = suc (statement_nesting s)

  pub statements_nesting : Statements → ℕ
  statements_nesting none_yet = 0
  statements_nesting (l ⨾ s) = max (statements_nesting l) (statement_nesting s)

-- Of a program.
unfoldable pub program_nesting : Program → ℕ
unfolding statements_nesting
program_nesting p = statements_nesting p.statements

-- The tree of a derivation, which is typed and run: parentheses are gone, places stay. Of an operator, and of the sign of a unary one.
unfoldable pub operator_of : {n : ℕ} → Operator n → Binary
operator_of (or t) = O.Or
operator_of (xor t) = O.Xor
operator_of (and t) = O.And
operator_of (eq t) = O.Eq
operator_of (ne t) = O.Ne
operator_of (lt t) = O.Lt
operator_of (gt t) = O.Gt
operator_of (le t) = O.Le
operator_of (ge t) = O.Ge
operator_of (add t) = O.Add
operator_of (sub t) = O.Sub
operator_of (mul t) = O.Mul

unfoldable pub sign_of : Sign → Unary
sign_of (neg t) = U.Neg
sign_of (inv t) = U.Inv
sign_of (not t) = U.Not

-- Of an expression.
unfoldable pub expression_tree : {n : ℕ} → Expression n → Expr
unfolding operator_token operator_of sign_token sign_of
expression_tree (number t) = T.number t.value
expression_tree (float_number t) = T.float_number t.value
expression_tree (true t) = T.boolean B.true
expression_tree (false t) = T.boolean B.false
expression_tree (name t) = T.name t.place t.spelled
expression_tree (current_mask t) = T.current_mask
expression_tree (parenthesised a e b) = expression_tree e
expression_tree (unary o e) = T.unary (sign_token o).place (sign_of o) (expression_tree e)
expression_tree (binary e o e') = T.binary (operator_token o).place (operator_of o) (expression_tree e) (expression_tree e')
expression_tree (tighter e) = expression_tree e

-- Of a type.
unfoldable pub kind_of : KindWord → Kind
kind_of (int t) = K.Int
kind_of (bool t) = K.Bool
kind_of (float t) = K.Float

unfoldable pub block_of : BlockPart → Block
block_of no_block = none
block_of (block t a n b) = some (n.value, n.place)

-- Of a statement and of a sequence.
unfoldable mutual
  unfolding kind_token kind_of block_of expression_tree

  pub statement_tree : Statement → Stmt
  statement_tree (empty t) = T.empty t.place
  statement_tree (braces a l b) = T.braces a.place (statements_tree l)
  statement_tree (declaration k b x c) = T.declare (kind_token k).place (kind_of k) (block_of b) x.place x.spelled none
  statement_tree (initialised k b x q e c) =
      T.declare (kind_token k).place (kind_of k) (block_of b) x.place x.spelled (some (q.place, expression_tree e))
  statement_tree (assignment x q e c) = T.assign x.place x.spelled q.place (expression_tree e)
  statement_tree (if_else t a e b s v u) = T.if_else t.place (expression_tree e) (statement_tree s) (statement_tree u)
  statement_tree (while t a e b s) = T.while t.place (expression_tree e) (statement_tree s)
  statement_tree (scalar t s) = T.scalar t.place (statement_tree s)

  pub statements_tree : Statements → Stmts
  statements_tree none_yet = T.none_yet
  statements_tree (l ⨾ s) = T.◌⨾◌ (statements_tree l) (statement_tree s)

-- Of a program.
unfoldable pub program_tree : Program → Stmts
unfolding statements_tree
program_tree p = statements_tree p.statements

-- The tokens ts have a derivation with the tree t, within the limit: "The limit is 32."
pub record Derives (ts : List Token) (t : Stmts) : Type 0 where
  pub derivation : Program
  pub written : program_tokens derivation ≡ ts
  pub nested : program_nesting derivation ≤ nesting_limit
  pub tree : program_tree derivation ≡ t
