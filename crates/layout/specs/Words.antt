-- How a lent buffer of words holds a tree. Words come in units of three. A tag is the number of a token (`the "if"`).
--
-- An expression is a unit for each node, operands before their operator: the order in which it is typed and planned.
-- A statement is its head, then its parts one after another. The head begins with its tag, the place of its first token and how
-- many words follow these three, so that the next statement is found without a look at the parts.
use Rattle.std.specs.Prelude.{ℕ, ◌+◌, Bool, true, false, List, [], ◌∷◌, ◌++◌, map, eqb, length}
use Rattle.std.proofs.Math.Option.{Option, none, some}
use Rattle.meaning.specs.declared.Kind.{Kind}
use Rattle.meaning.specs.declared.Kind.TheVariants.{Int as int, Bool as bool, Float as float}
use Rattle.meaning.specs.declared.Unary.TheVariants.{Neg as neg, Inv as inv, Not as unary_not}
use Rattle.meaning.specs.declared.Binary.TheVariants.{Or as or, Xor as xor, And as and, Eq as eq, Ne as ne, Lt as lt, Gt as gt, Le as le, Ge as ge, Add as add, Sub as sub, Mul as mul}
use Rattle.meaning.specs.Codes.{option, lookup}
use Rattle.meaning.specs.Tokens.{the}
use Rattle.meaning.specs.declared.Unary.{Unary}
use Rattle.meaning.specs.declared.Binary.{Binary}
use Rattle.meaning.specs.Tree.{table, unary_table, Expr, number, float_number, boolean, name, current_mask, unary, binary, Block, Stmt, empty, braces, declare, assign, if_else, while, scalar, Stmts, none_yet, ◌⨾◌}

-- The words of a unit.
abbrev pub unit_words : ℕ
unit_words = 3

-- A unit of words.
abbrev pub unit : ℕ → ℕ → ℕ → List ℕ
unit a b c = a ∷ b ∷ c ∷ []

-- The tag of a binary operator is its sign's; of a unary one its sign's and so much more, since `-` is both.
abbrev pub unary_more : ℕ
unary_more = 128

unfoldable pub binary_tag : Binary → ℕ
binary_tag o = the (table o).0

unfoldable pub unary_tag : Unary → ℕ
unary_tag o = unary_more + the (unary_table o).0

-- The operator of a tag: the last one stands for every other tag.
unfoldable pub operator_of : ℕ → Binary
operator_of tag = option mul (λ o. o) (lookup (eqb tag) (map (λ o. (binary_tag o, o)) (or ∷ xor ∷ and ∷ eq ∷ ne ∷ lt ∷ gt ∷ le ∷ ge ∷ add ∷ sub ∷ [])))

unfoldable pub sign_of : ℕ → Unary
sign_of tag = option unary_not (λ o. o) (lookup (eqb tag) (map (λ o. (unary_tag o, o)) (neg ∷ inv ∷ [])))

unfoldable pub boolean_tag : Bool → ℕ
boolean_tag true = the "true"
boolean_tag false = the "false"

unfoldable pub kind_tag : Kind → ℕ
kind_tag int = the "int"
kind_tag bool = the "bool"
kind_tag float = the "float"

-- A node: a number's value; a float's pattern; a name's place and end; an operator's place.
unfoldable pub flat : Expr → List ℕ
flat (number n) = unit (the "number") n 0
flat (float_number n) = unit (the "float number") n 0
flat (boolean b) = unit (boolean_tag b) 0 0
flat (name p x) = unit (the "name") p (p + length x)
flat current_mask = unit (the "current_mask") 0 0
flat (unary p o a) = flat a ++ unit (unary_tag o) p 0
flat (binary p o a b) = flat a ++ (flat b ++ unit (binary_tag o) p 0)

-- N and its place, which is never 0: both are 0 where there is no block.
unfoldable pub block_length : Block → ℕ
block_length none = 0
block_length (some b) = b.0

unfoldable pub block_place : Block → ℕ
block_place none = 0
block_place (some b) = b.1

-- The place of `=`, which is never 0, and the words of an initial value: 0 and none where there is none.
unfoldable pub value_place : Option (ℕ × Expr) → ℕ
value_place none = 0
value_place (some v) = v.0

unfoldable pub value_words : Option (ℕ × Expr) → List ℕ
value_words none = []
value_words (some v) = flat v.1

-- A statement whose head has the words h after its tag and place, and then the words w of its parts.
unfoldable pub headed : ℕ → ℕ → List ℕ → List ℕ → List ℕ
headed tag p h w = unit tag p (length h + length w) ++ (h ++ w)

-- Statements. A declaration's head has N and its place, the name's place and end, and the place of `=`; an assignment's the
-- name's end and the place of `=`; that of `if` the words of its condition and of its first branch; that of `while` the words of
-- its condition.
unfoldable mutual
  pub flat_stmt : Stmt → List ℕ
  flat_stmt (empty p) = headed (the ";") p [] []
  flat_stmt (braces p l) = headed (the "{") p [] (flat_stmts l)
  flat_stmt (declare p k b q x v) = headed (kind_tag k) p (unit (block_length b) (block_place b) q ++ unit (q + length x) (value_place v) 0) (value_words v)
  flat_stmt (assign p x q e) = headed (the "name") p (unit (p + length x) q 0) (flat e)
  flat_stmt (if_else p e s t) = headed (the "if") p (unit (length (flat e)) (length (flat_stmt s)) 0) (flat e ++ (flat_stmt s ++ flat_stmt t))
  flat_stmt (while p e s) = headed (the "while") p (unit (length (flat e)) 0 0) (flat e ++ flat_stmt s)
  flat_stmt (scalar p s) = headed (the "scalar") p [] (flat_stmt s)

  pub flat_stmts : Stmts → List ℕ
  flat_stmts none_yet = []
  flat_stmts (l ⨾ s) = flat_stmts l ++ flat_stmt s
