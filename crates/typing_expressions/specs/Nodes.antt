-- An expression as its nodes, operands before their operator, and typing as a walk over them with a stack.
use Rattle.std.specs.Prelude.{ℕ, zero, suc, ◌+◌, ◌-◌, ◌≤◌, ◌≡◌, Bool, true, false, List, [], ◌∷◌, ◌++◌, length, get_or}
use Rattle.meaning.specs.declared.Kind.{Kind}
use Rattle.meaning.specs.declared.Kind.TheVariants.{Int as int, Bool as bool, Float as float}
use Rattle.meaning.specs.declared.Refusal.TheVariants.{WrongKind, WrongLength}
use Rattle.meaning.specs.Codes.{◌>>=◌, ◌>>◌, give, check}
use Rattle.meaning.specs.Tokens.{the}
use Rattle.meaning.specs.declared.Unary.{Unary}
use Rattle.meaning.specs.declared.Binary.{Binary}
use Rattle.meaning.specs.Tree.{Name, kind_number, ◌one_of◌, Gives, a_bool, its_kind, table, unary_table, Expr, number, float_number, boolean, name, current_mask, unary, binary}
use Rattle.meaning.specs.Memory.{bit}
use Rattle.meaning.specs.Typing.{Types, accepts, gives_kind, match, joined, variable_named}
use Rattle.layout.specs.Words.{unit_words, binary_tag, unary_tag, boolean_tag}
use Rattle.layout.specs.Stack.{slot_kind, slot_lanes, slot_word}
use Rattle.layout.specs.Table.{kind_of}
use Rattle.laws.specs.Sound.{Spelled, stack_limit}

-- A node of an expression: a constant, a name or current_mask, or an operator with its place.
pub data TreeNode : Type 0 where
  a_number : ℕ → TreeNode
  a_float : ℕ → TreeNode
  a_boolean : Bool → TreeNode
  a_name : ℕ → Name → TreeNode
  a_mask : TreeNode
  a_unary : ℕ → Unary → TreeNode
  a_binary : ℕ → Binary → TreeNode

-- The nodes of an expression.
unfoldable pub nodes : Expr → List TreeNode
nodes (number n) = a_number n ∷ []
nodes (float_number n) = a_float n ∷ []
nodes (boolean b) = a_boolean b ∷ []
nodes (name p x) = a_name p x ∷ []
nodes current_mask = a_mask ∷ []
nodes (unary p o e) = nodes e ++ (a_unary p o ∷ [])
nodes (binary p o e e') = nodes e ++ (nodes e' ++ (a_binary p o ∷ []))

-- The three words of a node in the tree.
unfoldable pub node_tag : TreeNode → ℕ
node_tag (a_number n) = the "number"
node_tag (a_float n) = the "float number"
node_tag (a_boolean b) = boolean_tag b
node_tag (a_name p x) = the "name"
node_tag a_mask = the "current_mask"
node_tag (a_unary p o) = unary_tag o
node_tag (a_binary p o) = binary_tag o

unfoldable pub node_first : TreeNode → ℕ
node_first (a_number n) = n
node_first (a_float n) = n
node_first (a_boolean b) = 0
node_first (a_name p x) = p
node_first a_mask = 0
node_first (a_unary p o) = p
node_first (a_binary p o) = p

unfoldable pub node_second : TreeNode → ℕ
node_second (a_number n) = 0
node_second (a_float n) = 0
node_second (a_boolean b) = 0
node_second (a_name p x) = p + length x
node_second a_mask = 0
node_second (a_unary p o) = 0
node_second (a_binary p o) = 0

unfoldable pub nodes_words : List TreeNode → List ℕ
nodes_words [] = []
nodes_words (n ∷ ns) = node_tag n ∷ node_first n ∷ node_second n ∷ nodes_words ns

-- The tag of a node in the code: a float and a boolean are constants there, as a number is.
unfoldable pub code_tag : TreeNode → ℕ
code_tag (a_number n) = the "number"
code_tag (a_float n) = the "number"
code_tag (a_boolean b) = the "number"
code_tag (a_name p x) = the "name"
code_tag a_mask = the "current_mask"
code_tag (a_unary p o) = unary_tag o
code_tag (a_binary p o) = binary_tag o

-- The third word of a node in the code: an operator's place.
unfoldable pub code_place : TreeNode → ℕ
code_place (a_number n) = 0
code_place (a_float n) = 0
code_place (a_boolean b) = 0
code_place (a_name p x) = 0
code_place a_mask = 0
code_place (a_unary p o) = p
code_place (a_binary p o) = p

-- How many operands it takes from the stack.
unfoldable pub arity : TreeNode → ℕ
arity (a_number n) = 0
arity (a_float n) = 0
arity (a_boolean b) = 0
arity (a_name p x) = 0
arity a_mask = 0
arity (a_unary p o) = 1
arity (a_binary p o) = 2

-- What typing finds at a node: a kind and a length, and the word that stands for it in the code.
pub record Entry : Type 0 where
  pub kind : Kind
  pub lanes : ℕ
  pub word : ℕ

-- Does an operator give a bool?
unfoldable pub a_bool? : Gives → Bool
a_bool? a_bool = true
a_bool? its_kind = false

-- A kind and a length on the stack.
abbrev pub Slot : Type 0
Slot = Kind × ℕ

-- Typing of a node over the operands on the stack, the last one first; it never meets a stack that is too short.
unfoldable pub step : ℕ → TreeNode → List Slot → Types Entry
step C (a_number n) l = give (record { kind = int; lanes = 1; word = n })
step C (a_float n) l = give (record { kind = float; lanes = 1; word = n })
step C (a_boolean b) l = give (record { kind = bool; lanes = 1; word = bit b })
step C (a_name p x) l = do
  (i, d) ← variable_named C p x
  give (record { kind = d.kind; lanes = d.lanes; word = i })
step C a_mask l = give (record { kind = bool; lanes = C; word = 0 })
step C (a_unary p o) [] = give (record { kind = int; lanes = 1; word = 0 })
step C (a_unary p o) (a ∷ l) = do
  check (a.0 one_of (unary_table o).1) WrongKind p
  give (record { kind = a.0; lanes = a.1; word = kind_number a.0 })
step C (a_binary p o) [] = give (record { kind = int; lanes = 1; word = 0 })
step C (a_binary p o) (b ∷ []) = give (record { kind = int; lanes = 1; word = 0 })
step C (a_binary p o) (b ∷ a ∷ l) = do
  check (accepts (table o).1 a.0 b.0) WrongKind p
  check (match a.1 b.1) WrongLength p
  give (record { kind = gives_kind (table o).2 a.0; lanes = joined a.1 b.1; word = kind_number a.0 })

-- The stack in its buffer, h high.
unfoldable pub slots : List ℕ → ℕ → List Slot
slots stack zero = []
slots stack (suc h) = (kind_of (slot_kind stack h), slot_lanes stack h) ∷ slots stack h

-- What stands in slot i of it.
abbrev pub entry_at : List ℕ → ℕ → Entry
entry_at stack i = record { kind = kind_of (slot_kind stack i); lanes = slot_lanes stack i; word = slot_word stack i }

-- Three words are those of a node, whose name stands in the text.
pub record IsNode (text : List ℕ) (tag a b : ℕ) (n : TreeNode) : Type 0 where
  pub tag_is : node_tag n ≡ tag
  pub first_is : node_first n ≡ a
  pub second_is : node_second n ≡ b
  pub spells : (p : ℕ) (x : Name) → n ≡ a_name p x → Spelled text p x

-- The same, of a node that takes no operands.
pub record IsLeaf (text : List ℕ) (tag a b : ℕ) (n : TreeNode) : Type 0 where
  pub is : IsNode text tag a b n
  pub alone : arity n ≡ 0

-- At word i of a tree stands a node that finds its operands and leaves no more than the stack holds.
pub record NodeAt (text tree : List ℕ) (i h : ℕ) (n : TreeNode) : Type 0 where
  pub inside : i + unit_words ≤ length tree
  pub is : IsNode text (get_or tree i 0) (get_or tree (i + 1) 0) (get_or tree (i + 2) 0) n
  pub operands : arity n ≤ h
  pub fits : h + 1 - arity n ≤ stack_limit
