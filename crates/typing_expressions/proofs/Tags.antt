-- The tags of nodes as numbers, and what the tests of the code on them say of kinds and operators.
use Prim.Native.Nat.{ℕ, ◌≤◌, ◌<◌}
use native.Mathlib.Omega.{arith}
use mathlib.Core.Path.{◌≡◌, refl, sym, ◌∙◌}
use mathlib.Core.Bool.{true, false, ◌||◌, or-false, true≢false}
use mathlib.Core.List.{[], ◌∷◌}
use lib.Dec.{eqb}
use denote.Enum.Bare.{sameb}
use borrow.Author.Tests.{ne_eqb}
use Rattle.meaning.specs.contracts.Kind as its_kinds
use Rattle.meaning.specs.declared.Kind.{Kind}
use Rattle.meaning.specs.declared.Kind.TheVariants.{Int as int, Bool as bool, Float as float}
use Rattle.meaning.specs.Tokens.{the, numbered, reserved, words, signs, marks}
use Rattle.meaning.specs.declared.Unary.{Unary}
use Rattle.meaning.specs.declared.Unary.TheVariants.{Neg as neg, Inv as inv, Not as unary_not}
use Rattle.meaning.specs.declared.Binary.{Binary}
use Rattle.meaning.specs.declared.Binary.TheVariants.{Or as or, Xor as xor, And as and, Eq as eq, Ne as ne, Lt as lt, Gt as gt, Le as le, Ge as ge, Add as add, Sub as sub, Mul as mul}
use Rattle.meaning.specs.Tree.{kind_number, same_kind, ◌one_of◌, Gives, a_bool, its_kind, table, unary_table}
use Rattle.meaning.specs.Memory.{size}
use Rattle.meaning.specs.Typing.{gives_kind}
use Rattle.layout.specs.Words.{binary_tag, unary_tag, boolean_tag}
use Rattle.typing_expressions.specs.Nodes.{TreeNode, a_number, a_float, a_boolean, a_name, a_mask, a_unary, a_binary, node_tag, node_first, code_tag, code_place, arity, a_bool?}

-- ---- kinds
-- The code's `==` on kinds is the definition's.
pub same_is : (k l : Kind) → sameb its_kinds.the_type k l ≡ same_kind k l
unfolding same_kind kind_number
same_is int int = refl
same_is int bool = refl
same_is int float = refl
same_is bool int = refl
same_is bool bool = refl
same_is bool float = refl
same_is float int = refl
same_is float bool = refl
same_is float float = refl

-- The only kind of a list.
pub only_kind : (k l : Kind) → sameb its_kinds.the_type k l ≡ (k one_of (l ∷ []))
unfolding ◌one_of◌
only_kind k l = rw (or-false (same_kind k l)) (same_is k l)

-- A lane has four bytes at most.
pub size_few : (k : Kind) → size k ≤ 4
unfolding size
size_few int = omega arith
size_few bool = omega arith
size_few float = omega arith

-- ---- operators
-- Binary operators have tags from 48 to 127, unary ones from 128 on.
pub binary_range : (o : Binary) → (48 ≤ binary_tag o) × (binary_tag o < 128)
unfolding binary_tag table the numbered reserved words signs marks
binary_range or = (omega arith, omega arith)
binary_range xor = (omega arith, omega arith)
binary_range and = (omega arith, omega arith)
binary_range eq = (omega arith, omega arith)
binary_range ne = (omega arith, omega arith)
binary_range lt = (omega arith, omega arith)
binary_range gt = (omega arith, omega arith)
binary_range le = (omega arith, omega arith)
binary_range ge = (omega arith, omega arith)
binary_range add = (omega arith, omega arith)
binary_range sub = (omega arith, omega arith)
binary_range mul = (omega arith, omega arith)

pub unary_low : (o : Unary) → 128 ≤ unary_tag o
unfolding unary_tag unary_table the numbered reserved words signs marks
unary_low neg = omega arith
unary_low inv = omega arith
unary_low unary_not = omega arith

-- Each binary operator takes ints.
pub takes_ints : (o : Binary) → true ≡ (int one_of (table o).1)
unfolding table kind_number same_kind ◌one_of◌
takes_ints or = refl
takes_ints xor = refl
takes_ints and = refl
takes_ints eq = refl
takes_ints ne = refl
takes_ints lt = refl
takes_ints gt = refl
takes_ints le = refl
takes_ints ge = refl
takes_ints add = refl
takes_ints sub = refl
takes_ints mul = refl

module _ (k : Kind) where
  pub gives_bool : (g : Gives) → a_bool? g ≡ true → bool ≡ gives_kind g k
  unfolding a_bool? gives_kind
  gives_bool a_bool h = refl
  gives_bool its_kind h = absurd (true≢false (sym h))

  pub gives_its : (g : Gives) → a_bool? g ≡ false → k ≡ gives_kind g k
  unfolding a_bool? gives_kind
  gives_its a_bool h = absurd (true≢false h)
  gives_its its_kind h = refl

-- ---- nodes
-- Tags below 48 are those of nodes without operands, from 128 on of unary operators, and between of binary ones.
pub data Class : TreeNode → Type 0 where
  leaf : (n : TreeNode) → node_tag n < 48 → arity n ≡ 0 → Class n
  unary : {p : ℕ} {o : Unary} → Class (a_unary p o)
  binary : {p : ℕ} {o : Binary} → Class (a_binary p o)

pub class : (n : TreeNode) → Class n
unfolding node_tag arity boolean_tag the numbered reserved words signs marks
class (a_number n) = leaf (a_number n) (omega arith) refl
class (a_float n) = leaf (a_float n) (omega arith) refl
class (a_boolean true) = leaf (a_boolean true) (omega arith) refl
class (a_boolean false) = leaf (a_boolean false) (omega arith) refl
class (a_name p x) = leaf (a_name p x) (omega arith) refl
class a_mask = leaf a_mask (omega arith) refl
class (a_unary p o) = unary
class (a_binary p o) = binary

far : (t : ℕ) → 48 ≤ t → (eqb t 24 || eqb t 25 || eqb t 3) ≡ false
far t h = rw (ne_eqb t 24 (λ z. omega arith), ne_eqb t 25 (λ z. omega arith), ne_eqb t 3 (λ z. omega arith))

module _ {tag : ℕ} where
  pub arity_0 : (n : TreeNode) → node_tag n ≡ tag → tag < 48 → 0 ≡ arity n
  unfolding node_tag
  arity_0 n h l = go (class n) h
    where
      go : {n : TreeNode} → Class n → node_tag n ≡ tag → 0 ≡ arity n
      go (leaf n s e) h = sym e
      go (unary {p} {o}) h = absurd (omega (arith, unary_low o))
      go (binary {p} {o}) h = absurd (omega (arith, (binary_range o).0))

  pub arity_2 : (n : TreeNode) → node_tag n ≡ tag → 48 ≤ tag → tag < 128 → 2 ≡ arity n
  unfolding node_tag arity
  arity_2 n h l u = go (class n) h
    where
      go : {n : TreeNode} → Class n → node_tag n ≡ tag → 2 ≡ arity n
      go (leaf n s e) h = absurd (omega arith)
      go (unary {p} {o}) h = absurd (omega (arith, unary_low o))
      go (binary {p} {o}) h = refl

  pub coded_constant : (n : TreeNode) → node_tag n ≡ tag → (eqb tag 24 || eqb tag 25 || eqb tag 3) ≡ true → 1 ≡ code_tag n
  unfolding node_tag code_tag boolean_tag the numbered reserved words signs marks
  coded_constant (a_number n) h t = refl
  coded_constant (a_float n) h t = refl
  coded_constant (a_boolean b) h t = refl
  coded_constant (a_name p x) h t = absurd (true≢false (sym t ∙ rw (← h)))
  coded_constant a_mask h t = absurd (true≢false (sym t ∙ rw (← h)))
  coded_constant (a_unary p o) h t = absurd (true≢false (sym t ∙ far tag (omega (arith, unary_low o))))
  coded_constant (a_binary p o) h t = absurd (true≢false (sym t ∙ far tag (omega (arith, (binary_range o).0))))

  pub coded_same : (n : TreeNode) → node_tag n ≡ tag → (eqb tag 24 || eqb tag 25 || eqb tag 3) ≡ false → tag ≡ code_tag n
  unfolding node_tag code_tag boolean_tag the numbered reserved words signs marks
  coded_same (a_number n) h t = sym h
  coded_same (a_float n) h t = absurd (true≢false (rw (← h) at t))
  coded_same (a_boolean true) h t = absurd (true≢false (rw (← h) at t))
  coded_same (a_boolean false) h t = absurd (true≢false (rw (← h) at t))
  coded_same (a_name p x) h t = sym h
  coded_same a_mask h t = sym h
  coded_same (a_unary p o) h t = sym h
  coded_same (a_binary p o) h t = sym h

  -- An operator's place stands in its second word.
  pub placed_leaf : (n : TreeNode) → node_tag n ≡ tag → tag < 48 → 0 ≡ code_place n
  unfolding node_tag code_place
  placed_leaf (a_number n) h l = refl
  placed_leaf (a_float n) h l = refl
  placed_leaf (a_boolean b) h l = refl
  placed_leaf (a_name p x) h l = refl
  placed_leaf a_mask h l = refl
  placed_leaf (a_unary p o) h l = absurd (omega (arith, unary_low o))
  placed_leaf (a_binary p o) h l = absurd (omega (arith, (binary_range o).0))

  pub placed_operator : (n : TreeNode) {p : ℕ} → node_tag n ≡ tag → node_first n ≡ p → 48 ≤ tag → p ≡ code_place n
  unfolding node_first code_place
  placed_operator n {p} h f l = go (class n) h f
    where
      go : {n : TreeNode} → Class n → node_tag n ≡ tag → node_first n ≡ p → p ≡ code_place n
      go (leaf n s e) h f = absurd (omega arith)
      go unary h f = sym f
      go binary h f = sym f
