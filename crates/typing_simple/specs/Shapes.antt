-- What the words of each simple statement hold: its parts, and where they stand.
use Rattle.std.specs.Prelude.{ℕ, ◌+◌, ◌-◌, ◌≤◌, ◌≡◌, List, Bool, true, length, get_or, take, drop}
use Rattle.std.proofs.Math.Option.{Option, none, some}
use Rattle.meaning.specs.declared.Kind.{Kind}
use Rattle.meaning.specs.Codes.{◌among◌, lengths}
use Rattle.meaning.specs.Tree.{Name, Expr, Block, Stmt, empty, declare, assign}
use Rattle.layout.specs.Words.{kind_tag, block_length, block_place, value_place, value_words}
use Rattle.layout.specs.Heads.{tag_word, place_word, short_head, long_head, declaration_head, length_word, length_place_word, name_word, name_end_word, value_word, target_end_word, equals_word, condition_word}
use Rattle.laws.specs.Sound.{Spelled, Placed, Valued}
use Rattle.typing_expressions.specs.Answers.{Expression}

-- The words from one to another.
abbrev pub part : List ℕ → ℕ → ℕ → List ℕ
part words from to = take (to - from) (drop from words)

-- The statement s is `;`.
pub record Empty (words : List ℕ) (s : Stmt) : Type 0 where
  pub long : short_head ≤ length words
  pub is : s ≡ empty (get_or words place_word 0)

-- It is a declaration, perhaps with an initial value.
pub record Declaration (text words : List ℕ) (s : Stmt) : Type 0 where
  pub kind : Kind
  pub block : Block
  pub name : Name
  pub value : Option (ℕ × Expr)
  pub is : s ≡ declare (get_or words place_word 0) kind block (get_or words name_word 0) name value
  pub long : declaration_head ≤ length words
  pub tag : kind_tag kind ≡ get_or words tag_word 0
  pub lanes : block_length block ≡ get_or words length_word 0
  pub lanes_at : block_place block ≡ get_or words length_place_word 0
  pub placed : Placed text block
  pub ends : get_or words name_word 0 + length name ≡ get_or words name_end_word 0
  pub spelled : Spelled text (get_or words name_word 0) name
  pub equals : value_place value ≡ get_or words value_word 0
  pub value_is : part words declaration_head (length words) ≡ value_words value
  pub valued : Valued text value

-- N is of the list, where there is one.
unfoldable pub listed_block : Block → Bool
listed_block none = true
listed_block (some n) = n.0 among lengths

-- It is a declaration of a kind k whose N is good, without a value.
pub record PlainDeclaration (k : Kind) (text words : List ℕ) (s : Stmt) : Type 0 where
  pub shape : Declaration text words s
  pub kind_is : shape.kind ≡ k
  pub good : listed_block shape.block ≡ true
  pub no_value : shape.value ≡ none

-- The same, with a value.
pub record InitialDeclaration (k : Kind) (text words : List ℕ) (s : Stmt) : Type 0 where
  pub shape : Declaration text words s
  pub kind_is : shape.kind ≡ k
  pub good : listed_block shape.block ≡ true
  pub right : Expr
  pub its_value : shape.value ≡ some (get_or words value_word 0, right)
  pub its_right : Expression text (part words declaration_head (length words)) right

-- It is an assignment.
pub record Assignment (text words : List ℕ) (s : Stmt) : Type 0 where
  pub name : Name
  pub value : Expr
  pub is : s ≡ assign (get_or words place_word 0) name (get_or words equals_word 0) value
  pub long : long_head ≤ length words
  pub ends : get_or words place_word 0 + length name ≡ get_or words target_end_word 0
  pub spelled : Spelled text (get_or words place_word 0) name
  pub right : Expression text (part words long_head (length words)) value

-- The statement is an `if` or a `while`, and e its condition.
pub record Condition (text words : List ℕ) (e : Expr) : Type 0 where
  pub long : long_head + get_or words condition_word 0 ≤ length words
  pub is : Expression text (part words long_head (long_head + get_or words condition_word 0)) e
