-- When a text is accepted: it has a tree whose limits hold, and the rules type the tree. And where its variables lie.
use Rattle.std.specs.Prelude.{ℕ, ◌≤◌, ◌≡◌, List, [], length}
use Rattle.meaning.specs.Codes.{ok, text_limit, nesting_limit, declaration_limit}
use Rattle.meaning.specs.Tokens as T
use Rattle.meaning.specs.Tokens.{Token}
use Rattle.meaning.specs.Tree.{Stmts}
use Rattle.meaning.specs.Reading.{sequence, statement}
use Rattle.meaning.specs.Memory.{Declarations}
use Rattle.rules.specs.Scopes.{declarations_in}
use Rattle.rules.specs.Typing.{Names, ◌∣◌⊢*◌⊣◌}
use Rattle.rules.specs.Laying.{variables_of, Lays}

-- "The context length C is 1 at the start", and no name is open.
pub record Accepted (text : List ℕ) : Type 0 where
  pub tokens : List Token
  pub end : ℕ
  pub tree : Stmts
  pub last : ℕ
  pub names : Names
  -- "At most 4,096 bytes."
  pub short : length text ≤ text_limit
  pub lexes : T.tokens text ≡ ok tokens end
  -- "The limit is 32": so many levels may open.
  pub reads : sequence tokens "end" (statement tokens nesting_limit) 0 ≡ ok tree last
  -- A "65th declaration" is refused.
  pub few : declarations_in tree ≤ declaration_limit
  pub types : [] ∣ 1 ⊢* tree ⊣ names

-- The variables of an accepted text lie in the table Γ, from byte 0 on, and end at N: "Need is the end of the last one".
abbrev pub Placed : (text : List ℕ) → Accepted text → Declarations → ℕ → Type 0
Placed text a Γ N = Lays 0 (variables_of a.types) Γ N
