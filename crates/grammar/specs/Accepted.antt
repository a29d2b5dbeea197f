-- When a text is accepted: its tokens have a derivation whose limits hold, and the rules type the derivation's tree.
use Rattle.std.specs.Prelude.{ℕ, ◌≤◌, ◌≡◌, List, [], length}
use Rattle.meaning.specs.Codes.{ok, text_limit, nesting_limit, declaration_limit}
use Rattle.meaning.specs.Tokens.{tokens}
use Rattle.rules.specs.Scopes.{declarations_in}
use Rattle.rules.specs.Typing.{Names, ◌∣◌⊢*◌⊣◌}
use Rattle.grammar.specs.Grammar.{Program, program_tokens, program_nesting, program_tree}

-- "The context length C is 1 at the start", and no name is open.
pub record Accepted (text : List ℕ) : Type 0 where
  pub derivation : Program
  pub end : ℕ
  pub names : Names
  -- "At most 4,096 bytes."
  pub short : length text ≤ text_limit
  pub lexes : tokens text ≡ ok (program_tokens derivation) end
  -- "The limit is 32."
  pub nested : program_nesting derivation ≤ nesting_limit
  -- A "65th declaration" is refused.
  pub few : declarations_in (program_tree derivation) ≤ declaration_limit
  pub types : [] ∣ 1 ⊢* program_tree derivation ⊣ names
