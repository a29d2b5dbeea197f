-- Which declaration a name means, where a statement stands.
use Rattle.std.specs.Prelude.{ℕ, ◌+◌, List, [], ◌∷◌, ◌++◌}
use Rattle.std.proofs.Math.Option.{Option}
use Rattle.meaning.specs.Codes.{lookup}
use Rattle.meaning.specs.Tokens.{equal}
use Rattle.meaning.specs.Tree.{Name, Stmt, empty, braces, declare, assign, if_else, while, scalar, Stmts, none_yet, ◌⨾◌}
use Rattle.meaning.specs.Memory.{Declarations}

-- How many declarations a statement has.
unfoldable mutual
  pub declarations : Stmt → ℕ
  declarations (empty p) = 0
  declarations (braces p l) = declarations_in l
  declarations (declare p k b q x v) = 1
  declarations (assign p x q e) = 0
  declarations (if_else p e s t) = declarations s + declarations t
  declarations (while p e s) = declarations s
  declarations (scalar p s) = declarations s

  pub declarations_in : Stmts → ℕ
  declarations_in none_yet = 0
  declarations_in (l ⨾ s) = declarations_in l + declarations s

-- 001's σ: the open names with the numbers of their declarations, and how many declarations stand before in the text; and the kind,
-- length and address of every declaration of the text, "in text order".
pub record Scope : Type 0 where
  pub names : List (Name × ℕ)
  pub count : ℕ
  pub table : Declarations

infix 60 ◌means◌
-- The number of the declaration that x means, if x is open.
unfoldable pub ◌means◌ : Scope → Name → Option ℕ
◌means◌ σ x = lookup (λ y. equal y x) σ.names

-- At the start no name is open.
unfoldable pub start : Declarations → Scope
start Γ = record { names = []; count = 0; table = Γ }

-- Behind the declaration of x, which is open from there on.
unfoldable pub opened : Name → Scope → Scope
opened x σ = record { names = σ.names ++ ((x, σ.count) ∷ []); count = σ.count + 1; table = σ.table }

-- Behind n declarations that are not open.
unfoldable pub beyond : ℕ → Scope → Scope
beyond n σ = record { names = σ.names; count = σ.count + n; table = σ.table }

-- Behind a statement of the same sequence: what is declared in it deeper is not open.
unfoldable pub past : Stmt → Scope → Scope
past (empty p) σ = σ
past (braces p l) σ = beyond (declarations_in l) σ
past (declare p k b q x v) σ = opened x σ
past (assign p x q e) σ = σ
past (if_else p e s t) σ = beyond (declarations s + declarations t) σ
past (while p e s) σ = beyond (declarations s) σ
past (scalar p s) σ = beyond (declarations s) σ

-- Behind a sequence.
unfoldable pub past_all : Stmts → Scope → Scope
past_all none_yet σ = σ
past_all (l ⨾ s) σ = past s (past_all l σ)
