-- What a run of a text leaves, by the rules.
use Rattle.std.specs.Prelude.{ℕ, ◌≤◌, true, List, [], ◌∷◌, length}
use Rattle.meaning.specs.Memory.{Memory, Declarations}
use Rattle.rules.specs.Scopes.{start}
use Rattle.rules.specs.Evaluation.{ended, ◌∣◌∣◌⊢*◌↓◌after◌}
use Rattle.rules.specs.Accepted.{Accepted, Placed}

-- The text is accepted; its variables lie in a table and need N bytes, which the memory M has; and "the mask starts as one true lane":
-- so its tree ends after n steps and leaves M'.
pub record Ends (text : List ℕ) (M : Memory) (N n : ℕ) (M' : Memory) : Type 0 where
  pub accepted : Accepted text
  pub table : Declarations
  pub placed : Placed text accepted table N
  pub room : N ≤ length M
  pub derived : start table ∣ true ∷ [] ∣ M ⊢* accepted.tree ↓ ended M' after n
