-- "Bytes outside the variables never change": the statement.
use Rattle.std.specs.Prelude.{ℕ, ◌+◌, ◌≤◌, ◌<◌, ◌≡◌, ◌⊎◌, length, take, drop}
use Rattle.meaning.specs.Memory.{Memory, Declarations, declared}
use Rattle.laws.specs.Declarations.{end_of}

-- The c bytes from b on lie before or behind every variable.
pub record Outside (Γ : Declarations) (b c : ℕ) : Type 0 where
  pub apart : (x : ℕ) → x < length Γ → (b + c ≤ (declared Γ x).address) ⊎ (end_of (declared Γ x) ≤ b)

-- A memory N has the length of M, and its bytes outside the variables.
pub record SameOutside (Γ : Declarations) (M N : Memory) : Type 0 where
  pub as_long : length N ≡ length M
  pub outside : (b c : ℕ) → Outside Γ b c → take c (drop b N) ≡ take c (drop b M)
