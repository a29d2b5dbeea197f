-- 001's two premises on vector lengths.
use Rattle.std.specs.Prelude.{ℕ, ◌≡◌}

-- The type match: "Λ = 1 ∨ ‖τ‖ = 1 ∨ Λ = ‖τ‖". Document 01, of a name: "must have length 1 or C, unless C is 1"; of an operator:
-- "equal lengths or one of length 1".
pub data Match (C n : ℕ) : Type 0 where
  scalar_context : C ≡ 1 → Match C n
  scalar_type : n ≡ 1 → Match C n
  same_length : C ≡ n → Match C n

-- The premise of T-BROADCAST: "Λ = 1 ∨ Λ = ‖ν‖". Document 01 asks it of every target: "Where C is above 1, a target of length 1
-- is refused: narrower than 001."
pub data Target (C n : ℕ) : Type 0 where
  any_length : C ≡ 1 → Target C n
  context_length : C ≡ n → Target C n

-- "its length or 1 (001, broadcast)": a value of length l for a target of length n.
pub data Fills (l n : ℕ) : Type 0 where
  whole : l ≡ n → Fills l n
  broadcast : l ≡ 1 → Fills l n
