-- What holds of a text that is accepted.
use Rattle.std.specs.Prelude.{ℕ, List, length}
use Rattle.meaning.specs.Codes.{nesting_limit}
use Rattle.meaning.specs.Program.{Program}
use Rattle.meaning.specs.Memory.{Declarations}
use Rattle.laws.specs.Sound.{Runnable}
use Rattle.laws.specs.Declarations.{Ordered, Laid}
use Rattle.laws.specs.Lengths.{Fits}
use Rattle.laws.specs.Near.{NearProgram}

-- The text is ready to run as the program P over the declarations Γ: it keeps within every limit, its places are the text's, and its
-- lengths and kinds fit, from the context of length 1 on.
pub record Ready (text : List ℕ) (P : Program) (Γ : Declarations) : Type 0 where
  pub runs : Runnable (length Γ) nesting_limit P
  pub near : NearProgram (length text) P
  pub fits : Fits Γ 1 P
  pub laid : Laid Γ
  pub ordered : Ordered text Γ
