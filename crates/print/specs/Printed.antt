-- What a printing function leaves in the page that it is lent.
use Rattle.std.specs.Prelude.{ℕ, ◌+◌, ◌≡◌, List, length}
use Rattle.std.proofs.lemmas.List.Edits.{sets}

-- The bytes stand in the page from a place on, every other byte of the page stays, and `next` is the place after them.
pub record Printed (before : List ℕ) (at : ℕ) (bytes : List ℕ) (after : List ℕ) (next : ℕ) : Type 0 where
  pub page_is : after ≡ sets before at bytes
  pub next_is : next ≡ at + length bytes
