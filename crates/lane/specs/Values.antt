-- One lane of a value.
use Rattle.std.specs.Prelude.{ℕ, List, length, get_or}
use Rattle.lane.specs.Lane.{seat}

-- Lane i of a value or a mask (d where there is none).
unfoldable pub lane : {A : Type 0} → A → List A → ℕ → A
unfolding seat
lane d u i = get_or u (seat (length u) i) d
