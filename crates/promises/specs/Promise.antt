-- What a service that keeps its promise (`Kept`, of `meaning`) delivers to whoever calls it.
use Rattle.std.specs.Prelude.{ℕ, ◌*◌, ◌≤◌, ◌<◌, ◌≡◌, List, length, take, drop}
use Rattle.meaning.specs.Memory.{number_of}
use Rattle.meaning.specs.Services.{Answer, answer, answer_bytes, numbers, with_numbers}

-- Number i of the "32-bit little-endian numbers" in a row.
unfoldable pub number_at : ℕ → List ℕ → ℕ
number_at i slice = number_of (take 4 (drop (4 * i) slice))

-- What a caller reads in an answer slice: "code, place, need, steps".
unfoldable pub numbers_in : List ℕ → Answer
numbers_in slice = answer (number_at 0 slice) (number_at 1 slice) (number_at 2 slice) (number_at 3 slice)

-- A call that answers a, and leaves `after` of what it was lent: "A shorter answer slice returns 0 and nothing else happens."
-- Otherwise "code, place, need, steps are written as four 32-bit little-endian numbers; bytes after the 16th stay. The call then
-- returns 1."
pub record Delivers {A : Type 0} (slice : List ℕ) (lent : A) (a : Answer) (after : A) (returned : ℕ) (slice' : List ℕ) (lent' : A) : Type 0 where
  pub without_room : length slice < answer_bytes → (returned ≡ 0) × (slice' ≡ slice) × (lent' ≡ lent)
  pub with_room : answer_bytes ≤ length slice → (returned ≡ 1) × (slice' ≡ with_numbers (numbers a) slice) × (lent' ≡ after)
