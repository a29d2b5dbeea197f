-- Document 01, "Checked by hand", the program: an answer and a memory as the bytes that are printed.
use Rattle.std.specs.Prelude.{ℕ, zero, suc, ◌+◌, ◌*◌, ◌-◌, ◌/◌, ◌%◌, List, [], ◌∷◌, ◌++◌, ltb, length, take, drop, get_or}
use Rattle.meaning.specs.Codes.{when◌then◌else◌}
use Rattle.meaning.specs.Tokens.{bytes}
use Rattle.meaning.specs.Memory.{Memory, number_of}
use Rattle.meaning.specs.Services.{Answer, answer}
use Rattle.numbers.specs.Sizes.{number_bytes}

-- The four numbers that an answer slice holds: "32-bit little-endian numbers".
unfoldable pub held : List ℕ → Answer
held l = answer (at 0) (at 1) (at 2) (at 3)
  where
    at : ℕ → ℕ
    at i = number_of (take number_bytes (drop (i * number_bytes) l))

-- The byte of a digit below 16: "lower-case hex".
unfoldable pub digit : ℕ → ℕ
unfolding bytes
digit d = get_or (bytes "0123456789abcdef") d 0

-- At most k digits of a number in decimal: its last is the remainder by ten, and those before it are the quotient's.
unfoldable pub digits : ℕ → ℕ → List ℕ
digits zero n = []
digits (suc k) n = when ltb n 10 then (λ _. digit n ∷ []) else λ _. digits k (n / 10) ++ (digit (n % 10) ∷ [])

-- A number in decimal, which has no more digits than itself and one.
unfoldable pub decimal : ℕ → List ℕ
decimal n = digits (suc n) n

-- "code, place, need, steps on one line"
unfoldable pub line : Answer → List ℕ
line a =
    decimal a.code ++ bytes " " ++ decimal a.place ++ bytes " " ++ decimal a.need ++ bytes " " ++ decimal a.steps
    ++ bytes "\n"

-- Two digits a byte, the higher one first.
unfoldable pub hex : List ℕ → List ℕ
hex [] = []
hex (b ∷ l) = digit (b / 16) ∷ digit (b % 16) ∷ hex l

-- The bytes of a row.
abbrev pub row_size : ℕ
row_size = 16

-- The first k "rows of 16 bytes (the last row may be shorter)".
unfoldable pub rows : ℕ → Memory → List ℕ
rows zero M = []
rows (suc k) M = hex (take row_size M) ++ bytes "\n" ++ rows k (drop row_size M)

-- How many rows a memory has.
unfoldable pub row_count : Memory → ℕ
row_count M = (length M + (row_size - 1)) / row_size

-- "prints code, place, need, steps on one line, then the memory"
unfoldable pub shown : Answer × Memory → List ℕ
unfolding line decimal digits digit hex rows row_count bytes
shown (a, M) = line a ++ rows (row_count M) M
