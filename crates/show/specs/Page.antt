-- What the program prints of a routine and a memory.
use Rattle.std.specs.Prelude.{ℕ, ◌+◌, ◌*◌, ◌/◌, ◌≡◌, List, take}
use Rattle.meaning.specs.Memory.{Memory}
use Rattle.meaning.specs.Services.{run}
use Rattle.laws.specs.Words.{need_limit}
use Rattle.print.specs.Shown.{row_size, shown}
use Rattle.io.specs.Counts.{IsPrefixLen}

-- "runs with budget 1,000"
abbrev pub budget : ℕ
budget = 1000

-- "`memory.bin` (its first .. bytes)": document 02, R-9: "need can reach 16,384, and the printing program reads that many bytes".
abbrev pub memory_limit : ℕ
memory_limit = need_limit

-- The bytes of the longest page: four numbers of ten digits, each with the byte that ends it, and the rows of that memory, each with two
-- digits a byte and the byte that ends it.
abbrev pub page_limit : ℕ
page_limit = 4 * (10 + 1) + memory_limit / row_size * (2 * row_size + 1)

-- "runs with budget 1,000 and prints": the first bytes of the page are what is shown of that run.
pub record Shows (text : List ℕ) (memory : Memory) (count : ℕ) (page : List ℕ) : Type 0 where
  pub within : IsPrefixLen count page
  pub is : take count page ≡ shown (run text memory budget)
