-- Document 01, "Checked by hand": the starred cases, as one table. That every row holds is the theorem of proofs/Table.antt.
use Rattle.std.specs.Prelude.{ℕ, ◌-◌, ◌^◌, List, [], ◌∷◌, ◌++◌}
use Prim.Native.String.{String}
use Rattle.meaning.specs.Codes.{when◌then◌else◌, the_judge_gives}
use Rattle.meaning.specs.Tokens.{bytes}
use Rattle.meaning.specs.Memory.{Memory, little_endian}
use Rattle.meaning.specs.Services.{Answer, answer, judge, run}

-- A text run over a memory with a budget: the answer, and the memory left.
pub record Row : Type 0 where
  pub text : String
  pub memory : Memory
  pub budget : ℕ
  pub gives : Answer
  pub leaves : Memory

infix 70 ◌over◌for◌gives◌leaves◌ ◌gets◌at◌
-- A row, with its four numbers: code, place, need, steps.
unfoldable pub ◌over◌for◌gives◌leaves◌ : String → Memory → ℕ → ℕ × ℕ × ℕ × ℕ → Memory → Row
◌over◌for◌gives◌leaves◌ t M b a M' = record { text = t; memory = M; budget = b; gives = answer a.0 a.1 a.2 a.3; leaves = M' }

-- The bytes of some ints.
unfoldable pub ints : List ℕ → Memory
ints [] = []
ints (n ∷ l) = little_endian 4 n ++ ints l

-- The word of -n.
unfoldable pub minus : ℕ → ℕ
minus n = 2 ^ 32 - n

-- A row for a refusal: need and steps are 0, "the memory keeps every byte".
unfoldable pub ◌gets◌at◌ : String → ℕ → ℕ → Row
◌gets◌at◌ t code place = t over ints (7 ∷ []) for 1000 gives (code, place, 0, 0) leaves ints (7 ∷ [])

-- The text of the ninth row "with `scalar s = 1;` there".
unfoldable pub vote : String
vote = "bool block[4] m; int s; if (m) scalar s = 1; else ;"

-- The starred cases, in document 01's order.
unfoldable pub starred : List Row
starred =
    "" over [] for 0 gives (0, 0, 0, 0) leaves []
    ∷ "int x;" over ints (7 ∷ []) for 0 gives (13, 0, 4, 0) leaves ints (7 ∷ [])
    ∷ "int x" gets 3 at 5
    ∷ "x = 1;" gets 5 at 0
    ∷ "int a; int a;" gets 6 at 11
    ∷ "int block[3] v;" gets 7 at 10
    ∷ "bool b = 3;" gets 8 at 7
    ∷ "int block[4] a; int block[2] b; a = a + b;" gets 9 at 38
    ∷ "bool block[4] m; int s; if (m) s = 1; else ;" gets 10 at 33
    ∷ vote over 0 ∷ 0 ∷ 1 ∷ 0 ∷ ints (7 ∷ []) for 1000 gives (0, 0, 8, 5) leaves (0 ∷ 0 ∷ 1 ∷ 0 ∷ ints (1 ∷ []))
    ∷ vote over 0 ∷ 0 ∷ 0 ∷ 0 ∷ ints (7 ∷ []) for 1000 gives (0, 0, 8, 4) leaves (0 ∷ 0 ∷ 0 ∷ 0 ∷ ints (7 ∷ []))
    ∷ "int x = 2147483647 + 1;" over ints (7 ∷ []) for 1000 gives (0, 0, 4, 1) leaves ints (minus 2147483648 ∷ [])
    ∷ "int block[2] a; if (a < 5) a = 9; else a = 0;" over ints (1 ∷ 7 ∷ []) for 1000 gives (0, 0, 8, 4) leaves ints (9 ∷ 0 ∷ [])
    ∷ "int block[2] n; while (0 < n) n = n - 1;" over ints (2 ∷ minus 3 ∷ []) for 1000 gives (0, 0, 8, 6) leaves ints (0 ∷ minus 3 ∷ [])
    ∷ []

-- "Judge gives 0 to 11, always with steps 0": what judge answers where run answers a.
unfoldable pub judged_as : Answer → Answer
judged_as a = when the_judge_gives a.code then (λ _. answer a.code a.place a.need 0) else λ _. answer 0 0 a.need 0

-- What run and judge make of a row, and what they should.
unfoldable pub found : Row → (Answer × Memory) × Answer
found r = (run (bytes r.text) r.memory r.budget, judge (bytes r.text))

unfoldable pub expected : Row → (Answer × Memory) × Answer
expected r = ((r.gives, r.leaves), judged_as r.gives)
