-- The sentences under document 01's table of codes: what the services answer, by the code.
use Rattle.std.specs.Prelude.{ℕ, ◌≤◌, ◌<◌, ◌≡◌, true, List, length}
use Rattle.meaning.specs.declared.Refusal.{Refusal}
use Rattle.meaning.specs.declared.Refusal.TheVariants.{MemoryTooShort, BudgetSpent}
use Rattle.meaning.specs.Codes.{code, the_judge_gives, declaration_limit}
use Rattle.meaning.specs.Memory.{Memory}
use Rattle.meaning.specs.Services.{Answer, answer}
use Rattle.laws.specs.Words.{need_limit}

-- A number is the code of a refusal of the judge: "Judge gives 0 to 11", and 0 is no refusal.
pub record JudgeRefuses (n : ℕ) : Type 0 where
  pub refusal : Refusal
  pub is : n ≡ code refusal
  pub judges : the_judge_gives (code refusal) ≡ true

-- "Judge gives 0 to 11, always with steps 0"; "Codes 1 to 11: need and steps 0."
pub data Judges : Answer → Type 0 where
  accepts : (n : ℕ) → n ≤ need_limit → Judges (answer 0 0 n 0)
  refuses : (c p : ℕ) → JudgeRefuses c → Judges (answer c p 0 0)

-- "Codes 1 to 11: need and steps 0. Code 12: need given, steps 0. In all of these the memory keeps every byte. Code 13: need
-- given, steps equal to the budget .. Code 0: need given, steps as taken."
pub data Runs (M : Memory) (budget : ℕ) : Answer × Memory → Type 0 where
  stops : (c p : ℕ) → JudgeRefuses c → Runs M budget (answer c p 0 0, M)
  too_short : (n : ℕ) → length M < n → n ≤ need_limit → Runs M budget (answer (code MemoryTooShort) 0 n 0, M)
  runs_out : (p n : ℕ) (M' : Memory) → n ≤ length M → n ≤ need_limit → Runs M budget (answer (code BudgetSpent) p n budget, M')
  ends : (n s : ℕ) (M' : Memory) → n ≤ length M → n ≤ need_limit → s ≤ budget → Runs M budget (answer 0 0 n s, M')

-- The listing of variables: the judge's numbers, the number of declarations for the fourth; of a refused text the table keeps
-- every byte.
pub data Lists (table : List ℕ) : Answer × List ℕ → Type 0 where
  lists : (n k : ℕ) (table' : List ℕ) → n ≤ need_limit → k ≤ declaration_limit → length table' ≡ length table → Lists table (answer 0 0 n k, table')
  lists_none : (c p : ℕ) → JudgeRefuses c → Lists table (answer c p 0 0, table)
