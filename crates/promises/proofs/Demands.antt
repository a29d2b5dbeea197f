-- Demands 1 and 2 of the services: what holds of every result that keeps a service's promise.
use Prim.Native.Nat.{ℕ, ◌^◌, ◌≤◌, ◌<◌}
use mathlib.Core.Path.{◌≡◌}
use mathlib.Core.Logic.{◌⊎◌}
use mathlib.Core.List.{List}
use lib.ListN.{length}
use Rattle.meaning.specs.declared.Refusal.TheVariants.{MemoryTooShort, BudgetSpent}
use Rattle.meaning.specs.Codes.{code}
use Rattle.meaning.specs.Memory.{Memory}
use Rattle.meaning.specs.Services.{judge, run, variables, judge_call, run_call, variables_call, Kept}
use Rattle.laws.proofs.Services.{judge_place, run_limits, run_place, judge-words, run-words, variables-words}
use Rattle.promises.specs.Promise.{numbers_in, Delivers}
use Rattle.promises.specs.Answers.{JudgeRefuses, Judges, Runs, Lists}
use Rattle.promises.proofs.Answers.{judge_answers, run_answers, variables_answers, refusal_keeps, all_steps, listing_keeps}
use Rattle.promises.proofs.Calls.{delivers, with_one, reads, lent_stays}

-- Judge.
module _ (text slice : List ℕ) {returned : ℕ} {slice' : List ℕ} (kept : Kept (judge_call text slice) returned slice' tt) where
  -- Demand 2: code, place, need, steps and every byte of the answer slice are the definition's, with and without room.
  pub judge_delivers : Delivers {A = Unit {0}} slice tt (judge text) tt returned slice' tt
  unfolding judge_call
  judge_delivers = delivers slice tt (judge text) tt kept

  module _ (answered : returned ≡ 1) where
    -- Demand 2: so are the numbers that a caller reads.
    pub judge_reads : numbers_in slice' ≡ judge text
    judge_reads = reads judge_delivers (judge-words text) answered

    -- Demand 1: "Judge gives 0 to 11, always with steps 0"; "Codes 1 to 11: need and steps 0."
    pub judge_tells : Judges (numbers_in slice')
    judge_tells = rw judge_reads (judge_answers text)

    -- Demand 1: "place (a byte offset in the text)", or the text's length where it "ends too soon".
    pub judge_places : (numbers_in slice').place ≤ length text
    judge_places = rw judge_reads (judge_place text)

-- Run.
module _ (text : List ℕ) (M : Memory) (budget : ℕ) (slice : List ℕ) {returned : ℕ} {slice' : List ℕ} {M' : Memory} (kept : Kept (run_call text M budget slice) returned slice' M') where
  -- Demand 2: code, place, need, steps and every byte of memory and answer slice are the definition's, with and without room.
  pub run_delivers : Delivers slice M (run text M budget).0 (run text M budget).1 returned slice' M'
  unfolding run_call
  run_delivers = delivers slice M (run text M budget).0 (run text M budget).1 kept

  -- Demand 1: "In all of these the memory keeps every byte": a refusal of the judge, and a memory that is too short.
  pub run_refuses : JudgeRefuses (run text M budget).0.code ⊎ ((run text M budget).0.code ≡ code MemoryTooShort) → M' ≡ M
  run_refuses h = lent_stays run_delivers (refusal_keeps (run_answers text M budget) h)

  -- What a caller reads who is returned 1: "a budget of 0 to 4,294,967,295 steps".
  module _ (word : budget < 2 ^ 32) (answered : returned ≡ 1) where
    -- Demand 2: the four numbers of the definition; "the count is the definition's".
    pub run_reads : numbers_in slice' ≡ (run text M budget).0
    run_reads = reads run_delivers (run-words text M budget word) answered

    -- Demand 1: what each code says of need, steps and memory.
    pub run_tells : Runs M budget (numbers_in slice', M')
    run_tells = rw (run_reads, (run_delivers.with_room (with_one run_delivers answered)).2) (run_answers text M budget)

    -- Demand 1: "place (a byte offset in the text)", or the text's length.
    pub run_places : (numbers_in slice').place ≤ length text
    run_places = rw run_reads (run_place text M budget)

    -- Demand 1: whoever reads a refusal has every byte of the memory as it was.
    pub run_keeps : JudgeRefuses (numbers_in slice').code ⊎ ((numbers_in slice').code ≡ code MemoryTooShort) → M' ≡ M
    run_keeps = refusal_keeps run_tells

    -- "Code 13: .. steps equal to the budget"
    pub run_spends : (numbers_in slice').code ≡ code BudgetSpent → (numbers_in slice').steps ≡ budget
    run_spends = all_steps run_tells

    -- "Code 0: .. steps as taken": with no code are they more than the budget.
    pub run_within : (numbers_in slice').steps ≤ budget
    run_within = rw run_reads (run_limits text M budget).steps

-- The listing of variables.
module _ (text table slice : List ℕ) {returned : ℕ} {slice' table' : List ℕ} (kept : Kept (variables_call text table slice) returned slice' table') where
  -- Demand 2, of the table instead of the memory.
  pub variables_delivers : Delivers slice table (variables text table).0 (variables text table).1 returned slice' table'
  unfolding variables_call
  variables_delivers = delivers slice table (variables text table).0 (variables text table).1 kept

  -- Demand 1: a refused text leaves every byte of the table.
  pub variables_refuses : 1 ≤ (variables text table).0.code → table' ≡ table
  variables_refuses some = lent_stays variables_delivers (listing_keeps (variables_answers text table) some)

  module _ (answered : returned ≡ 1) where
    -- Demand 2: the numbers that a caller reads.
    pub variables_reads : numbers_in slice' ≡ (variables text table).0
    variables_reads = reads variables_delivers (variables-words text table) answered

    -- Demand 1: what each code says of need, the number of declarations and the table.
    pub variables_tells : Lists table (numbers_in slice', table')
    variables_tells = rw (variables_reads, (variables_delivers.with_room (with_one variables_delivers answered)).2) (variables_answers text table)
