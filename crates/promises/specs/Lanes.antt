-- Demand 3 of every result that keeps the services' promises: the statement.
use Rattle.std.specs.Prelude.{ℕ, ◌^◌, ◌≤◌, ◌<◌, ◌≡◌, List}
use Rattle.meaning.specs.Memory.{Memory}
use Rattle.meaning.specs.Services.{Answer, judge_call, run_call, Kept}
use Rattle.lane.specs.Narrow.{narrow}
use Rattle.lane.specs.Lane.{HoldsLane, SameLane}
use Rattle.lane.specs.Demand.{OfOneLength, HasMemory}
use Rattle.promises.specs.Promise.{numbers_in}

-- A call of run that kept its promise and returned 1, with "a budget of 0 to 4,294,967,295 steps": what it was lent for the answer, and
-- what it left of that and of the memory.
pub record Answered (text : List ℕ) (M : Memory) (budget : ℕ) : Type 0 where
  pub word : budget < 2 ^ 32
  pub slice : List ℕ
  pub written : List ℕ
  pub memory : Memory
  pub kept : Kept (run_call text M budget slice) 1 written memory

-- The four numbers that its caller reads.
abbrev pub told : {text : List ℕ} {M : Memory} {budget : ℕ} → Answered text M budget → Answer
told call = numbers_in call.written

-- "a run that ends"
pub record ToldEnd {text : List ℕ} {M : Memory} {budget : ℕ} (call : Answered text M budget) : Type 0 where
  pub code : (told call).code ≡ 0

-- A call for the narrowed program ends, in no more steps, and leaves lane i of what a call leaves, and the other variables.
pub record FollowsCall (i : ℕ) {text : List ℕ} {M N : Memory} {budget : ℕ} (full : Answered text M budget) (thin : Answered (narrow text) N budget) : Type 0 where
  pub ends : ToldEnd thin
  pub no_more : (told thin).steps ≤ (told full).steps
  pub holds : HoldsLane i text full.memory thin.memory

-- "one lane of the run is the run of the program narrowed to that lane .. in no more steps": there is a memory that holds the lane; and
-- every call for the narrowed program over a memory that holds it follows the lane.
pub record LaneServed (i : ℕ) {text : List ℕ} {M : Memory} {budget : ℕ} (full : Answered text M budget) : Type 0 where
  pub there_is : HasMemory i text M
  pub for_every : {N : Memory} → HoldsLane i text M N → (thin : Answered (narrow text) N budget) → FollowsCall i full thin

-- What demand 3 says of the services, for a program and the n lanes of its blocks: whoever judges it narrowed says that it is
-- "accepted"; each lane of a call that ends is a call by itself; "no other lane's bytes matter to it".
pub record LanesServed (n : ℕ) (text : List ℕ) : Type 0 where
  pub accepted : (slice written : List ℕ) → Kept (judge_call (narrow text) slice) 1 written tt → (numbers_in written).code ≡ 0
  pub one_lane : {budget : ℕ} {M : Memory} (full : Answered text M budget) → ToldEnd full → (i : ℕ) → i < n → LaneServed i full
  pub no_other_lane : {budget budget' : ℕ} {M M' : Memory} (call : Answered text M budget) (call' : Answered text M' budget') → ToldEnd call → ToldEnd call'
      → (i : ℕ) → i < n → SameLane i text M M' → SameLane i text call.memory call'.memory

-- Demand 3, of the services.
abbrev pub DemandThreeServed : Type 0
DemandThreeServed = (n : ℕ) (text : List ℕ) → OfOneLength n text → LanesServed n text
