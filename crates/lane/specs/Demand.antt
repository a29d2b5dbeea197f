-- Demand 3, the statement: "For an accepted program without `scalar`, whose blocks longer than one all have one length, and a run that
-- ends: one lane of the run is the run of the program narrowed to that lane, accepted, in no more steps. So no other lane's bytes
-- matter to it."
use Rattle.std.specs.Prelude.{ℕ, ◌<◌, ◌≡◌, List, T, length}
use Rattle.meaning.specs.Memory.{Memory, declared}
use Rattle.meaning.specs.Services.{judge, run}
use Rattle.laws.specs.Values.{Bytes}
use Rattle.lane.specs.Narrow.{narrow}
use Rattle.lane.specs.Lane.{scalar_free, variables, HoldsLane, FollowsLane, SameLane}

-- "blocks longer than one all have one length": n.
pub record OneLength (n : ℕ) (text : List ℕ) : Type 0 where
  pub each : (x : ℕ) → x < length (variables text) → 1 < (declared (variables text) x).lanes → (declared (variables text) x).lanes ≡ n

-- "an accepted program without `scalar`, whose blocks longer than one all have one length"
pub record OfOneLength (n : ℕ) (text : List ℕ) : Type 0 where
  pub accepted : (judge text).code ≡ 0
  pub no_scalar : T (scalar_free text)
  pub one_length : OneLength n text

-- "a run that ends"
pub record RunEnds (text : List ℕ) (budget : ℕ) (M : Memory) : Type 0 where
  pub code : (run text M budget).0.code ≡ 0

-- There is a memory for the narrowed program that holds lane i of a memory M and the other variables: of as many bytes as that program
-- needs.
pub record HasMemory (i : ℕ) (text : List ℕ) (M : Memory) : Type 0 where
  pub start : Memory
  pub as_long : length start ≡ (judge (narrow text)).need
  pub all_bytes : Bytes M → Bytes start
  pub holds : HoldsLane i text M start

-- "one lane of the run is the run of the program narrowed to that lane .. in no more steps": there is such a memory; and over every
-- memory that holds the lane and the other variables the narrowed program ends, in no more steps, and leaves what the run left of them.
pub record LaneByItself (i : ℕ) (text : List ℕ) (budget : ℕ) (M : Memory) : Type 0 where
  pub there_is : HasMemory i text M
  pub for_every : (N : Memory) → HoldsLane i text M N → FollowsLane i text budget M N

-- What demand 3 says of a program and of the n lanes of its blocks: narrowed it is "accepted", whether or not a run ends; each lane of a
-- run that ends is a run by itself; "no other lane's bytes matter to it".
pub record LanesByThemselves (n : ℕ) (text : List ℕ) : Type 0 where
  pub accepted : (judge (narrow text)).code ≡ 0
  pub one_lane : (budget : ℕ) (M : Memory) → RunEnds text budget M → (i : ℕ) → i < n → LaneByItself i text budget M
  pub no_other_lane : (budget budget' : ℕ) (M M' : Memory) → RunEnds text budget M → RunEnds text budget' M' → (i : ℕ) → i < n
      → SameLane i text M M' → SameLane i text (run text M budget).1 (run text M' budget').1

-- Demand 3.
abbrev pub DemandThree : Type 0
DemandThree = (n : ℕ) (text : List ℕ) → OfOneLength n text → LanesByThemselves n text
