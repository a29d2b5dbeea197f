-- One lane of a run is the run of that lane: the statement.
use Rattle.std.specs.Prelude.{ℕ, zero, suc, ◌+◌, ◌*◌, ◌≤◌, ◌<◌, ◌≡◌, Bool, not, ◌||◌, List, [], map, T, eqb, ltb, length, take, drop}
use Rattle.meaning.specs.Codes.{Out, ok, refused, ◌among◌}
use Rattle.meaning.specs.Tokens.{Token, the, lexed}
use Rattle.meaning.specs.Memory.{Memory, Declared, Declarations, declared, size}
use Rattle.meaning.specs.Program.{Program}
use Rattle.meaning.specs.Services.{judged, run}
use Rattle.lane.specs.Narrow.{narrow}

-- What the tokens of a text are; of a refused text there are none.
unfoldable pub kinds_in : Out ℕ (List Token) → List ℕ
kinds_in (ok ts q) = map (λ (t : Token). t.is) ts
kinds_in (refused c p) = []

-- Is there no `scalar` in a text?
unfoldable pub scalar_free : List ℕ → Bool
unfolding kinds_in
scalar_free text = not (the "scalar" among kinds_in (lexed text))

-- The declarations of a text; of a refused text there are none.
unfoldable pub variables_in : Out Declarations Program → Declarations
variables_in (ok P Γ) = Γ
variables_in (refused c p) = []

abbrev pub variables : List ℕ → Declarations
variables text = variables_in (judged text)

-- Where lane i stands among n lanes: the one lane of a scalar is every lane's.
unfoldable pub seat : ℕ → ℕ → ℕ
seat zero i = i
seat (suc zero) i = zero
seat (suc (suc n)) i = i

-- The bytes of lane i of a variable, or of a scalar.
unfoldable pub lane_bytes : ℕ → Declared → Memory → List ℕ
unfolding seat size
lane_bytes i d M = take (size d.kind) (drop (d.address + seat d.lanes i * size d.kind) M)

-- Is a variable a scalar, or has it a lane i?
abbrev pub reaches : ℕ → Declared → Bool
reaches i d = eqb d.lanes 1 || ltb i d.lanes

-- Every variable of a text is a scalar or has a lane i.
pub record HasLane (i : ℕ) (text : List ℕ) : Type 0 where
  pub each : (x : ℕ) → x < length (variables text) → T (reaches i (declared (variables text) x))

-- A memory N of the narrowed text holds lane i of a memory M of the text: variable by variable, the bytes are the same.
pub record HoldsLane (i : ℕ) (text : List ℕ) (M N : Memory) : Type 0 where
  pub each : (x : ℕ) → x < length (variables text) → lane_bytes i (declared (variables (narrow text)) x) N ≡ lane_bytes i (declared (variables text) x) M

-- The narrow run ends too, in no more steps, and leaves lane i of what the full run leaves.
pub record FollowsLane (i : ℕ) (text : List ℕ) (budget : ℕ) (M N : Memory) : Type 0 where
  pub ends : (run (narrow text) N budget).0.code ≡ 0
  pub no_more : (run (narrow text) N budget).0.steps ≤ (run text M budget).0.steps
  pub holds : HoldsLane i text (run text M budget).1 (run (narrow text) N budget).1

-- Take a text without `scalar` and a lane i of all its blocks, and a run that ends within its budget. Every run of the narrowed
-- text with that budget, over a memory that holds lane i, follows that lane.
abbrev pub OneLane : Type 0
OneLane =
    (text : List ℕ) (i budget : ℕ) (M N : Memory)
    → T (scalar_free text)
    → HasLane i text
    → (run text M budget).0.code ≡ 0
    → HoldsLane i text M N
    → FollowsLane i text budget M N

-- So of two runs that start alike in lane i, with any budgets in which they end, what is in the other lanes makes no difference
-- to that lane.
pub record SameLane (i : ℕ) (text : List ℕ) (M M' : Memory) : Type 0 where
  pub each : (x : ℕ) → x < length (variables text) → lane_bytes i (declared (variables text) x) M ≡ lane_bytes i (declared (variables text) x) M'

abbrev pub NoLeak : Type 0
NoLeak =
    (text : List ℕ) (i budget budget' : ℕ) (M M' : Memory)
    → T (scalar_free text)
    → HasLane i text
    → (run text M budget).0.code ≡ 0
    → (run text M' budget').0.code ≡ 0
    → SameLane i text M M'
    → SameLane i text (run text M budget).1 (run text M' budget').1
