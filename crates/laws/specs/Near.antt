-- The places of a typed program, where its runs stop, and what their steps do.
use Rattle.std.specs.Prelude.{ℕ, ◌≤◌, ◌<◌, length}
use Rattle.meaning.specs.declared.Refusal.TheVariants.{BudgetSpent}
use Rattle.meaning.specs.Program.{Code, Program, nothing, step, put, both, choice, cycle, alone}
use Rattle.meaning.specs.Memory.{Value, Mask, Declarations, declared}
use Rattle.meaning.specs.Running.{Event, passes, stores, Ran, stopped, done}
use Rattle.laws.specs.Lengths.{Spreadable}

-- A program with each of its places at most N.
pub data NearProgram (N : ℕ) : Program → Type 0 where
  near_nothing : NearProgram N nothing
  near_step : {p : ℕ} → p ≤ N → NearProgram N (step p)
  near_put : {p x : ℕ} {e : Code} → p ≤ N → NearProgram N (put p x e)
  near_both : {s t : Program} → NearProgram N s → NearProgram N t → NearProgram N (both s t)
  near_choice : {p : ℕ} {e : Code} {s t : Program} → p ≤ N → NearProgram N s → NearProgram N t → NearProgram N (choice p e s t)
  near_cycle : {p : ℕ} {e : Code} {s : Program} → p ≤ N → NearProgram N s → NearProgram N (cycle p e s)
  near_alone : {s : Program} → NearProgram N s → NearProgram N (alone s)

-- A run of budget b that ends, or spends its whole budget and stops at a place of at most N; the state then has I.
pub data Stops {S : Type 0} (I : S → Type 0) (N b : ℕ) : Ran S → Type 0 where
  near_done : {σ : S} {left : ℕ} → left ≤ b → I σ → Stops I N b (done σ left)
  near_spent : {p : ℕ} {σ : S} → p ≤ N → I σ → Stops I N b (stopped BudgetSpent p σ 0)

-- What a step of a program that fits does: it passes, or it stores into a declared variable, over whose lanes mask and value spread.
pub data Does (Γ : Declarations) : Event → Type 0 where
  does_pass : {p : ℕ} → Does Γ (passes p)
  does_store : {p x : ℕ} {m : Mask} {v : Value} → x < length Γ → Spreadable (declared Γ x).lanes (length m) → Spreadable (declared Γ x).lanes (length v) → Does Γ (stores p x m v)
