-- How the run of a plan ended, and what that makes of its answer.
use Prim.Native.Nat.{ℕ, ◌-◌, ◌≤◌, ◌<◌}
use mathlib.Core.Path.{◌≡◌, refl, sym, subst, ◌∙◌}
use mathlib.Core.Bool.{true}
use mathlib.Core.List.{List, [], ◌∷◌}
use native.Mathlib.Omega.{arith}
use lib.ListN.{length}
use borrow.Author.Tests.{le-leb, lt-leb}
use Rattle.std.specs.declared.result.Result.TheVariants.{Ok, Err}
use Rattle.meaning.specs.declared.Refusal.TheVariants.{MemoryTooShort, BudgetSpent}
use Rattle.meaning.specs.Codes.{code, ok, text_limit}
use Rattle.meaning.specs.Program.{Program}
use Rattle.meaning.specs.Memory.{Memory, Declarations, need}
use Rattle.meaning.specs.Running.{Ran}
use Rattle.meaning.specs.Services.{answer, numbers, with_numbers, evaluate, effect, ended, program_run, executed}
use Rattle.laws.specs.Near.{Stops, near_spent}
use Rattle.laws.proofs.Values.{evaluate-length}
use Rattle.laws.proofs.Running.{run_stops}
use Rattle.blocks.specs.Masks.{bits}
use Rattle.engine.specs.declared.Spent.{Spent}
use Rattle.engine.specs.Ending.{Ended, ran, spent, EndedAs}
use Rattle.engine.specs.Statements.{Executes}
use Rattle.ruihmento.specs.Contract.{Leaves, Prepared}

-- "The mask starts as one true lane."
one_lane : bits 1 1 ≡ true ∷ []
unfolding bits
one_lane = refl

-- A run that spent its budget stopped near.
spent_near : {N b p : ℕ} {M : Memory} → Stops (λ M. Unit {0}) N b (spent p M) → p ≤ N
spent_near (near_spent l i) = l

module _ {words : List ℕ} {registers m : ℕ} {Γ : Declarations} {P : Program} (p : Prepared words registers m Γ P) (M : Memory) (budget : ℕ) where
  -- Code 12.
  pub leaves_short : length M < m → (slice : List ℕ) {written : List ℕ} {k : ℕ} → k ≡ code MemoryTooShort → written ≡ with_numbers (k ∷ 0 ∷ m ∷ 0 ∷ []) slice
      → Leaves (executed program_run M budget (ok P Γ)) slice written M
  unfolding executed answer numbers
  leaves_short h slice k w =
      let short : length M < need Γ = omega (arith, p.needs) in
      rw (lt-leb (need Γ) (length M) short) (record { written_is = rw (w, k, p.needs); after_is = refl })

  module _ (enough : m ≤ length M) where
    fits : need Γ ≤ length M
    fits = omega (arith, p.needs)

    executed_is : executed program_run M budget (ok P Γ) ≡ ended (need Γ) budget (program_run Γ P (true ∷ []) budget M)
    unfolding executed
    executed_is = rw (le-leb (need Γ) (length M) fits)

    module _ {r : Ended} {after : Memory} (executes : Executes words registers budget M after r) where
      ended_as : EndedAs r budget after (program_run Γ P (bits 1 1) budget M)
      ended_as = executes Γ P (p.runs (length M) fits)

      ran_is : ran r after ≡ program_run Γ P (true ∷ []) budget M
      ran_is = rw one_lane at ended_as.is

      ended_is : executed program_run M budget (ok P Γ) ≡ ended m budget (ran r after)
      ended_is = executed_is ∙ rw (ran_is, p.needs)

    module _ {due : Spent} {after : Memory} (executes : Executes words registers budget M after (Err due)) where
      -- The place at which it stopped is one of a text.
      pub spent_low : due.place ≤ text_limit
      spent_low =
          let stops = run_stops (λ M. Unit {0}) text_limit Γ (evaluate Γ) (effect Γ) (λ C σ e m z t. evaluate-length σ m z t) (λ σ e d i. tt)
          (p.runs (length M) fits).fits p.places (true ∷ []) budget M refl tt in
          spent_near {M = after} (subst (λ (o : Ran Memory). Stops (λ M. Unit {0}) text_limit budget o) (sym (ran_is executes)) stops)

      -- Code 13.
      pub leaves_spent : (slice : List ℕ) {written : List ℕ} {k : ℕ} → k ≡ code BudgetSpent → written ≡ with_numbers (k ∷ due.place ∷ m ∷ budget ∷ []) slice → Leaves (executed program_run M budget (ok P Γ)) slice written after
      unfolding ended answer numbers
      leaves_spent slice k w = let all : budget - 0 ≡ budget = omega arith in rw (ended_is executes, all) (record { written_is = rw (w, k); after_is = refl })

    module _ {left : ℕ} {after : Memory} (executes : Executes words registers budget M after (Ok left)) where
      -- Code 0.
      pub leaves_done : (slice : List ℕ) {written : List ℕ} → written ≡ with_numbers (0 ∷ 0 ∷ m ∷ (budget - left) ∷ []) slice → Leaves (executed program_run M budget (ok P Γ)) slice written after
      unfolding ended answer numbers
      leaves_done slice w = rw (ended_is executes) (record { written_is = w; after_is = refl })
