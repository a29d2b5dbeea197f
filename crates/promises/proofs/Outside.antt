-- "Bytes outside the variables never change", of every run; and the memory keeps its length.
use Prim.Native.Nat.{ℕ, ◌+◌, ◌≤◌, ◌<◌}
use mathlib.Core.Path.{◌≡◌, refl, ◌∙◌}
use mathlib.Core.Logic.{◌⊎◌, inl, inr}
use mathlib.Core.List.{List}
use native.Mathlib.Omega.{arith}
use lib.ListN.{length, take, drop}
use Rattle.meaning.specs.Memory.{Memory, Value, Mask, Declarations, declared, need, update}
use Rattle.meaning.specs.Running.{Event, passes, stores}
use Rattle.meaning.specs.Services.{judged, effect, run, run_call, Kept}
use Rattle.laws.specs.Lengths.{Spreadable}
use Rattle.laws.specs.Declarations.{end_of, Ordered}
use Rattle.laws.specs.Near.{Does, does_pass, does_store}
use Rattle.laws.proofs.Services.{run_leaves}
use Rattle.lane.specs.Lane.{variables_in}
use Rattle.lane.proofs.Bytes.{length-update, update_before, update-after}
use Rattle.promises.specs.Outside.{SameOutside}
use Rattle.promises.proofs.Calls.{left_as}
use Rattle.promises.proofs.Demands.{run_delivers}

same : (Γ : Declarations) (M : Memory) → SameOutside Γ M M
same Γ M = record { as_long = refl; outside = λ b c o. refl }

module _ {text : List ℕ} {Γ : Declarations} (ordered : Ordered text Γ) {M : Memory} (room : need Γ ≤ length M) where
  -- "A store is handed the bytes of one variable and no others."
  module _ (N : Memory) (kept : SameOutside Γ M N) (x : ℕ) (m : Mask) (v : Value) (x_in : x < length Γ)
      (sm : Spreadable (declared Γ x).lanes (length m)) (sv : Spreadable (declared Γ x).lanes (length v)) where
    fits : end_of (declared Γ x) ≤ length N
    fits = omega (arith, ordered.laid.ends x x_in, kept.as_long)

    stored : SameOutside Γ M (update Γ N x m v)
    stored = record { as_long = length-update Γ N x m v fits sm sv ∙ kept.as_long; outside = λ b c o. go b c (o.apart x x_in) ∙ kept.outside b c o }
      where
        go : (b c : ℕ) → (b + c ≤ (declared Γ x).address) ⊎ (end_of (declared Γ x) ≤ b) → take c (drop b (update Γ N x m v)) ≡ take c (drop b N)
        go b c (inl h) = update_before Γ N x m v fits sm sv b c h
        go b c (inr h) = update-after Γ N x m v fits sm sv b c h

  stepped : (N : Memory) (e : Event) → Does Γ e → SameOutside Γ M N → SameOutside Γ M (effect Γ N e)
  unfolding effect
  stepped N (passes p) does_pass kept = kept
  stepped N (stores p x m v) (does_store x_in sm sv) kept = stored N kept x m v x_in sm sv

-- The memory that the definition leaves; of a refused text nothing is a variable.
run_same : (text : List ℕ) (M : Memory) (budget : ℕ) → SameOutside (variables_in (judged text)) M (run text M budget).1
unfolding variables_in
run_same text M budget = run_leaves text (λ o. SameOutside (variables_in o) M) M budget (λ P Γ r room. stepped r.ordered room) (λ o. same (variables_in o) M)

pub run_long : (text : List ℕ) (M : Memory) (budget : ℕ) → length (run text M budget).1 ≡ length M
run_long text M budget = (run_same text M budget).as_long

-- Demand 1, of every result that keeps run's promise: whatever the code, "Bytes outside the variables never change."
pub run_outside : (text : List ℕ) (M : Memory) (budget : ℕ) (slice : List ℕ) {returned : ℕ} {slice' : List ℕ} {M' : Memory}
    → Kept (run_call text M budget slice) returned slice' M' → SameOutside (variables_in (judged text)) M M'
run_outside text M budget slice kept =
    left_as (run_delivers text M budget slice kept) (λ N. SameOutside (variables_in (judged text)) M N) (same (variables_in (judged text)) M) (run_same text M budget)
