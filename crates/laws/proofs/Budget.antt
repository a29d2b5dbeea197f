-- A finished run is the same under a larger budget: what is added to the budget is added to what is left.
use mathlib.Core.Path.{◌≡◌, refl}
use mathlib.Core.Bool.{Bool, true, false}
use mathlib.Core.List.{[], ◌∷◌}
use Prim.Native.Nat.{ℕ, zero, suc, ◌+◌, ◌≤◌}
use native.Mathlib.Nat.{suc-add}
use native.Mathlib.Omega.{arith}
use Rattle.meaning.specs.Codes.{when◌then◌else◌}
use Rattle.meaning.specs.Program.{Code, Program, nothing, step, put, both, choice, cycle, alone}
use Rattle.meaning.specs.Memory.{Value, Mask, truth}
use Rattle.meaning.specs.Running.{Event, passes, stores, Ran, stopped, done, Run, and_then, costs, some_lane, mask_and, mask_and_not, unless_empty, branches, while_left, loop, evaluating, testing, run}

module _ {S : Type 0} (d : ℕ) where
  -- The second is what the first ended with, and d more steps are left.
  abbrev pub Richer : Ran S → Ran S → Type 0
  Richer (stopped c p σ b) o = Unit {0}
  Richer (done σ b) o = o ≡ done σ (b + d)

  abbrev pub Same : Run S → Run S → Type 0
  Same r r' = (m : Mask) (b : ℕ) (σ : S) → Richer (r m b σ) (r' m (b + d) σ)

  same_then : (o o' : Ran S) (k k' : ℕ → S → Ran S) → Richer o o' → ((b : ℕ) (σ : S) → Richer (k b σ) (k' (b + d) σ)) → Richer (and_then o k) (and_then o' k')
  unfolding and_then
  same_then (stopped c p σ b) o' k k' h f = tt
  same_then (done σ b) o' k k' h f = rw h (f b σ)

  same_costs : (p : ℕ) (r r' : Run S) → Same r r' → Same (costs p r) (costs p r')
  unfolding costs
  same_costs p r r' h m zero σ = tt
  same_costs p r r' h m (suc b) σ = rw (suc-add b d) (h m b σ)

  same_if : (g : Bool) (r q r' q' : Run S) → Same r r' → Same q q' → Same (λ m b σ. when g then (λ _. r m b σ) else λ _. q m b σ) (λ m b σ. when g then (λ _. r' m b σ) else λ _. q' m b σ)
  same_if true r q r' q' h k = h
  same_if false r q r' q' h k = k

  same_unless : (r r' : Run S) → Same r r' → Same (unless_empty r) (unless_empty r')
  unfolding unless_empty
  same_unless r r' h m b σ = same_if (some_lane m) r (λ m b σ. done σ b) r' (λ m b σ. done σ b) h (λ m b σ. refl) m b σ

  same_branches : (v : Value) (r q : Run S) → Same r r → Same q q → Same (branches v r q) (branches v r q)
  unfolding branches
  same_branches [] r q h k m b σ = refl
  same_branches (x ∷ []) r q h k m b σ = same_if (truth x) r q r q h k m b σ
  same_branches (x ∷ y ∷ v) r q h k m b σ =
      same_then _ _ _ _ (same_unless r r h (mask_and m (x ∷ y ∷ v)) b σ) (λ b' σ'. same_unless q q k (mask_and_not m (x ∷ y ∷ v)) b' σ')

  same_while_left : (v : Value) (r r' : Run S) → Same r r' → Same (while_left v r) (while_left v r')
  unfolding while_left
  same_while_left [] r r' h m b σ = refl
  same_while_left (x ∷ []) r r' h m b σ = same_if (truth x) r (λ m b σ. done σ b) r' (λ m b σ. done σ b) h (λ m b σ. refl) m b σ
  same_while_left (x ∷ y ∷ v) r r' h m b σ = same_unless r r' h (mask_and m (x ∷ y ∷ v)) b σ

  -- A test that goes on alike where what follows it does.
  abbrev SameTest : ((Value → Run S) → Run S) → Type 0
  SameTest test = (k k' : Value → Run S) → ((v : Value) → Same (k v) (k' v)) → Same (test k) (test k')

  same_loop : (p : ℕ) (test : (Value → Run S) → Run S) → SameTest test → (r : Run S) → Same r r → (k k' : ℕ) → k ≤ k' → Same (loop k p test r) (loop k' p test r)
  unfolding loop
  same_loop p test f r h zero k' l m b σ = tt
  same_loop p test f r h (suc k) zero l m b σ = absurd (omega arith)
  same_loop p test f r h (suc k) (suc k') l m b σ =
      f (λ v. while_left v (λ m b σ. and_then (r m b σ) (loop k p test r m))) (λ v. while_left v (λ m b σ. and_then (r m b σ) (loop k' p test r m)))
      (λ v m b σ. same_while_left v (λ m b σ. and_then (r m b σ) (loop k p test r m)) (λ m b σ. and_then (r m b σ) (loop k' p test r m))
      (λ m b σ. same_then _ _ _ _ (h m b σ) (λ b' σ'. same_loop p test f r h k k' (omega arith) m b' σ')) m b σ) m b σ

  module _ (evaluate : S → Code → Mask → Value) (effect : S → Event → S) where
    same_evaluating : (p : ℕ) (e : Code) (n : Mask) → SameTest (evaluating evaluate effect p e n)
    unfolding evaluating
    same_evaluating p e n k k' h = same_costs p (λ m b σ. k (evaluate σ e n) m b σ) (λ m b σ. k' (evaluate σ e n) m b σ) (λ m b σ. h (evaluate σ e n) m b σ)

    same_testing : (p : ℕ) (e : Code) (n : Mask) → SameTest (testing evaluate effect p e n)
    unfolding testing
    same_testing p e n k k' h = same_evaluating p e n (λ v m b σ. k v m b (effect σ (passes p))) (λ v m b σ. k' v m b (effect σ (passes p))) (λ v m b σ. h v m b (effect σ (passes p)))

    abbrev pub go : Program → Run S
    go = run evaluate effect

    pub run_same : (P : Program) → Same (go P) (go P)
    unfolding run
    run_same nothing m b σ = refl
    run_same (step p) m b σ = same_costs p (λ m b σ. done (effect σ (passes p)) b) (λ m b σ. done (effect σ (passes p)) b) (λ m b σ. refl) m b σ
    run_same (put p x e) m b σ = same_evaluating p e m (λ v m b σ. done (effect σ (stores p x m v)) b) (λ v m b σ. done (effect σ (stores p x m v)) b) (λ v m b σ. refl) m b σ
    run_same (both s t) m b σ = same_then (go s m b σ) (go s m (b + d) σ) (go t m) (go t m) (run_same s m b σ) (λ b' σ'. run_same t m b' σ')
    run_same (choice p e s t) m b σ = same_testing p e m (λ v. branches v (go s) (go t)) (λ v. branches v (go s) (go t)) (λ v. same_branches v (go s) (go t) (run_same s) (run_same t)) m b σ
    run_same (cycle p e s) m b σ = same_loop p (testing evaluate effect p e m) (same_testing p e m) (go s) (run_same s) b (b + d) (omega arith) m b σ
    run_same (alone s) m b σ = run_same s (true ∷ []) b σ
