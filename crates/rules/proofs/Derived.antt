-- What the evaluation rules derive is what a run does: from a derivation of n steps, the run with that budget, or any larger one.
use Prim.Native.Nat.{ℕ, zero, suc, ◌+◌}
use mathlib.Core.Path.{◌≡◌, refl, ◌∙◌}
use mathlib.Core.Bool.{true, false}
use mathlib.Core.List.{[], ◌∷◌}
use lib.ListN.{replicate}
use native.Mathlib.Nat.{add_assoc, add-zero, suc-add, zero-add}
use native.Mathlib.Omega.{arith}
use Rattle.meaning.specs.declared.Refusal.TheVariants.{BudgetSpent}
use Rattle.meaning.specs.Program.{Code, Program, nothing, step, put, both, choice, cycle, alone}
use Rattle.meaning.specs.Memory.{Memory, Value, Mask, Declarations, declared, fetch, update, spread}
use Rattle.meaning.specs.Running.{Ran, Run, stopped, done, value, costs, and_then, some_lane, unless_empty, branches, while_left, loop, evaluating, testing, run}
use Rattle.meaning.specs.Services.{evaluate, effect, program_run}
use Rattle.rules.specs.Evaluation.{◌∩◌, ◌∖◌, End, ended, due}
use Rattle.rules.proofs.Resolved.{◌∣◌∣◌▹◌⇒◌, r_const, r_var, r_mask, r_unary, r_binary, Costly, step_costs, put_costs, choice_costs, ◌∣◌∣◌▹◌⇓◌after◌, r_inactive, r_active, r_nothing, r_decl, r_assign, r_broadcast, r_sequence, r_if, r_while, r_scalar, r_due, r_sequence_due, r_if_due, r_leave, r_again, r_test_due, r_body_due}
use Rattle.rules.proofs.Masks.{runs, skips, while_as_rule, branches_as_rule}

-- What a run answers that stands as r says, with b steps of its budget left.
unfoldable pub answers : End → ℕ → Ran Memory
answers (ended M) b = done M b
answers (due p M) b = stopped BudgetSpent p M 0

-- Where a step is due, none of the budget is left.
unfoldable pub Left : End → ℕ → Type 0
Left (ended M) b = Unit {0}
Left (due p M) b = b ≡ 0

-- A value of one lane is stored as the lanes that repeat it.
spread-replicate : (n a : ℕ) → spread n (replicate n a) ≡ replicate n a
unfolding spread
spread-replicate zero a = refl
spread-replicate (suc zero) a = refl
spread-replicate (suc (suc n)) a = refl

module _ (Γ : Declarations) where
  pub broadcast : (M : Memory) (x : ℕ) (m : Mask) (a : ℕ) →
      update Γ M x m (a ∷ []) ≡ update Γ M x m (replicate (declared Γ x).lanes a)
  unfolding update
  broadcast M x m a = rw (spread-replicate (declared Γ x).lanes a)

  -- The value of an expression.
  pub has_value : {m : Mask} {M : Memory} {e : Code} {v : Value} → Γ ∣ m ∣ M ▹ e ⇒ v → value e m (fetch Γ M) ≡ v
  unfolding value
  has_value r_const = refl
  has_value (r_var h) = refl
  has_value r_mask = refl
  has_value (r_unary d) = rw (has_value d)
  has_value (r_binary d d' h) = rw (has_value d, has_value d')

  -- A loop of at most f tests.
  abbrev pub turns : ℕ → ℕ → Code → Program → Mask → Run Memory
  turns f p e s m₀ = loop f p (testing (evaluate Γ) (effect Γ) p e m₀) (program_run Γ s)

  -- The clauses of a run.
  module _ (m : Mask) (b : ℕ) (M : Memory) where
    pub run_put : (p x : ℕ) (e : Code) → program_run Γ (put p x e) m (suc b) M ≡ done (update Γ M x m (value e m (fetch Γ M))) b
    unfolding run evaluate effect
    run_put p x e = refl

    pub run_both : (s t : Program) → program_run Γ (both s t) m b M ≡ and_then (program_run Γ s m b M) (program_run Γ t m)
    unfolding run
    run_both s t = refl

    pub run_choice : (p : ℕ) (e : Code) (s t : Program) →
        program_run Γ (choice p e s t) m (suc b) M ≡ branches (value e m (fetch Γ M)) (program_run Γ s) (program_run Γ t) m b M
    unfolding run evaluate effect
    run_choice p e s t = refl

    pub run_cycle : (p : ℕ) (e : Code) (s : Program) → program_run Γ (cycle p e s) m b M ≡ turns b p e s m m b M
    unfolding run
    run_cycle p e s = refl

    pub run_alone : (s : Program) → program_run Γ (alone s) m b M ≡ program_run Γ s (true ∷ []) b M
    unfolding run
    run_alone s = refl

    pub run-turn : (f p : ℕ) (e : Code) (s : Program) (m₀ : Mask) →
        turns (suc f) p e s m₀ m (suc b) M
        ≡ while_left (value e m₀ (fetch Γ M)) (λ m b M. and_then (program_run Γ s m b M) (turns f p e s m₀ m)) m b M
    unfolding loop costs evaluating testing evaluate effect
    run-turn f p e s m₀ = refl

  -- Of a statement under any mask; under one with an active lane; and of a loop, with tests for its budget.
  pub record Runs (m : Mask) (M : Memory) (s : Program) (r : End) (n : ℕ) : Type 0 where
    pub is : (b : ℕ) → Left r b → unless_empty (program_run Γ s) m (n + b) M ≡ answers r b

  record RunsActive (m : Mask) (M : Memory) (s : Program) (r : End) (n : ℕ) : Type 0 where
    is : some_lane m ≡ true → (b : ℕ) → Left r b → program_run Γ s m (n + b) M ≡ answers r b

  record Loops (p : ℕ) (e : Code) (s : Program) (m₀ m : Mask) (M : Memory) (r : End) (n : ℕ) : Type 0 where
    is : some_lane m ≡ true → (b : ℕ) → Left r b → (f : ℕ) → turns (n + b + f) p e s m₀ m (n + b) M ≡ answers r b

  -- A test that the budget allows.
  pub tested : (m m₀ : Mask) (M : Memory) (p : ℕ) (e : Code) (s : Program) (c : Value) (b f : ℕ) → value e m₀ (fetch Γ M) ≡ c →
      some_lane m ≡ true →
      turns (suc f) p e s m₀ m (suc b) M ≡ unless_empty (λ m b M. and_then (program_run Γ s m b M) (turns f p e s m₀ m)) (m ∩ c) b M
  tested m m₀ M p e s c b f i h = rw (run-turn m b M f p e s m₀, i) (while_as_rule m h _ c b M)

  -- And one that leaves lanes in the loop.
  taken : (m m₀ : Mask) (M : Memory) (p : ℕ) (e : Code) (s : Program) (c : Value) (b f : ℕ) → value e m₀ (fetch Γ M) ≡ c →
      some_lane m ≡ true → some_lane (m ∩ c) ≡ true →
      turns (suc f) p e s m₀ m (suc b) M ≡ and_then (unless_empty (program_run Γ s) (m ∩ c) b M) (turns f p e s m₀ (m ∩ c))
  taken m m₀ M p e s c b f i h x = rw (tested m m₀ M p e s c b f i h, runs (program_run Γ s) (m ∩ c) b M x) (runs _ (m ∩ c) b M x)

  -- A law for each rule.
  module _ {m : Mask} {M : Memory} where
    skipped : {s : Program} → some_lane m ≡ false → Runs m M s (ended M) 0
    unfolding answers
    skipped {s} h = record { is = λ b l. rw zero-add (skips (program_run Γ s) m b M h) }

    active : {s : Program} {r : End} {n : ℕ} → some_lane m ≡ true → RunsActive m M s r n → Runs m M s r n
    active {s} {n} h k = record { is = λ b l. runs (program_run Γ s) m (n + b) M h ∙ k.is h b l }

    nothings : RunsActive m M nothing (ended M) 0
    unfolding run answers
    nothings = record { is = λ h b l. rw zero-add }

    steps : {p : ℕ} → RunsActive m M (step p) (ended M) 1
    unfolding run effect answers
    steps = record { is = λ h b l. rw (suc-add 0 b, zero-add) }

    puts : {p x : ℕ} {e : Code} {v : Value} → value e m (fetch Γ M) ≡ v → RunsActive m M (put p x e) (ended (update Γ M x m v)) 1
    unfolding answers
    puts i = record { is = λ h b l. rw (suc-add 0 b, zero-add, run_put, i) }

    broadcasts : {p x a : ℕ} {e : Code} → value e m (fetch Γ M) ≡ a ∷ [] →
        RunsActive m M (put p x e) (ended (update Γ M x m (replicate (declared Γ x).lanes a))) 1
    broadcasts {x} {a} i = rw (← broadcast M x m a) (puts i)

    boths : {M₁ : Memory} {s t : Program} {r : End} {n n' : ℕ} → Runs m M s (ended M₁) n → Runs m M₁ t r n' →
        RunsActive m M (both s t) r (n + n')
    unfolding and_then answers Left
    boths {M₁} {s} {t} {n} {n'} k k' =
        record {
          is = λ h b l.
              rw (add_assoc, run_both, ← runs (program_run Γ s) m (n + (n' + b)) M h, k.is (n' + b) tt, ← runs (program_run Γ t) m (n' + b) M₁ h)
              (k'.is b l);
        }

    choices : {M₁ : Memory} {p : ℕ} {e : Code} {c : Value} {s t : Program} {r : End} {n n' : ℕ} →
        value e m (fetch Γ M) ≡ c → Runs (m ∩ c) M s (ended M₁) n → Runs (m ∖ c) M₁ t r n' →
        RunsActive m M (choice p e s t) r (suc (n + n'))
    unfolding and_then answers Left
    choices {c} {s} {t} {n} {n'} i k k' =
        record {
          is = λ h b l.
              rw (suc-add, add_assoc, run_choice, i, branches_as_rule m h (program_run Γ s) (program_run Γ t) c (n + (n' + b)) M, k.is (n' + b) tt)
              (k'.is b l);
        }

    cycles : {p : ℕ} {e : Code} {s : Program} {r : End} {n : ℕ} → Loops p e s m m M r n → RunsActive m M (cycle p e s) r n
    cycles k = record { is = λ h b l. rw run_cycle (rw add-zero at (k.is h b l 0)) }

    alones : {s : Program} {r : End} {n : ℕ} → Runs (true ∷ []) M s r n → RunsActive m M (alone s) r n
    unfolding some_lane
    alones {s} {n} k = record { is = λ h b l. rw (run_alone, ← runs (program_run Γ s) (true ∷ []) (n + b) M refl) (k.is b l) }

    dues : {p : ℕ} {s : Program} → Costly s p → RunsActive m M s (due p M) 0
    unfolding run answers Left
    dues step_costs = record { is = λ h b l. rw (zero-add, l) }
    dues put_costs = record { is = λ h b l. rw (zero-add, l) }
    dues choice_costs = record { is = λ h b l. rw (zero-add, l) }

    boths_due : {M₁ : Memory} {s t : Program} {p n : ℕ} → Runs m M s (due p M₁) n → RunsActive m M (both s t) (due p M₁) n
    unfolding and_then answers
    boths_due {s} {n} k = record { is = λ h b l. rw (run_both, ← runs (program_run Γ s) m (n + b) M h, k.is b l) }

    choices_due : {M₁ : Memory} {p q : ℕ} {e : Code} {c : Value} {s t : Program} {n : ℕ} →
        value e m (fetch Γ M) ≡ c → Runs (m ∩ c) M s (due q M₁) n → RunsActive m M (choice p e s t) (due q M₁) (suc n)
    unfolding and_then answers
    choices_due {c} {s} {t} {n} i k =
        record { is = λ h b l. rw (suc-add, run_choice, i, branches_as_rule m h (program_run Γ s) (program_run Γ t) c (n + b) M, k.is b l) }

    leaves : {p : ℕ} {e : Code} {s : Program} {m₀ : Mask} {c : Value} → value e m₀ (fetch Γ M) ≡ c → some_lane (m ∩ c) ≡ false →
        Loops p e s m₀ m M (ended M) 1
    unfolding answers
    leaves {p} {e} {s} {m₀} {c} i x =
        record { is = λ h b l f. rw (suc-add 0 b, zero-add, suc-add, tested m m₀ M p e s c b (b + f) i h) (skips _ (m ∩ c) b M x) }

    agains : {M₁ : Memory} {p : ℕ} {e : Code} {s : Program} {m₀ : Mask} {c : Value} {r : End} {n n' : ℕ} →
        value e m₀ (fetch Γ M) ≡ c → some_lane (m ∩ c) ≡ true → Runs (m ∩ c) M s (ended M₁) n → Loops p e s m₀ (m ∩ c) M₁ r n' →
        Loops p e s m₀ m M r (suc (n + n'))
    unfolding and_then answers Left
    agains {p} {e} {s} {m₀} {c} {n} {n'} i x k k' = record {
      is = λ h b l f.
          let budget : suc (n + n') + b ≡ suc (n + (n' + b)) = omega arith in
          let tests : suc (n + (n' + b)) + f ≡ suc (n' + b + (n + f)) = omega arith in
          rw (budget, tests, taken m m₀ M p e s c (n + (n' + b)) (n' + b + (n + f)) i h x, k.is (n' + b) tt)
          (k'.is x b l (n + f));
    }

    tests_due : {p : ℕ} {e : Code} {s : Program} {m₀ : Mask} → Loops p e s m₀ m M (due p M) 0
    unfolding loop costs evaluating testing answers Left
    tests_due {p} {e} {s} {m₀} = record { is = λ h b l f. rw (zero-add, l, zero-add) (at f) }
      where
        at : (f : ℕ) → turns f p e s m₀ m 0 M ≡ stopped BudgetSpent p M 0
        at zero = refl
        at (suc f) = refl

    bodies_due : {M₁ : Memory} {p q : ℕ} {e : Code} {s : Program} {m₀ : Mask} {c : Value} {n : ℕ} →
        value e m₀ (fetch Γ M) ≡ c → some_lane (m ∩ c) ≡ true → Runs (m ∩ c) M s (due q M₁) n →
        Loops p e s m₀ m M (due q M₁) (suc n)
    unfolding and_then answers
    bodies_due {p} {e} {s} {m₀} {c} {n} i x k =
        record { is = λ h b l f. rw (suc-add, suc-add, taken m m₀ M p e s c (n + b) (n + b + f) i h x, k.is b l) }

  -- From a derivation, the run.
  pub as_run : {m : Mask} {M : Memory} {s : Program} {r : End} {n : ℕ} → Γ ∣ m ∣ M ▹ s ⇓ r after n → Runs m M s r n
  as_run d = elim d as (λ m M s r n d. Runs m M s r n) (λ m M s r n d. RunsActive m M s r n)
      (λ p e s m₀ m M r n d. Loops p e s m₀ m M r n) [
        | r_inactive h ↦ skipped h
        | r_active h (d → k) ↦ active h k
        | r_nothing ↦ nothings
        | r_decl ↦ steps
        | r_assign d l t ↦ puts (has_value d)
        | r_broadcast d t ↦ broadcasts (has_value d)
        | r_sequence (d → k) (d' → k') ↦ boths k k'
        | r_if d l (u → k) (u' → k') ↦ choices (has_value d) k k'
        | r_while (d → k) ↦ cycles k
        | r_scalar (d → k) ↦ alones k
        | r_due c ↦ dues c
        | r_sequence_due (d → k) ↦ boths_due k
        | r_if_due d l (u → k) ↦ choices_due (has_value d) k
        | r_leave d l x ↦ leaves (has_value d) x
        | r_again d l x (u → k) (w → k') ↦ agains (has_value d) x k k'
        | r_test_due ↦ tests_due
        | r_body_due d l x (u → k) ↦ bodies_due (has_value d) x k
      ]
