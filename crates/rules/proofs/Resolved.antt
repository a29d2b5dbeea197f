-- The evaluation rules of resolved statements (`Program`), between the rules of the tree and the definition of a run: a name is the
-- number of its declaration in the table Γ.
use Prim.Native.Nat.{ℕ, suc, ◌+◌}
use mathlib.Core.Path.{◌≡◌}
use mathlib.Core.Bool.{true, false}
use mathlib.Core.List.{[], ◌∷◌, map}
use lib.ListN.{length, replicate}
use Rattle.meaning.specs.declared.Kind.{Kind}
use Rattle.meaning.specs.declared.Unary.{Unary}
use Rattle.meaning.specs.declared.Binary.{Binary}
use Rattle.meaning.specs.Program.{Code, constant, variable, the_mask, one, two, Program, nothing, step, put, both, choice, cycle, alone}
use Rattle.meaning.specs.Memory.{Memory, Value, Mask, Declarations, declared, fetch, update, bit}
use Rattle.meaning.specs.Running.{unary_of, binary_of, lanewise, some_lane}
use Rattle.rules.specs.Lengths.{Match, Target}
use Rattle.rules.specs.Evaluation.{◌∩◌, ◌∖◌, End, ended, due}

infix 10 ◌∣◌∣◌▹◌⇒◌
-- Γ ∣ m ∣ M ▹ e ⇒ v: under the mask m and in the memory M, the value of e is v.
pub data ◌∣◌∣◌▹◌⇒◌ (Γ : Declarations) (m : Mask) (M : Memory) : Code → Value → Type 0 where
  r_const : {n : ℕ} → Γ ∣ m ∣ M ▹ constant n ⇒ n ∷ []
  r_var : {x : ℕ} →
      Match (length m) (declared Γ x).lanes →
      -----------------------------------------
      Γ ∣ m ∣ M ▹ variable x ⇒ fetch Γ M x
  r_mask : Γ ∣ m ∣ M ▹ the_mask ⇒ map bit m
  r_unary : {p : ℕ} {k : Kind} {o : Unary} {e : Code} {v : Value} →
      Γ ∣ m ∣ M ▹ e ⇒ v →
      --------------------------------------------
      Γ ∣ m ∣ M ▹ one p k o e ⇒ map (unary_of k o) v
  r_binary : {p : ℕ} {k : Kind} {o : Binary} {e e' : Code} {v v' : Value} →
      Γ ∣ m ∣ M ▹ e ⇒ v →
      Γ ∣ m ∣ M ▹ e' ⇒ v' →
      Match (length v) (length v') →
      -----------------------------------------------------------
      Γ ∣ m ∣ M ▹ two p k o e e' ⇒ lanewise (binary_of k o) v v'

-- "One step each": what begins with a step, and its place. (A `while` does too: `r_test_due`.)
pub data Costly : Program → ℕ → Type 0 where
  step_costs : {p : ℕ} → Costly (step p) p
  put_costs : {p x : ℕ} {e : Code} → Costly (put p x e) p
  choice_costs : {p : ℕ} {e : Code} {s t : Program} → Costly (choice p e s t) p

infix 10 ◌∣◌∣◌▹◌⇓◌after◌ ◌∣◌∣◌▹◌↓◌after◌
-- Γ ∣ m ∣ M ▹ s ⇓ r after n: under the mask m and from the memory M, after n steps s stands as r.
-- Γ ∣ m ∣ M ▹ s ↓ r after n: the same, where some lane of m is active.
-- Loop Γ p e s m₀ m M r n: the same of a loop that was entered under m₀, where the lanes m are left.
mutual
  pub data ◌∣◌∣◌▹◌⇓◌after◌ (Γ : Declarations) : Mask → Memory → Program → End → ℕ → Type 0 where
    r_inactive : {m : Mask} {M : Memory} {s : Program} →
        some_lane m ≡ false →
        ---------------------------------
        Γ ∣ m ∣ M ▹ s ⇓ ended M after 0
    r_active : {m : Mask} {M : Memory} {s : Program} {r : End} {n : ℕ} →
        some_lane m ≡ true →
        Γ ∣ m ∣ M ▹ s ↓ r after n →
        ---------------------------
        Γ ∣ m ∣ M ▹ s ⇓ r after n

  pub data ◌∣◌∣◌▹◌↓◌after◌ (Γ : Declarations) : Mask → Memory → Program → End → ℕ → Type 0 where
    r_nothing : {m : Mask} {M : Memory} → Γ ∣ m ∣ M ▹ nothing ↓ ended M after 0
    r_decl : {m : Mask} {M : Memory} {p : ℕ} → Γ ∣ m ∣ M ▹ step p ↓ ended M after 1
    r_assign : {m : Mask} {M : Memory} {p x : ℕ} {e : Code} {v : Value} →
        Γ ∣ m ∣ M ▹ e ⇒ v →
        length v ≡ (declared Γ x).lanes →
        Target (length m) (declared Γ x).lanes →
        ------------------------------------------------------------
        Γ ∣ m ∣ M ▹ put p x e ↓ ended (update Γ M x m v) after 1
    r_broadcast : {m : Mask} {M : Memory} {p x a : ℕ} {e : Code} →
        Γ ∣ m ∣ M ▹ e ⇒ a ∷ [] →
        Target (length m) (declared Γ x).lanes →
        --------------------------------------------------------------------------------------------------
        Γ ∣ m ∣ M ▹ put p x e ↓ ended (update Γ M x m (replicate (declared Γ x).lanes a)) after 1
    r_sequence : {m : Mask} {M M₁ : Memory} {s t : Program} {r : End} {n n' : ℕ} →
        Γ ∣ m ∣ M ▹ s ⇓ ended M₁ after n →
        Γ ∣ m ∣ M₁ ▹ t ⇓ r after n' →
        -----------------------------------------
        Γ ∣ m ∣ M ▹ both s t ↓ r after (n + n')
    r_if : {m : Mask} {M M₁ : Memory} {p : ℕ} {e : Code} {c : Value} {s t : Program} {r : End} {n n' : ℕ} →
        Γ ∣ m ∣ M ▹ e ⇒ c →
        Match (length m) (length c) →
        Γ ∣ m ∩ c ∣ M ▹ s ⇓ ended M₁ after n →
        Γ ∣ m ∖ c ∣ M₁ ▹ t ⇓ r after n' →
        ---------------------------------------------------
        Γ ∣ m ∣ M ▹ choice p e s t ↓ r after suc (n + n')
    r_while : {m : Mask} {M : Memory} {p : ℕ} {e : Code} {s : Program} {r : End} {n : ℕ} →
        Loop Γ p e s m m M r n →
        -------------------------------------
        Γ ∣ m ∣ M ▹ cycle p e s ↓ r after n
    r_scalar : {m : Mask} {M : Memory} {s : Program} {r : End} {n : ℕ} →
        Γ ∣ true ∷ [] ∣ M ▹ s ⇓ r after n →
        -----------------------------------
        Γ ∣ m ∣ M ▹ alone s ↓ r after n
    r_due : {m : Mask} {M : Memory} {p : ℕ} {s : Program} →
        Costly s p →
        ---------------------------------
        Γ ∣ m ∣ M ▹ s ↓ due p M after 0
    r_sequence_due : {m : Mask} {M M₁ : Memory} {s t : Program} {p n : ℕ} →
        Γ ∣ m ∣ M ▹ s ⇓ due p M₁ after n →
        ------------------------------------------
        Γ ∣ m ∣ M ▹ both s t ↓ due p M₁ after n
    r_if_due : {m : Mask} {M M₁ : Memory} {p q : ℕ} {e : Code} {c : Value} {s t : Program} {n : ℕ} →
        Γ ∣ m ∣ M ▹ e ⇒ c →
        Match (length m) (length c) →
        Γ ∣ m ∩ c ∣ M ▹ s ⇓ due q M₁ after n →
        ----------------------------------------------------
        Γ ∣ m ∣ M ▹ choice p e s t ↓ due q M₁ after suc n

  pub data Loop (Γ : Declarations) : ℕ → Code → Program → Mask → Mask → Memory → End → ℕ → Type 0 where
    r_leave : {p : ℕ} {e : Code} {s : Program} {m₀ m : Mask} {M : Memory} {c : Value} →
        Γ ∣ m₀ ∣ M ▹ e ⇒ c →
        Match (length m) (length c) →
        some_lane (m ∩ c) ≡ false →
        ----------------------------------
        Loop Γ p e s m₀ m M (ended M) 1
    r_again : {p : ℕ} {e : Code} {s : Program} {m₀ m : Mask} {M M₁ : Memory} {c : Value} {r : End} {n n' : ℕ} →
        Γ ∣ m₀ ∣ M ▹ e ⇒ c →
        Match (length m) (length c) →
        some_lane (m ∩ c) ≡ true →
        Γ ∣ m ∩ c ∣ M ▹ s ⇓ ended M₁ after n →
        Loop Γ p e s m₀ (m ∩ c) M₁ r n' →
        ---------------------------------------
        Loop Γ p e s m₀ m M r (suc (n + n'))
    r_test_due : {p : ℕ} {e : Code} {s : Program} {m₀ m : Mask} {M : Memory} → Loop Γ p e s m₀ m M (due p M) 0
    r_body_due : {p : ℕ} {e : Code} {s : Program} {m₀ m : Mask} {M M₁ : Memory} {c : Value} {q n : ℕ} →
        Γ ∣ m₀ ∣ M ▹ e ⇒ c →
        Match (length m) (length c) →
        some_lane (m ∩ c) ≡ true →
        Γ ∣ m ∩ c ∣ M ▹ s ⇓ due q M₁ after n →
        ----------------------------------------
        Loop Γ p e s m₀ m M (due q M₁) (suc n)
