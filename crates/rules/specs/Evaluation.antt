-- 001's evaluation rules (Figure 8), narrowed as document 01 says. 001 evaluates by small steps; a rule here says how a statement
-- stands after n of document 01's steps.
use Rattle.std.specs.Prelude.{ℕ, suc, ◌+◌, ◌≤◌, ◌≡◌, Bool, true, false, ◌&&◌, not, [], ◌∷◌, map, length, replicate}
use Rattle.std.proofs.Math.Option.{none, some}
use Rattle.meaning.specs.declared.Kind.{Kind}
use Rattle.meaning.specs.declared.Kind.TheVariants.{Int as int, Bool as bool, Float as float}
use Rattle.meaning.specs.declared.Unary.{Unary}
use Rattle.meaning.specs.declared.Binary.{Binary}
use Rattle.meaning.specs.Tree.{Name, Expr, number, float_number, boolean, name, current_mask, unary, binary, Block, Stmt, empty, braces, declare, assign, if_else, while, scalar, Stmts, none_yet, ◌⨾◌}
use Rattle.meaning.specs.Memory.{Memory, Value, Mask, declared, fetch, update, bit, truth}
use Rattle.meaning.specs.Running.{unary_of, binary_of, lanewise, some_lane}
use Rattle.rules.specs.Lengths.{Match, Target}
use Rattle.rules.specs.Operators.{◌takes◌, ◌takes_two◌gives◌}
use Rattle.rules.specs.Scopes.{Scope, ◌means◌, beyond, past_all, declarations}

infixl 40 ◌∩◌ ◌∖◌
-- 001's "P and m": "mask-and-m". What has length 1 is replicated, so a scalar condition "keeps the mask" or leaves no lane.
unfoldable pub ◌∩◌ : Mask → Value → Mask
◌∩◌ m c = lanewise (λ a x. a && truth x) m c

-- "mask-and-not-m"
unfoldable pub ◌∖◌ : Mask → Value → Mask
◌∖◌ m c = lanewise (λ a x. a && not (truth x)) m c

infix 10 ◌∣◌∣◌⊢◌⇒⟨◌∣◌⟩
-- σ ∣ m ∣ M ⊢ e ⇒⟨ k ∣ v ⟩: in the scope σ, under the mask m and in the memory M, e has the kind k and the lanes v. 001's V(v, τ).
pub data ◌∣◌∣◌⊢◌⇒⟨◌∣◌⟩ (σ : Scope) (m : Mask) (M : Memory) : Expr → Kind → Value → Type 0 where
  e_number : {n : ℕ} → σ ∣ m ∣ M ⊢ number n ⇒⟨ int ∣ n ∷ [] ⟩
  e_float : {n : ℕ} → σ ∣ m ∣ M ⊢ float_number n ⇒⟨ float ∣ n ∷ [] ⟩
  e_boolean : {c : Bool} → σ ∣ m ∣ M ⊢ boolean c ⇒⟨ bool ∣ bit c ∷ [] ⟩
  -- "A name must have length 1 or C, unless C is 1."
  e_var : {p i : ℕ} {x : Name} →
      σ means x ≡ some i →
      Match (length m) (declared σ.table i).lanes →
      ---------------------------------------------------------------------------------------
      σ ∣ m ∣ M ⊢ name p x ⇒⟨ (declared σ.table i).kind ∣ fetch σ.table M i ⟩
  -- "current_mask is bool of length C."
  e_mask : σ ∣ m ∣ M ⊢ current_mask ⇒⟨ bool ∣ map bit m ⟩
  e_unary : {p : ℕ} {o : Unary} {e : Expr} {k : Kind} {v : Value} →
      o takes k →
      σ ∣ m ∣ M ⊢ e ⇒⟨ k ∣ v ⟩ →
      ----------------------------------------------------------
      σ ∣ m ∣ M ⊢ unary p o e ⇒⟨ k ∣ map (unary_of k o) v ⟩
  -- "A binary operator needs equal lengths or one of length 1, which is replicated."
  e_binary : {p : ℕ} {o : Binary} {e e' : Expr} {k l : Kind} {v v' : Value} →
      o takes_two k gives l →
      σ ∣ m ∣ M ⊢ e ⇒⟨ k ∣ v ⟩ →
      σ ∣ m ∣ M ⊢ e' ⇒⟨ k ∣ v' ⟩ →
      Match (length v) (length v') →
      ---------------------------------------------------------------------
      σ ∣ m ∣ M ⊢ binary p o e e' ⇒⟨ l ∣ lanewise (binary_of k o) v v' ⟩

infix 10 ◌∣◌∣◌⊢◌≔⟨◌∣◌⟩◌
-- σ ∣ m ∣ M ⊢ i ≔⟨ k ∣ v ⟩ M': to store v into the variable of number i leaves M'. 001's L(a, τ) = V(v, τ).
pub data ◌∣◌∣◌⊢◌≔⟨◌∣◌⟩◌ (σ : Scope) (m : Mask) (M : Memory) : ℕ → Kind → Value → Memory → Type 0 where
  -- "writes exactly the active lanes of its target; in a context of length 1, all lanes"
  e_assign : {i : ℕ} {k : Kind} {v : Value} →
      (declared σ.table i).kind ≡ k →
      length v ≡ (declared σ.table i).lanes →
      Target (length m) (declared σ.table i).lanes →
      -----------------------------------------------------------
      σ ∣ m ∣ M ⊢ i ≔⟨ k ∣ v ⟩ update σ.table M i m v
  -- The same of a value of length 1: "its length or 1 (001, broadcast)".
  e_broadcast : {i a : ℕ} {k : Kind} →
      (declared σ.table i).kind ≡ k →
      Target (length m) (declared σ.table i).lanes →
      -------------------------------------------------------------------------------------------------------------
      σ ∣ m ∣ M ⊢ i ≔⟨ k ∣ a ∷ [] ⟩ update σ.table M i m (replicate (declared σ.table i).lanes a)

-- How a statement stands after some steps: it has ended, or a step at a place is still due; and the memory then.
pub data End : Type 0 where
  ended : Memory → End
  due : ℕ → Memory → End

-- "One step each": the statements that begin with a step, and its place.
pub data Costs : Stmt → ℕ → Type 0 where
  empty_costs : {p : ℕ} → Costs (empty p) p
  declare_costs : {p q : ℕ} {k : Kind} {b : Block} {x : Name} {v : _} → Costs (declare p k b q x v) p
  assign_costs : {p q : ℕ} {x : Name} {e : Expr} → Costs (assign p x q e) p
  if_costs : {p : ℕ} {e : Expr} {s t : Stmt} → Costs (if_else p e s t) p

infix 10 ◌∣◌∣◌⊢◌⇓◌after◌ ◌∣◌∣◌⊢◌↓◌after◌ ◌∣◌∣◌⊢*◌↓◌after◌
-- σ ∣ m ∣ M ⊢ s ↓ r after n: under the mask m, of which some lane is active, and from the memory M, after n steps s stands as r.
-- With ⊢*, a sequence of statements.
-- σ ∣ m ∣ M ⊢ s ⇓ r after n: the same of a branch, under any mask.
-- While σ p e s m₀ m M r n: the same of a loop that was entered under m₀, where the lanes m are left.
mutual
  pub data ◌∣◌∣◌⊢◌↓◌after◌ : Scope → Mask → Memory → Stmt → End → ℕ → Type 0 where
    e_skip : {σ : Scope} {m : Mask} {M : Memory} {p : ℕ} → σ ∣ m ∣ M ⊢ empty p ↓ ended M after 1
    -- "Braces and `scalar` cost none."
    e_scope : {σ : Scope} {m : Mask} {M : Memory} {p : ℕ} {l : Stmts} {r : End} {n : ℕ} →
        σ ∣ m ∣ M ⊢* l ↓ r after n →
        ------------------------------------
        σ ∣ m ∣ M ⊢ braces p l ↓ r after n
    -- "Declaring without a value leaves the bytes".
    e_decl : {σ : Scope} {m : Mask} {M : Memory} {p q : ℕ} {k : Kind} {b : Block} {x : Name} →
        σ ∣ m ∣ M ⊢ declare p k b q x none ↓ ended M after 1
    -- "An assignment, or an initial value": the number of the new variable is how many stand before it.
    e_init : {σ : Scope} {m : Mask} {M M' : Memory} {p q : ℕ} {k k' : Kind} {b : Block} {x : Name} {e : ℕ × Expr} {v : Value} →
        σ ∣ m ∣ M ⊢ e.1 ⇒⟨ k' ∣ v ⟩ →
        σ ∣ m ∣ M ⊢ σ.count ≔⟨ k' ∣ v ⟩ M' →
        ------------------------------------------------------------
        σ ∣ m ∣ M ⊢ declare p k b q x (some e) ↓ ended M' after 1
    e_store : {σ : Scope} {m : Mask} {M M' : Memory} {p q i : ℕ} {k : Kind} {x : Name} {e : Expr} {v : Value} →
        σ means x ≡ some i →
        σ ∣ m ∣ M ⊢ e ⇒⟨ k ∣ v ⟩ →
        σ ∣ m ∣ M ⊢ i ≔⟨ k ∣ v ⟩ M' →
        -----------------------------------------------
        σ ∣ m ∣ M ⊢ assign p x q e ↓ ended M' after 1
    -- "A vector condition m is evaluated once. The first branch runs under mask-and-m, the second under mask-and-not-m, in that
    -- order". "A scalar condition picks one branch and keeps the mask."
    e_if : {σ : Scope} {m : Mask} {M M₁ : Memory} {p : ℕ} {e : Expr} {c : Value} {s t : Stmt} {r : End} {n n' : ℕ} →
        σ ∣ m ∣ M ⊢ e ⇒⟨ bool ∣ c ⟩ →
        Match (length m) (length c) →
        σ ∣ m ∩ c ∣ M ⊢ s ⇓ ended M₁ after n →
        beyond (declarations s) σ ∣ m ∖ c ∣ M₁ ⊢ t ⇓ r after n' →
        --------------------------------------------------------
        σ ∣ m ∣ M ⊢ if_else p e s t ↓ r after suc (n + n')
    -- "current_mask in the condition is the mask at entry"
    e_while : {σ : Scope} {m : Mask} {M : Memory} {p : ℕ} {e : Expr} {s : Stmt} {r : End} {n : ℕ} →
        While σ p e s m m M r n →
        -----------------------------------
        σ ∣ m ∣ M ⊢ while p e s ↓ r after n
    -- "`scalar` runs its statement once with one true lane"
    e_scalar : {σ : Scope} {m : Mask} {M : Memory} {p : ℕ} {s : Stmt} {r : End} {n : ℕ} →
        σ ∣ true ∷ [] ∣ M ⊢ s ↓ r after n →
        -----------------------------------
        σ ∣ m ∣ M ⊢ scalar p s ↓ r after n
    -- "budget spent with a step still due": before a step, in the first branch.
    e_due : {σ : Scope} {m : Mask} {M : Memory} {p : ℕ} {s : Stmt} →
        Costs s p →
        --------------------------------
        σ ∣ m ∣ M ⊢ s ↓ due p M after 0
    e_if_due : {σ : Scope} {m : Mask} {M M₁ : Memory} {p q : ℕ} {e : Expr} {c : Value} {s t : Stmt} {n : ℕ} →
        σ ∣ m ∣ M ⊢ e ⇒⟨ bool ∣ c ⟩ →
        Match (length m) (length c) →
        σ ∣ m ∩ c ∣ M ⊢ s ⇓ due q M₁ after n →
        ---------------------------------------------------
        σ ∣ m ∣ M ⊢ if_else p e s t ↓ due q M₁ after suc n

  pub data ◌∣◌∣◌⊢*◌↓◌after◌ : Scope → Mask → Memory → Stmts → End → ℕ → Type 0 where
    e_none : {σ : Scope} {m : Mask} {M : Memory} → σ ∣ m ∣ M ⊢* none_yet ↓ ended M after 0
    e_sequence : {σ : Scope} {m : Mask} {M M₁ : Memory} {l : Stmts} {s : Stmt} {r : End} {n n' : ℕ} →
        σ ∣ m ∣ M ⊢* l ↓ ended M₁ after n →
        past_all l σ ∣ m ∣ M₁ ⊢ s ↓ r after n' →
        ------------------------------------------
        σ ∣ m ∣ M ⊢* l ⨾ s ↓ r after (n + n')
    e_sequence_due : {σ : Scope} {m : Mask} {M M₁ : Memory} {l : Stmts} {s : Stmt} {p n : ℕ} →
        σ ∣ m ∣ M ⊢* l ↓ due p M₁ after n →
        ------------------------------------------
        σ ∣ m ∣ M ⊢* l ⨾ s ↓ due p M₁ after n

  pub data ◌∣◌∣◌⊢◌⇓◌after◌ : Scope → Mask → Memory → Stmt → End → ℕ → Type 0 where
    -- 001: "a statement is only executed if the current mask is not entirely false". "A branch whose mask has no active lane is
    -- skipped."
    e_inactive : {σ : Scope} {m : Mask} {M : Memory} {s : Stmt} →
        some_lane m ≡ false →
        ---------------------------------
        σ ∣ m ∣ M ⊢ s ⇓ ended M after 0
    e_active : {σ : Scope} {m : Mask} {M : Memory} {s : Stmt} {r : End} {n : ℕ} →
        some_lane m ≡ true →
        σ ∣ m ∣ M ⊢ s ↓ r after n →
        ---------------------------
        σ ∣ m ∣ M ⊢ s ⇓ r after n

  -- 001: `while (e) s` is `if (e) { s while (e) s }`. "A `while` goes on while some lane is left; a lane that has left a loop stays
  -- out of it".
  pub data While : Scope → ℕ → Expr → Stmt → Mask → Mask → Memory → End → ℕ → Type 0 where
    e_leave : {σ : Scope} {p : ℕ} {e : Expr} {s : Stmt} {m₀ m : Mask} {M : Memory} {c : Value} →
        σ ∣ m₀ ∣ M ⊢ e ⇒⟨ bool ∣ c ⟩ →
        Match (length m) (length c) →
        some_lane (m ∩ c) ≡ false →
        ----------------------------------
        While σ p e s m₀ m M (ended M) 1
    e_again : {σ : Scope} {p : ℕ} {e : Expr} {s : Stmt} {m₀ m : Mask} {M M₁ : Memory} {c : Value} {r : End} {n n' : ℕ} →
        σ ∣ m₀ ∣ M ⊢ e ⇒⟨ bool ∣ c ⟩ →
        Match (length m) (length c) →
        some_lane (m ∩ c) ≡ true →
        σ ∣ m ∩ c ∣ M ⊢ s ↓ ended M₁ after n →
        While σ p e s m₀ (m ∩ c) M₁ r n' →
        ---------------------------------------
        While σ p e s m₀ m M r (suc (n + n'))
    -- "budget spent with a step still due": before a test, in the body.
    e_test_due : {σ : Scope} {p : ℕ} {e : Expr} {s : Stmt} {m₀ m : Mask} {M : Memory} → While σ p e s m₀ m M (due p M) 0
    e_body_due : {σ : Scope} {p : ℕ} {e : Expr} {s : Stmt} {m₀ m : Mask} {M M₁ : Memory} {c : Value} {q n : ℕ} →
        σ ∣ m₀ ∣ M ⊢ e ⇒⟨ bool ∣ c ⟩ →
        Match (length m) (length c) →
        some_lane (m ∩ c) ≡ true →
        σ ∣ m ∩ c ∣ M ⊢ s ↓ due q M₁ after n →
        ----------------------------------------
        While σ p e s m₀ m M (due q M₁) (suc n)

-- 001's soundness, of statements with a budget: they end by the rules, or by the rules a step is due when the budget is spent.
pub data NotStuck (σ : Scope) (m : Mask) (M : Memory) (l : Stmts) (budget : ℕ) : Type 0 where
  it_ends : {M' : Memory} {n : ℕ} → n ≤ budget → σ ∣ m ∣ M ⊢* l ↓ ended M' after n → NotStuck σ m M l budget
  it_spends : {p : ℕ} {M' : Memory} → σ ∣ m ∣ M ⊢* l ↓ due p M' after budget → NotStuck σ m M l budget
