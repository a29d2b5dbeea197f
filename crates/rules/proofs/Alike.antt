-- What the rules derive over a table they derive over every table of the same variables: which scopes are open does not matter.
use Prim.Native.Nat.{ℕ}
use mathlib.Core.Path.{◌≡◌, refl, ap, sym, ◌∙◌}
use mathlib.Core.List.{[], ◌∷◌}
use lib.ListN.{drop}
use Rattle.meaning.specs.declared.Kind.{Kind}
use Rattle.meaning.specs.Tree.{Expr, Stmt, empty, braces, declare, assign, if_else, while, scalar, Stmts, none_yet, ◌⨾◌}
use Rattle.meaning.specs.Memory.{Memory, Value, Mask, Declared, Declarations, declared, fetch, update, load}
use Rattle.meaning.specs.Typing.{shut}
use Rattle.laws.specs.Declarations.{Alike, none_yet as none_alike, both_more}
use Rattle.laws.proofs.Declarations.{alike_declared}
use Rattle.rules.specs.Scopes.{Scope, ◌means◌, start, opened, beyond, past, past_all}
use Rattle.rules.specs.Evaluation.{◌∣◌∣◌⊢◌⇒⟨◌∣◌⟩, e_number, e_float, e_boolean, e_var, e_mask, e_unary, e_binary, ◌∣◌∣◌⊢◌≔⟨◌∣◌⟩◌, e_assign, e_broadcast, End, ◌∣◌∣◌⊢◌⇓◌after◌, ◌∣◌∣◌⊢◌↓◌after◌, ◌∣◌∣◌⊢*◌↓◌after◌, e_skip, e_scope, e_decl, e_init, e_store, e_if, e_while, e_scalar, e_due, e_if_due, e_none, e_sequence, e_sequence_due, e_inactive, e_active, While, e_leave, e_again, e_test_due, e_body_due}
use Rattle.rules.proofs.Programs.{past_all-table}

pub alike_back : {Γ Δ : Declarations} → Alike Γ Δ → Alike Δ Γ
alike_back none_alike = none_alike
alike_back (both_more s a) = both_more (sym s) (alike_back a)

pub alike_then : {Γ Δ Θ : Declarations} → Alike Γ Δ → Alike Δ Θ → Alike Γ Θ
alike_then none_alike none_alike = none_alike
alike_then (both_more s a) (both_more t b) = both_more (t ∙ s) (alike_then a b)

-- What the rules ask of a variable.
module _ {Γ Δ : Declarations} (a : Alike Γ Δ) where
  same_kind : (i : ℕ) → (declared Δ i).kind ≡ (declared Γ i).kind
  unfolding shut
  same_kind i = ap (λ (d : Declared). d.kind) (alike_declared i a)

  same_lanes : (i : ℕ) → (declared Δ i).lanes ≡ (declared Γ i).lanes
  unfolding shut
  same_lanes i = ap (λ (d : Declared). d.lanes) (alike_declared i a)

  same_fetch : (M : Memory) (i : ℕ) → fetch Δ M i ≡ fetch Γ M i
  unfolding shut fetch
  same_fetch M i = ap (λ (d : Declared). load d.kind d.lanes (drop d.address M)) (alike_declared i a)

  same_update : (M : Memory) (i : ℕ) (m : Mask) (v : Value) → update Δ M i m v ≡ update Γ M i m v
  unfolding shut update
  same_update M i m v = ap (λ (d : Declared). update (d ∷ []) M 0 m v) (alike_declared i a)

-- The same scope over the table Δ.
module _ (Δ : Declarations) where
  unfoldable pub over : Scope → Scope
  over σ = record { names = σ.names; count = σ.count; table = Δ }

  past_over : (s : Stmt) (σ : Scope) → past s (over σ) ≡ over (past s σ)
  unfolding over past opened beyond
  past_over (empty p) σ = refl
  past_over (braces p l) σ = refl
  past_over (declare p k b q x v) σ = refl
  past_over (assign p x q e) σ = refl
  past_over (if_else p e s t) σ = refl
  past_over (while p e s) σ = refl
  past_over (scalar p s) σ = refl

  past_all_over : (l : Stmts) (σ : Scope) → past_all l (over σ) ≡ over (past_all l σ)
  unfolding past_all
  past_all_over none_yet σ = refl
  past_all_over (l ⨾ s) σ = ap (past s) (past_all_over l σ) ∙ past_over s (past_all l σ)

  value_over : {σ : Scope} {m : Mask} {M : Memory} {e : Expr} {k : Kind} {v : Value} → Alike σ.table Δ →
      σ ∣ m ∣ M ⊢ e ⇒⟨ k ∣ v ⟩ → over σ ∣ m ∣ M ⊢ e ⇒⟨ k ∣ v ⟩
  unfolding over ◌means◌
  value_over a e_number = e_number
  value_over a e_float = e_float
  value_over a e_boolean = e_boolean
  value_over {M} a (e_var {i = i} h f) =
      rw (← same_kind a i, ← same_fetch a M i) (e_var h (rw (same_lanes a i) f))
  value_over a e_mask = e_mask
  value_over a (e_unary t d) = e_unary t (value_over a d)
  value_over a (e_binary t d d' f) = e_binary t (value_over a d) (value_over a d') f

  store_over : {σ : Scope} {m : Mask} {M : Memory} {i : ℕ} {k : Kind} {v : Value} {M' : Memory} → Alike σ.table Δ →
      σ ∣ m ∣ M ⊢ i ≔⟨ k ∣ v ⟩ M' → over σ ∣ m ∣ M ⊢ i ≔⟨ k ∣ v ⟩ M'
  unfolding over
  store_over {m} {M} a (e_assign {i = i} {v = v} h l t) =
      rw (← same_update a M i m v)
      (e_assign (same_kind a i ∙ h) (l ∙ sym (same_lanes a i)) (rw (same_lanes a i) t))
  store_over {m} {M} a (e_broadcast {i = i} {a = x} h t) =
      rw (← same_update a M i m _, ← same_lanes a i)
      (e_broadcast (same_kind a i ∙ h) (rw (same_lanes a i) t))

  pub derives_over : {σ : Scope} {m : Mask} {M : Memory} {l : Stmts} {r : End} {n : ℕ} → σ ∣ m ∣ M ⊢* l ↓ r after n →
      Alike σ.table Δ → over σ ∣ m ∣ M ⊢* l ↓ r after n
  unfolding over beyond ◌means◌
  derives_over d = elim d as
      (λ σ m M s r n d. Alike σ.table Δ → over σ ∣ m ∣ M ⊢ s ↓ r after n)
      (λ σ m M l r n d. Alike σ.table Δ → over σ ∣ m ∣ M ⊢* l ↓ r after n)
      (λ σ m M s r n d. Alike σ.table Δ → over σ ∣ m ∣ M ⊢ s ⇓ r after n)
      (λ σ p e s m₀ m M r n d. Alike σ.table Δ → While (over σ) p e s m₀ m M r n) [
        | e_skip ↦ λ a. e_skip
        | e_scope (d → k) ↦ λ a. e_scope (k a)
        | e_decl ↦ λ a. e_decl
        | e_init d u ↦ λ a. e_init (value_over a d) (store_over a u)
        | e_store h d u ↦ λ a. e_store h (value_over a d) (store_over a u)
        | e_if d f (b → k) (b' → k') ↦ λ a. e_if (value_over a d) f (k a) (k' a)
        | e_while (w → k) ↦ λ a. e_while (k a)
        | e_scalar (d → k) ↦ λ a. e_scalar (k a)
        | e_due c ↦ λ a. e_due c
        | e_if_due d f (b → k) ↦ λ a. e_if_due (value_over a d) f (k a)
        | e_none ↦ λ a. e_none
        | e_sequence {σ = σ} {l = l} (d → k) (d' → k') ↦ λ a.
            e_sequence (k a) (rw (← past_all_over l σ) at (k' (rw (past_all-table l σ) a)))
        | e_sequence_due (d → k) ↦ λ a. e_sequence_due (k a)
        | e_inactive h ↦ λ a. e_inactive h
        | e_active h (d → k) ↦ λ a. e_active h (k a)
        | e_leave d f h ↦ λ a. e_leave (value_over a d) f h
        | e_again d f h (b → k) (w → k') ↦ λ a. e_again (value_over a d) f h (k a) (k' a)
        | e_test_due ↦ λ a. e_test_due
        | e_body_due d f h (b → k) ↦ λ a. e_body_due (value_over a d) f h (k a)
      ]

-- From the start.
pub same_derived : {Γ Δ : Declarations} {m : Mask} {M : Memory} {l : Stmts} {r : End} {n : ℕ} → Alike Γ Δ →
    start Γ ∣ m ∣ M ⊢* l ↓ r after n → start Δ ∣ m ∣ M ⊢* l ↓ r after n
unfolding start over
same_derived {Δ} a d = derives_over Δ d a
