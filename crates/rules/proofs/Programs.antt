-- A program for every tree, typed or not, that derives what the tree derives: through it the rules are deterministic.
use Prim.Native.Nat.{ℕ}
use mathlib.Core.Path.{◌≡◌, refl, ap, sym, ◌∙◌}
use mathlib.Core.Bool.{true}
use mathlib.Core.Option.{none, some}
use Rattle.meaning.specs.declared.Kind.{Kind}
use Rattle.meaning.specs.declared.Kind.TheVariants.{Int as int, Bool as bool, Float as float}
use Rattle.meaning.specs.Codes.{option}
use Rattle.meaning.specs.Tree.{Name, table, Expr, number, float_number, boolean, name, current_mask, unary, binary, Stmt, empty, braces, declare, assign, if_else, while, scalar, Stmts, none_yet, ◌⨾◌}
use Rattle.meaning.specs.Program.{Code, constant, variable, the_mask, one, two, Program, nothing, step, put, both, choice, cycle, alone}
use Rattle.meaning.specs.Memory.{Memory, Value, Mask, declared, bit}
use Rattle.meaning.specs.Running.{some_lane}
use Rattle.meaning.specs.Typing.{gives_kind}
use Rattle.rules.specs.Scopes.{Scope, ◌means◌, opened, beyond, past, past_all, declarations}
use Rattle.rules.specs.Evaluation.{◌∣◌∣◌⊢◌⇒⟨◌∣◌⟩, ◌∣◌∣◌⊢◌≔⟨◌∣◌⟩◌, e_assign, e_broadcast, e_number, e_float, e_boolean, e_var, e_mask, e_unary, e_binary, End, ended, Costs, empty_costs, declare_costs, assign_costs, if_costs, ◌∣◌∣◌⊢*◌↓◌after◌, e_skip, e_scope, e_decl, e_init, e_store, e_if, e_while, e_scalar, e_due, e_if_due, e_none, e_sequence, e_sequence_due, e_inactive, e_active, e_leave, e_again, e_test_due, e_body_due}
use Rattle.rules.proofs.Operators.{in_table}
use Rattle.rules.proofs.Resolved.{◌∣◌∣◌▹◌⇒◌, r_const, r_var, r_mask, r_unary, r_binary, Costly, step_costs, put_costs, choice_costs, ◌∣◌∣◌▹◌⇓◌after◌, r_inactive, r_active, ◌∣◌∣◌▹◌↓◌after◌, r_nothing, r_decl, r_assign, r_broadcast, r_sequence, r_if, r_while, r_scalar, r_due, r_sequence_due, r_if_due, Loop, r_leave, r_again, r_test_due, r_body_due}

-- The number of a name, 0 where it is not open; the kind and the code of an expression.
unfoldable pub number_of : Scope → Name → ℕ
number_of σ x = option 0 (λ i. i) (σ means x)

unfoldable pub kind : Scope → Expr → Kind
kind σ (number n) = int
kind σ (float_number n) = float
kind σ (boolean b) = bool
kind σ (name p x) = (declared σ.table (number_of σ x)).kind
kind σ current_mask = bool
kind σ (unary p o e) = kind σ e
kind σ (binary p o e e') = gives_kind (table o).2 (kind σ e)

unfoldable pub code : Scope → Expr → Code
code σ (number n) = constant n
code σ (float_number n) = constant n
code σ (boolean b) = constant (bit b)
code σ (name p x) = variable (number_of σ x)
code σ current_mask = the_mask
code σ (unary p o e) = one p (kind σ e) o (code σ e)
code σ (binary p o e e') = two p (kind σ e) o (code σ e) (code σ e')

-- The program of a statement, and of a sequence.
unfoldable mutual
  pub program : Stmt → Scope → Program
  program (empty p) σ = step p
  program (braces p l) σ = programs l σ
  program (declare p k b q x v) σ = option (step p) (λ i. put p σ.count (code σ i.1)) v
  program (assign p x q e) σ = put p (number_of σ x) (code σ e)
  program (if_else p e s t) σ = choice p (code σ e) (program s σ) (program t (beyond (declarations s) σ))
  program (while p e s) σ = cycle p (code σ e) (program s σ)
  program (scalar p s) σ = alone (program s σ)

  pub programs : Stmts → Scope → Program
  programs none_yet σ = nothing
  programs (l ⨾ s) σ = both (programs l σ) (program s (past_all l σ))

-- One table for all.
past-table : (s : Stmt) (σ : Scope) → (past s σ).table ≡ σ.table
unfolding past opened beyond
past-table (empty p) σ = refl
past-table (braces p l) σ = refl
past-table (declare p k b q x v) σ = refl
past-table (assign p x q e) σ = refl
past-table (if_else p e s t) σ = refl
past-table (while p e s) σ = refl
past-table (scalar p s) σ = refl

pub past_all-table : (l : Stmts) (σ : Scope) → (past_all l σ).table ≡ σ.table
unfolding past_all
past_all-table none_yet σ = refl
past_all-table (l ⨾ s) σ = past-table s (past_all l σ) ∙ past_all-table l σ

pub the_number : {i : ℕ} (σ : Scope) (x : Name) → σ means x ≡ some i → number_of σ x ≡ i
unfolding number_of
the_number σ x h = rw h

pub to_code : {σ : Scope} {m : Mask} {M : Memory} {e : Expr} {k : Kind} {v : Value} → σ ∣ m ∣ M ⊢ e ⇒⟨ k ∣ v ⟩ →
    (k ≡ kind σ e) × (σ.table ∣ m ∣ M ▹ code σ e ⇒ v)
unfolding kind code
to_code e_number = (refl, r_const)
to_code e_float = (refl, r_const)
to_code e_boolean = (refl, r_const)
to_code {σ} (e_var {x = x} h f) =
    (ap (λ i. (declared σ.table i).kind) (sym (the_number σ x h)), rw (the_number σ x h) (r_var f))
to_code e_mask = (refl, r_mask)
to_code (e_unary u d) = let t = to_code d in (t.0, rw (← t.0) (r_unary t.1))
to_code (e_binary u d d' f) = let t = to_code d in (sym (in_table u).1 ∙ ap (gives_kind _) t.0, rw (← t.0) (r_binary t.1 (to_code d').1 f))

-- A store into the variable i.
to_put : {σ : Scope} {m : Mask} {M : Memory} {p i : ℕ} {c : Code} {k : Kind} {v : Value} {M' : Memory} → σ.table ∣ m ∣ M ▹ c ⇒ v →
    σ ∣ m ∣ M ⊢ i ≔⟨ k ∣ v ⟩ M' → σ.table ∣ m ∣ M ▹ put p i c ↓ ended M' after 1
to_put d (e_assign e l t) = r_assign d l t
to_put d (e_broadcast e t) = r_broadcast d t

costs : {s : Stmt} {p : ℕ} (σ : Scope) → Costs s p → Costly (program s σ) p
unfolding program
costs σ empty_costs = step_costs
costs σ (declare_costs {v = none}) = step_costs
costs σ (declare_costs {v = some v}) = put_costs
costs σ assign_costs = put_costs
costs σ if_costs = choice_costs

-- What a tree derives, its program derives.
pub to_programs : {σ : Scope} {m : Mask} {M : Memory} {l : Stmts} {r : End} {n : ℕ} → σ ∣ m ∣ M ⊢* l ↓ r after n →
    some_lane m ≡ true →
    σ.table ∣ m ∣ M ▹ programs l σ ↓ r after n
unfolding program beyond some_lane past_all
to_programs d = elim d as
    (λ σ m M s r n d. some_lane m ≡ true → σ.table ∣ m ∣ M ▹ program s σ ↓ r after n)
    (λ σ m M l r n d. some_lane m ≡ true → σ.table ∣ m ∣ M ▹ programs l σ ↓ r after n)
    (λ σ m M s r n d. σ.table ∣ m ∣ M ▹ program s σ ⇓ r after n)
    (λ σ p e s m₀ m M r n d. Loop σ.table p (code σ e) (program s σ) m₀ m M r n) [
      | e_skip ↦ λ a. r_decl
      | e_scope (d → k) ↦ k
      | e_decl ↦ λ a. r_decl
      | e_init d u ↦ λ a. to_put (to_code d).1 u
      | e_store {σ = σ} {x = x} h d u ↦ λ a. rw (the_number σ x h) (to_put (to_code d).1 u)
      | e_if d f (b → k) (b' → k') ↦ λ a. r_if (to_code d).1 f k k'
      | e_while (w → k) ↦ λ a. r_while k
      | e_scalar (d → k) ↦ λ a. r_scalar (r_active refl (k refl))
      | e_due {σ = σ} c ↦ λ a. r_due (costs σ c)
      | e_if_due d f (b → k) ↦ λ a. r_if_due (to_code d).1 f k
      | e_none ↦ λ a. r_nothing
      | e_sequence {σ = σ} {l = l} (d → k) (d' → k') ↦ λ a.
          r_sequence (r_active a (k a)) (r_active a (rw (past_all-table l σ) at (k' a)))
      | e_sequence_due (d → k) ↦ λ a. r_sequence_due (r_active a (k a))
      | e_inactive h ↦ r_inactive h
      | e_active h (d → k) ↦ r_active h (k h)
      | e_leave d f h ↦ r_leave (to_code d).1 f h
      | e_again d f h (b → k) (w → k') ↦ r_again (to_code d).1 f h (r_active h (k h)) k'
      | e_test_due ↦ r_test_due
      | e_body_due d f h (b → k) ↦ r_body_due (to_code d).1 f h (r_active h (k h))
    ]
