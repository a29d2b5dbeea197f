-- Both relations are deterministic: an expression has one type and one value, a statement leaves one set of names, one memory and
-- one number of steps.
use Prim.Native.Nat.{ℕ}
use mathlib.Core.Path.{◌≡◌, refl, ap, ap₂, sym, ◌∙◌}
use mathlib.Core.Bool.{true}
use mathlib.Core.Option.{Option, some}
use native.Mathlib.Nat.{add_comm}
use Rattle.meaning.specs.declared.Kind.{Kind}
use Rattle.meaning.specs.Tree.{Expr, Stmt, Stmts}
use Rattle.meaning.specs.Typing.{joined, gives_kind}
use Rattle.meaning.specs.Memory.{Memory, Value, Mask}
use Rattle.meaning.specs.Running.{some_lane}
use Rattle.rules.specs.Typing.{Names, ◌∣◌⊢◌∶⟨◌∣◌⟩, t_number, t_float, t_boolean, t_var, t_mask, t_unary, t_binary, ◌∣◌⊢◌⊣◌, t_skip, t_scope, t_decl, t_init, t_assign, t_broadcast, t_if, t_while, t_scalar, ◌∣◌⊢*◌⊣◌, t_none, t_sequence}
use Rattle.rules.specs.Scopes.{Scope}
use Rattle.rules.specs.Evaluation.{◌∣◌∣◌⊢◌⇒⟨◌∣◌⟩, ◌∣◌∣◌⊢*◌↓◌after◌, End, ended, due}
use Rattle.rules.proofs.Operators.{in_table}
use Rattle.rules.proofs.Resolved.{r_active}
use Rattle.rules.proofs.Programs.{to_code, programs, to_programs}
use Rattle.rules.proofs.Derived.{has_value, Runs, as_run, answers, Left}

one_entry : {o : Option (Kind × ℕ)} {t t' : Kind × ℕ} → o ≡ some t → o ≡ some t' → t ≡ t'
one_entry e e' = cc

-- Types.
pub one_type : {Γ : Names} {C n n' : ℕ} {e : Expr} {k k' : Kind} → Γ ∣ C ⊢ e ∶⟨ k ∣ n ⟩ → Γ ∣ C ⊢ e ∶⟨ k' ∣ n' ⟩ →
    (k ≡ k') × (n ≡ n')
one_type t_number t_number = (refl, refl)
one_type t_float t_float = (refl, refl)
one_type t_boolean t_boolean = (refl, refl)
one_type (t_var e m) (t_var e' m') = let same = one_entry e e' in (ap (λ t. t.0) same, ap (λ t. t.1) same)
one_type t_mask t_mask = (refl, refl)
one_type (t_unary t d) (t_unary t' d') = one_type d d'
one_type (t_binary t a b m) (t_binary t' a' b' m') =
    (sym (in_table t).1 ∙ ap (gives_kind _) (one_type a a').0 ∙ (in_table t').1, ap₂ joined (one_type a a').1 (one_type b b').1)

-- Names.
pub one_names : {Γ Γ₁ Γ₂ : Names} {C : ℕ} {s : Stmt} → Γ ∣ C ⊢ s ⊣ Γ₁ → Γ ∣ C ⊢ s ⊣ Γ₂ → Γ₁ ≡ Γ₂
one_names t_skip t_skip = refl
one_names (t_scope d) (t_scope d') = refl
one_names (t_decl g m e) (t_decl g' m' e') = refl
one_names (t_init g d f t e) (t_init g' d' f' t' e') = rw (one_type d d').1
one_names (t_assign h d t) (t_assign h' d' t') = refl
one_names (t_assign h d t) (t_broadcast h' d' t') = refl
one_names (t_broadcast h d t) (t_assign h' d' t') = refl
one_names (t_broadcast h d t) (t_broadcast h' d' t') = refl
one_names (t_if d m a b) (t_if d' m' a' b') = refl
one_names (t_while d m a) (t_while d' m' a') = refl
one_names (t_scalar a) (t_scalar a') = refl

pub one_names_after : {Γ Γ₁ Γ₂ : Names} {C : ℕ} {l : Stmts} → Γ ∣ C ⊢* l ⊣ Γ₁ → Γ ∣ C ⊢* l ⊣ Γ₂ → Γ₁ ≡ Γ₂
one_names_after t_none t_none = refl
one_names_after (t_sequence a b) (t_sequence a' b') = one_names b (rw (← one_names_after a a') at b')

-- Values.
pub one_value : {σ : Scope} {m : Mask} {M : Memory} {e : Expr} {k k' : Kind} {v v' : Value} → σ ∣ m ∣ M ⊢ e ⇒⟨ k ∣ v ⟩ →
    σ ∣ m ∣ M ⊢ e ⇒⟨ k' ∣ v' ⟩ → (k ≡ k') × (v ≡ v')
one_value {σ} d d' =
    let t = to_code d in
    let t' = to_code d' in
    (t.0 ∙ sym t'.0, sym (has_value σ.table t.1) ∙ has_value σ.table t'.1)

-- Where a step is due, none of the budget is left.
none_left : (r : End) → Left r 0
unfolding Left
none_left (ended M) = tt
none_left (due p M) = refl

same_answers : (r r' : End) → answers r 0 ≡ answers r' 0 → r ≡ r'
unfolding answers
same_answers (ended M) (ended M') e = cc
same_answers (ended M) (due p M') e = cc
same_answers (due p M) (ended M') e = cc
same_answers (due p M) (due p' M') e = cc

-- Statements under a mask with an active lane.
module _ {σ : Scope} {m : Mask} {M : Memory} {l : Stmts} where
  as_program : {r : End} {n : ℕ} → some_lane m ≡ true → σ ∣ m ∣ M ⊢* l ↓ r after n → Runs σ.table m M (programs l σ) r n
  as_program active d = as_run σ.table (r_active active (to_programs d active))

  -- One memory, and one number of steps.
  pub one_end : {M₁ M₂ : Memory} {n n' : ℕ} → some_lane m ≡ true → σ ∣ m ∣ M ⊢* l ↓ ended M₁ after n →
      σ ∣ m ∣ M ⊢* l ↓ ended M₂ after n' → (M₁ ≡ M₂) × (n ≡ n')
  unfolding answers Left
  one_end {n} {n'} a d d' =
      let x = (as_program a d).is n' tt in
      let y = rw (add_comm n' n) at ((as_program a d').is n tt) in
      (cc, cc)

  -- And one state after any number of steps.
  pub one_state : {r r' : End} {n : ℕ} → some_lane m ≡ true → σ ∣ m ∣ M ⊢* l ↓ r after n → σ ∣ m ∣ M ⊢* l ↓ r' after n → r ≡ r'
  one_state {r} {r'} a d d' = same_answers r r' (sym ((as_program a d).is 0 (none_left r)) ∙ (as_program a d').is 0 (none_left r'))
