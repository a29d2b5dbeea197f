-- What typing makes of a tree derives what the tree derives, in the scope that the declarations before it make.
use Prim.Native.Nat.{ℕ, ◌+◌}
use mathlib.Core.Path.{◌≡◌, refl, ap, sym, ◌∙◌}
use mathlib.Core.List.{[]}
use mathlib.Core.Option.{Option, none, some}
use native.Mathlib.Nat.{add_assoc}
use Rattle.meaning.specs.declared.Kind.{Kind}
use Rattle.meaning.specs.declared.Kind.TheVariants.{Bool as bool}
use Rattle.meaning.specs.declared.Refusal.TheVariants.{WrongKind, WrongLength}
use Rattle.meaning.specs.Codes.{ok}
use Rattle.meaning.specs.Tree.{Name, same_kind, ◌one_of◌, table, unary_table, Expr, number, float_number, boolean, name, current_mask, unary, binary, Block, Stmt, empty, braces, declare, assign, if_else, while, scalar, Stmts, none_yet, ◌⨾◌}
use Rattle.meaning.specs.Program.{Program}
use Rattle.meaning.specs.Memory.{Declarations}
use Rattle.meaning.specs.Typing.{Typed, accepts, match, typed, typed_condition, lanes_or, typed_declaration, with_one, scope, typed_statement, typed_statements, joined}
use Rattle.rules.specs.Scopes.{Scope, start, beyond, past, past_all, declarations}
use Rattle.laws.specs.Outcomes.{well, Yields, Still}
use Rattle.laws.proofs.Outcomes.{followed, keeping, passed, also, said}
use Rattle.laws.proofs.Typing.{same_kind_is}
use Rattle.rules.proofs.Typed.{names, stores, names_one, one_declared, listed, stated_by_rules, sequence_by_rules}
use Rattle.rules.proofs.Operators.{by_unary_table, by_test}
use Rattle.rules.proofs.Tables.{◌≼◌, same_shape, itself, before, declared_before, before_scope, inside_scope, new_shape}
use Rattle.rules.proofs.Numbers.{numbers, scope_of, means_found, behind_scope, behind_declaration}
use Rattle.rules.proofs.Resolution.{SameValue, Same, SameAll, same_number, same_float, same_boolean, same_name, same_mask, same_unary, same_binary, same_skip, same_declaration, same_init, same_assignment, same_braces, same_if, same_while, same_scalar, same_none, same_sequence}

-- An expression.
abbrev ResolvedValue : Expr → Declarations → Typed → Type 0
ResolvedValue e Γ a = (Γ* : Declarations) → Γ ≼ Γ* → SameValue (scope_of Γ* Γ) e a.code a.kind

value_resolved : (C : ℕ) (e : Expr) (Γ : Declarations) → Yields (Still Γ (ResolvedValue e Γ)) (typed C e Γ)
unfolding typed scope_of
value_resolved C (number n) Γ = well (refl, λ Γ* q. same_number)
value_resolved C (float_number n) Γ = well (refl, λ Γ* q. same_float)
value_resolved C (boolean b) Γ = well (refl, λ Γ* q. same_boolean)
value_resolved C (name p x) Γ =
    keeping _ (names C p x Γ) (λ v h.
    well (
      refl,
      λ Γ* q.
          same_name (means_found Γ* x Γ ∙ h.found) (ap (λ t. t.0) (same_shape q v.0 h.known) ∙ (rw h.is)),
    ))
value_resolved C current_mask Γ = well (refl, λ Γ* q. same_mask)
value_resolved C (unary p o e) Γ =
    keeping _ (value_resolved C e Γ) (λ a h.
    passed (a.kind one_of (unary_table o).1) WrongKind p Γ _ tt (λ t.
    well (refl, λ Γ* q. same_unary (by_unary_table o a.kind t) (h Γ* q))))
value_resolved C (binary p o e e') Γ =
    keeping _ (value_resolved C e Γ) (λ a h.
    keeping _ (value_resolved C e' Γ) (λ b h'.
    passed (accepts (table o).1 a.kind b.kind) WrongKind p Γ _ tt (λ t.
    passed (match a.lanes b.lanes) WrongLength p Γ _ tt (λ t'.
    let kinds = by_test o a.kind b.kind t in
    well (refl, λ Γ* q. same_binary kinds.1 (h Γ* q) (rw kinds.0 at (h' Γ* q)))))))

condition_resolved : (C p : ℕ) (e : Expr) (Γ : Declarations) →
    Yields (Still Γ (λ a. (Γ* : Declarations) → Γ ≼ Γ* → SameValue (scope_of Γ* Γ) e a.code bool)) (typed_condition C p e Γ)
unfolding typed_condition
condition_resolved C p e Γ =
    keeping _ (value_resolved C e Γ) (λ a h.
    passed (same_kind a.kind bool) WrongKind p Γ _ tt (λ t.
    well (refl, λ Γ* q. rw (same_kind_is a.kind bool t) at (h Γ* q))))

-- A statement, or a sequence: the scope behind it, and that it derives the same.
record Resolves (s : Stmt) (Γ : Declarations) (P : Program) (Γ' : Declarations) : Type 0 where
  leaves : (Γ* : Declarations) → scope_of Γ* Γ' ≡ past s (scope_of Γ* Γ)
  same : (Γ* : Declarations) → Γ' ≼ Γ* → Same (scope_of Γ* Γ) s P

record ResolvesAll (l : Stmts) (Γ : Declarations) (P : Program) (Γ' : Declarations) : Type 0 where
  leaves : (Γ* : Declarations) → scope_of Γ* Γ' ≡ past_all l (scope_of Γ* Γ)
  same : (Γ* : Declarations) → Γ' ≼ Γ* → SameAll (scope_of Γ* Γ) l P

-- A branch or a body.
record ResolvesBranch (s : Stmt) (Γ : Declarations) (P : Program) (Γ' : Declarations) : Type 0 where
  keeps : Γ ≼ Γ'
  leaves : (Γ* : Declarations) → scope_of Γ* Γ' ≡ beyond (declarations s) (scope_of Γ* Γ)
  same : (Γ* : Declarations) → Γ' ≼ Γ* → Same (scope_of Γ* Γ) s P

branch_resolved : (s : Stmt) (C : ℕ) (Γ : Declarations) → Yields (Resolves s Γ) (typed_statement C s Γ) →
    Yields (ResolvesBranch s Γ) (scope (typed_statement C s) Γ)
unfolding scope
branch_resolved s C Γ y = followed _ (also y (stated_by_rules s C Γ)) (λ P Γ' h.
    let d = h.1.declares in
    well (record {
      keeps = before_scope d;
      leaves = λ Γ*. behind_scope Γ* d;
      same = λ Γ* q. h.0.same Γ* (inside_scope d Γ* q);
    }))

declaration_resolved : (C p : ℕ) (k : Kind) (b : Block) (q : ℕ) (x : Name) (v : Option (ℕ × Expr)) (Γ : Declarations) →
    Yields (Resolves (declare p k b q x v) Γ) (typed_declaration C p k b q x v Γ)
unfolding typed_declaration past scope_of
declaration_resolved C p k b q x none Γ =
    keeping _ (listed b Γ) (λ _ good.
    followed _ (names_one C k (lanes_or 1 b) q x Γ) (λ i Γ' h.
    well (record {
      leaves = λ Γ*. rw h.after (behind_declaration Γ* k (lanes_or 1 b) q x Γ);
      same = λ Γ* u. same_declaration;
    })))
declaration_resolved C p k b q x (some v) Γ =
    keeping _ (listed b Γ) (λ _ good.
    keeping _ (value_resolved C v.1 Γ) (λ a w.
    let n = lanes_or a.lanes b in
    keeping _ (stores C v.0 k n a Γ) (λ _ s.
    followed _ (names_one C k n q x Γ) (λ i Γ' h.
    well (record {
      leaves = λ Γ*. rw h.after (behind_declaration Γ* k n q x Γ);
      same = λ Γ* u.
          let all : with_one k n q x Γ ≼ Γ* = rw h.after at u in
          let old = before (declared_before (one_declared k n q x Γ h.room)) all in
          rw h.number (same_init (w Γ* old) (ap (λ t. t.0) (new_shape k n q x Γ Γ* all) ∙ sym s.kind));
    })))))

-- To leave a scope twice.
beyond-beyond : (a b : ℕ) (σ : Scope) → beyond b (beyond a σ) ≡ beyond (a + b) σ
unfolding beyond
beyond-beyond a b σ = rw add_assoc

mutual
  unfolding typed_statement scope past past_all scope_of

  statement_resolved : (s : Stmt) (C : ℕ) (Γ : Declarations) → Yields (Resolves s Γ) (typed_statement C s Γ)
  statement_resolved (empty p) C Γ = well (record { leaves = λ Γ*. refl; same = λ Γ* q. same_skip })
  statement_resolved (braces p l) C Γ =
      followed _ (also (sequence_resolved l C Γ) (sequence_by_rules l C Γ)) (λ P Γ' h.
      let d = h.1.declares in
      well (record {
        leaves = λ Γ*. behind_scope Γ* d;
        same = λ Γ* q. same_braces (h.0.same Γ* (inside_scope d Γ* q));
      }))
  statement_resolved (declare p k b q x v) C Γ = declaration_resolved C p k b q x v Γ
  statement_resolved (assign p x q e) C Γ =
      keeping _ (names C p x Γ) (λ v h.
      keeping _ (value_resolved C e Γ) (λ a w.
      keeping _ (stores C q v.1.kind v.1.lanes a Γ) (λ _ s.
      well (record {
        leaves = λ Γ*. refl;
        same = λ Γ* u.
            let kind = ap (λ t. t.0) (same_shape u v.0 h.known) ∙ (ap (λ d. d.kind) (sym h.is) ∙ sym s.kind) in
            same_assignment (means_found Γ* x Γ ∙ h.found) (w Γ* u) kind;
      }))))
  statement_resolved (if_else p e s t) C Γ =
      keeping _ (condition_resolved C p e Γ) (λ a w.
      let C' = joined a.lanes C in
      followed _ (branch_resolved s C' Γ (statement_resolved s C' Γ)) (λ P Γ₁ h.
      followed _ (branch_resolved t C' Γ₁ (statement_resolved t C' Γ₁)) (λ P' Γ₂ h'.
      well (record {
        leaves = λ Γ*. h'.leaves Γ* ∙ (rw (h.leaves Γ*) (beyond-beyond (declarations s) (declarations t) _));
        same = λ Γ* q.
            let q₁ = before h'.keeps q in
            same_if (w Γ* (before h.keeps q₁)) (h.same Γ* q₁) (rw (h.leaves Γ*) at (h'.same Γ* q));
      }))))
  statement_resolved (while p e s) C Γ =
      keeping _ (condition_resolved C p e Γ) (λ a w.
      let C' = joined a.lanes C in
      followed _ (branch_resolved s C' Γ (statement_resolved s C' Γ)) (λ P Γ₁ h.
      well (record {
        leaves = h.leaves;
        same = λ Γ* q. same_while (w Γ* (before h.keeps q)) (h.same Γ* q);
      })))
  statement_resolved (scalar p s) C Γ =
      followed _ (branch_resolved s 1 Γ (statement_resolved s 1 Γ)) (λ P Γ₁ h.
      well (record { leaves = h.leaves; same = λ Γ* q. same_scalar (h.same Γ* q) }))

  sequence_resolved : (l : Stmts) (C : ℕ) (Γ : Declarations) → Yields (ResolvesAll l Γ) (typed_statements C l Γ)
  sequence_resolved none_yet C Γ = well (record { leaves = λ Γ*. refl; same = λ Γ* q. same_none })
  sequence_resolved (l ⨾ s) C Γ =
      followed _ (sequence_resolved l C Γ) (λ P Γ₁ h.
      followed _ (also (statement_resolved s C Γ₁) (stated_by_rules s C Γ₁)) (λ P' Γ₂ h'.
      well (record {
        leaves = λ Γ*. h'.0.leaves Γ* ∙ (rw (h.leaves Γ*));
        same = λ Γ* q.
            let q₁ = before (declared_before h'.1.declares) q in
            same_sequence (h.same Γ* q₁) (rw (h.leaves Γ*) at (h'.0.same Γ* q));
      })))

-- Of statements typed from no names.
pub resolved : (l : Stmts) (C : ℕ) (Γ : Declarations) (P : Program) → typed_statements C l [] ≡ ok P Γ → SameAll (start Γ) l P
unfolding scope_of numbers start
resolved l C Γ P typed = (said (sequence_resolved l C []) typed).same Γ (itself Γ)
