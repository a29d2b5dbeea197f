-- Soundness of resolved statements: what typing makes of a statement goes by the rules.
use Prim.Native.Nat.{ℕ}
use mathlib.Core.Path.{◌≡◌, refl, ap, ap₂, ◌∙◌}
use mathlib.Core.Option.{Option, none, some}
use lib.ListN.{length, length-map}
use Rattle.meaning.specs.declared.Kind.{Kind}
use Rattle.meaning.specs.declared.Kind.TheVariants.{Bool as bool}
use Rattle.meaning.specs.declared.Refusal.TheVariants.{WrongKind, WrongLength}
use Rattle.meaning.specs.Tree.{Name, same_kind, ◌one_of◌, Block, table, unary_table, Expr, number, float_number, boolean, name, current_mask, unary, binary, Stmt, empty, braces, declare, assign, if_else, while, scalar, Stmts, none_yet, ◌⨾◌}
use Rattle.meaning.specs.Program.{Program}
use Rattle.meaning.specs.Memory.{Declarations, declared, bit}
use Rattle.meaning.specs.Codes.{ok}
use Rattle.meaning.specs.Typing.{Typed, accepts, match, typed, typed_condition, lanes_or, typed_declaration, with_one, scope, typed_statement, typed_statements, joined}
use Rattle.rules.specs.Lengths.{Match}
use Rattle.rules.proofs.Resolved.{r_const, r_var, r_mask, r_unary, r_binary}
use Rattle.rules.proofs.Lengths.{matches, length-lanewise}
use Rattle.laws.specs.Outcomes.{well, Yields, Still}
use Rattle.laws.proofs.Values.{fetch-length}
use Rattle.laws.proofs.Outcomes.{followed, keeping, passed, also, said}
use Rattle.rules.proofs.Typed.{names, typed_by_rules, matches_context, stores, names_one, one_declared, listed, stated_by_rules, sequence_by_rules}
use Rattle.rules.proofs.Tables.{◌≼◌, same_shape, itself, before, declared_before, before_scope, inside_scope, new_shape}
use Rattle.rules.proofs.Progress.{Valued, Goes, nothing_goes, step_goes, put_goes, both_goes, choice_goes, cycle_goes, alone_goes}

-- What an expression becomes has a value, over any table that has its declarations.
abbrev Values : ℕ → Declarations → Typed → Type 0
Values C Γ a = (Γ* : Declarations) → Γ ≼ Γ* → Valued Γ* C a.code a.lanes

values : (C : ℕ) (e : Expr) (Γ : Declarations) → Yields (Still Γ (Values C Γ)) (typed C e Γ)
unfolding typed
values C (number n) Γ = well (refl, λ Γ* q m M l. record { lanes = _; derived = r_const; long = refl })
values C (float_number n) Γ = well (refl, λ Γ* q m M l. record { lanes = _; derived = r_const; long = refl })
values C (boolean b) Γ = well (refl, λ Γ* q m M l. record { lanes = _; derived = r_const; long = refl })
values C (name p x) Γ =
    keeping _ (names C p x Γ) (λ v h.
    well (
      refl,
      λ Γ* q m M l.
          let lanes : (declared Γ* v.0).lanes ≡ v.1.lanes = ap (λ t. t.1) (same_shape q v.0 h.known) ∙ (rw h.is) in
          record { lanes = _; derived = r_var (rw (l, lanes) h.fitting); long = fetch-length Γ* M v.0 ∙ lanes },
    ))
values C current_mask Γ = well (refl, λ Γ* q m M l. record { lanes = _; derived = r_mask; long = length-map m bit ∙ l })
values C (unary p o e) Γ =
    keeping _ (values C e Γ) (λ a h.
    passed (a.kind one_of (unary_table o).1) WrongKind p Γ _ tt (λ t.
    well (
      refl,
      λ Γ* q m M l.
          let v = h Γ* q m M l in
          record { lanes = _; derived = r_unary v.derived; long = length-map v.lanes _ ∙ v.long },
    )))
values C (binary p o e e') Γ =
    keeping _ (values C e Γ) (λ a h.
    keeping _ (values C e' Γ) (λ b h'.
    passed (accepts (table o).1 a.kind b.kind) WrongKind p Γ _ tt (λ t.
    passed (match a.lanes b.lanes) WrongLength p Γ _ tt (λ t'.
    well (
      refl,
      λ Γ* q m M l.
          let v = h Γ* q m M l in
          let v' = h' Γ* q m M l in
          let fit : Match (length v.lanes) (length v'.lanes) = rw (v.long, v'.long) (matches a.lanes b.lanes t') in
          record {
            lanes = _;
            derived = r_binary v.derived v'.derived fit;
            long = length-lanewise _ v.lanes v'.lanes fit ∙ ap₂ joined v.long v'.long;
          },
    )))))

condition_values : (C p : ℕ) (e : Expr) (Γ : Declarations) →
    Yields (Still Γ (λ a. Match C a.lanes × Values C Γ a)) (typed_condition C p e Γ)
unfolding typed_condition
condition_values C p e Γ =
    followed _ (also (typed_by_rules C e Γ) (values C e Γ)) (λ a Γ' h.
    rw h.0.0
    (passed (same_kind a.kind bool) WrongKind p Γ _ tt (λ t.
    well (refl, (matches_context h.0.1, h.1.1)))))

-- What a statement in a context of length C becomes goes by the rules, over any table that has its declarations.
abbrev Sound : ℕ → Program → Declarations → Type 0
Sound C P Γ' = (Γ* : Declarations) → Γ' ≼ Γ* → Goes Γ* C P

-- The same of a scope.
branch_sound : (s : Stmt) (C : ℕ) (Γ : Declarations) → Yields (Sound C) (typed_statement C s Γ) →
    Yields (λ P Γ'. (Γ ≼ Γ') × Sound C P Γ') (scope (typed_statement C s) Γ)
unfolding scope
branch_sound s C Γ y = followed _ (also y (stated_by_rules s C Γ)) (λ P Γ' h.
    let d = h.1.declares in
    well (before_scope d, λ Γ* q. h.0 Γ* (inside_scope d Γ* q)))

declaration_sound : (C p : ℕ) (k : Kind) (b : Block) (q : ℕ) (x : Name) (v : Option (ℕ × Expr)) (Γ : Declarations) →
    Yields (Sound C) (typed_declaration C p k b q x v Γ)
unfolding typed_declaration
declaration_sound C p k b q x none Γ =
    keeping _ (listed b Γ) (λ _ good.
    followed _ (names_one C k (lanes_or 1 b) q x Γ) (λ i Γ' h.
    well (λ Γ* u. step_goes Γ* p)))
declaration_sound C p k b q x (some v) Γ =
    keeping _ (listed b Γ) (λ _ good.
    keeping _ (values C v.1 Γ) (λ a w.
    let n = lanes_or a.lanes b in
    keeping _ (stores C v.0 k n a Γ) (λ _ s.
    followed _ (names_one C k n q x Γ) (λ i Γ' h.
    well (λ Γ* u.
    let all : with_one k n q x Γ ≼ Γ* = rw h.after at u in
    let old = before (declared_before (one_declared k n q x Γ h.room)) all in
    let lanes : (declared Γ* i).lanes ≡ n = rw h.number (ap (λ t. t.1) (new_shape k n q x Γ Γ* all)) in
    put_goes Γ* (w Γ* old) (rw lanes s.fill) (rw lanes (s.wide h.fitting)))))))

mutual
  unfolding typed_statement scope

  statement_sound : (s : Stmt) (C : ℕ) (Γ : Declarations) → Yields (Sound C) (typed_statement C s Γ)
  statement_sound (empty p) C Γ = well (λ Γ* q. step_goes Γ* p)
  statement_sound (braces p l) C Γ =
      followed _ (also (sequence_sound l C Γ) (sequence_by_rules l C Γ)) (λ P Γ' h.
      well (λ Γ* q. h.0 Γ* (inside_scope h.1.declares Γ* q)))
  statement_sound (declare p k b q x v) C Γ = declaration_sound C p k b q x v Γ
  statement_sound (assign p x q e) C Γ =
      keeping _ (names C p x Γ) (λ v h.
      keeping _ (values C e Γ) (λ a w.
      keeping _ (stores C q v.1.kind v.1.lanes a Γ) (λ _ s.
      well (λ Γ* u.
      let lanes : (declared Γ* v.0).lanes ≡ v.1.lanes = ap (λ t. t.1) (same_shape u v.0 h.known) ∙ (rw h.is) in
      put_goes Γ* (w Γ* u) (rw lanes s.fill) (rw lanes (s.wide h.fitting))))))
  statement_sound (if_else p e s t) C Γ =
      keeping _ (condition_values C p e Γ) (λ a w.
      let C' = joined a.lanes C in
      followed _ (branch_sound s C' Γ (statement_sound s C' Γ)) (λ P Γ₁ h.
      followed _ (branch_sound t C' Γ₁ (statement_sound t C' Γ₁)) (λ P' Γ₂ h'.
      well (λ Γ* q.
      let q₁ = before h'.0 q in
      choice_goes Γ* (w.1 Γ* (before h.0 q₁)) w.0 (h.1 Γ* q₁) (h'.1 Γ* q)))))
  statement_sound (while p e s) C Γ =
      keeping _ (condition_values C p e Γ) (λ a w.
      let C' = joined a.lanes C in
      followed _ (branch_sound s C' Γ (statement_sound s C' Γ)) (λ P Γ₁ h.
      well (λ Γ* q. cycle_goes Γ* (w.1 Γ* (before h.0 q)) w.0 (h.1 Γ* q))))
  statement_sound (scalar p s) C Γ =
      followed _ (branch_sound s 1 Γ (statement_sound s 1 Γ)) (λ P Γ₁ h.
      well (λ Γ* q. alone_goes Γ* (h.1 Γ* q)))

  sequence_sound : (l : Stmts) (C : ℕ) (Γ : Declarations) → Yields (Sound C) (typed_statements C l Γ)
  sequence_sound none_yet C Γ = well (λ Γ* q. nothing_goes Γ*)
  sequence_sound (l ⨾ s) C Γ =
      followed _ (sequence_sound l C Γ) (λ P Γ₁ h.
      followed _ (also (statement_sound s C Γ₁) (stated_by_rules s C Γ₁)) (λ P' Γ₂ h'.
      well (λ Γ* q. both_goes Γ* (h Γ* (before (declared_before h'.1.declares) q)) (h'.0 Γ* q))))

-- What typed statements become goes by the rules.
pub goes : (l : Stmts) (C : ℕ) (Γ Γ' : Declarations) (P : Program) → typed_statements C l Γ ≡ ok P Γ' → Goes Γ' C P
goes l C Γ Γ' P typed = said (sequence_sound l C Γ) typed Γ' (itself Γ')
