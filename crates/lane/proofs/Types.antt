-- Typing a narrowed tree: what is accepted narrows to what is accepted, as the very same program over narrowed declarations.
use mathlib.Core.Path.{◌≡◌, refl, sym, ap, ap₂, ◌∙◌}
use mathlib.Core.Bool.{true, false, not, ◌||◌}
use mathlib.Core.List.{[]}
use mathlib.Core.Option.{Option, none, some}
use Prim.Native.Nat.{ℕ}
use lib.Dec.{eqb, ltb}
use lib.ListN.{length}
use Rattle.meaning.specs.declared.Kind.{Kind}
use Rattle.meaning.specs.declared.Kind.TheVariants.{Bool as bool}
use Rattle.meaning.specs.declared.Refusal.TheVariants.{AlreadyOpen, LengthNotListed, WrongKind, WrongLength, LengthOneTarget, TooManyDeclarations}
use Rattle.meaning.specs.Codes.{Out, after, give, option, ◌among◌, lengths, declaration_limit}
use Rattle.meaning.specs.Tree.{Name, same_kind, ◌one_of◌, table, unary_table, Expr, number, float_number, boolean, name, current_mask, unary, binary, Block, Stmt, empty, braces, declare, assign, if_else, while, scalar, Stmts, none_yet, ◌⨾◌}
use Rattle.meaning.specs.Program.{variable, one, two, Program, step, put, both, choice, cycle, alone}
use Rattle.meaning.specs.Memory.{Declared, Declarations, declared}
use Rattle.meaning.specs.Typing.{Typed, accepts, gives_kind, match, joined, fits, find, variable_named, typed, typed_condition, storable, with_one, declare_name, good_block, lanes_or, typed_declaration, scope, typed_statement, typed_statements, typed_program}
use Rattle.laws.specs.Outcomes.{refusal, Beside}
use Rattle.laws.specs.Declarations.{Listed}
use Rattle.laws.proofs.Outcomes.{both_well, both_followed, both_passed, both_checked}
use Rattle.laws.proofs.Lengths.{joined_one}
use Rattle.laws.proofs.Declarations.{by_length}
use Rattle.lane.specs.NarrowTree.{narrow_length, narrow_block, narrow_stmt, narrow_stmts, Each, no_row, Thinned}
use Rattle.lane.proofs.Declared.{each-length, thin_declared, thin_find, thin_closing, thin_new}

module _ (Γ Δ : Declarations) (thin : Each Thinned Γ Δ) (C : ℕ) where
  -- What a name is found to be.
  record Named (v : ℕ × Declared) (Γ' : Declarations) (v' : ℕ × Declared) (Δ' : Declarations) : Type 0 where
    still : Γ' ≡ Γ
    still' : Δ' ≡ Δ
    row_of : v.1 ≡ declared Γ v.0
    is : v' ≡ (v.0, declared Δ v.0)

  named_both : (p : ℕ) (x : Name) → Beside Named (variable_named C p x Γ) (variable_named 1 p x Δ)
  unfolding variable_named fits
  named_both p x = go (find x 0 Γ) refl
    where
      go : (o : Option ℕ) → find x 0 Γ ≡ o → Beside Named (variable_named C p x Γ) (variable_named 1 p x Δ)
      go none e = rw (thin_find x 0 thin, e) (refusal tt)
      go (some i) e =
          rw (thin_find x 0 thin, e)
          (both_passed (fits C (declared Γ i).lanes) (fits 1 (declared Δ i).lanes) WrongLength p Γ Δ _ _ (λ t. rw (thin_declared thin i).one_lane refl)
          (λ t. both_well (record { still = refl; still' = refl; row_of = refl; is = refl })))

  -- What an expression is typed as: the same, of one lane.
  record Alike (a : Typed) (Γ' : Declarations) (a' : Typed) (Δ' : Declarations) : Type 0 where
    still : Γ' ≡ Γ
    still' : Δ' ≡ Δ
    code : a'.code ≡ a.code
    kind : a'.kind ≡ a.kind
    one_lane : a'.lanes ≡ 1

  typed_both : (e : Expr) → Beside Alike (typed C e Γ) (typed 1 e Δ)
  unfolding typed match joined
  typed_both (number n) = both_well (record { still = refl; still' = refl; code = refl; kind = refl; one_lane = refl })
  typed_both (float_number n) = both_well (record { still = refl; still' = refl; code = refl; kind = refl; one_lane = refl })
  typed_both (boolean b) = both_well (record { still = refl; still' = refl; code = refl; kind = refl; one_lane = refl })
  typed_both (name p x) = both_followed _ _ (named_both p x) (λ v Γ' v' Δ' q. both_well (record {
    still = q.still;
    still' = q.still';
    code = ap (λ (w : ℕ × Declared). variable w.0) q.is;
    kind = ap (λ (w : ℕ × Declared). w.1.kind) q.is ∙ (thin_declared thin v.0).same_kind ∙ ap (λ (d : Declared). d.kind) (sym q.row_of);
    one_lane = ap (λ (w : ℕ × Declared). w.1.lanes) q.is ∙ (thin_declared thin v.0).one_lane;
  }))
  typed_both current_mask = both_well (record { still = refl; still' = refl; code = refl; kind = refl; one_lane = refl })
  typed_both (unary p o e) =
      both_followed _ _ (typed_both e)
      (λ a Γ' a' Δ' q. both_passed (a.kind one_of (unary_table o).1) (a'.kind one_of (unary_table o).1) WrongKind p Γ' Δ' _ _ (λ t. rw q.kind t)
      (λ t. both_well (record { still = q.still; still' = q.still'; code = λ i. one p (q.kind i) o (q.code i); kind = q.kind; one_lane = q.one_lane })))
  typed_both (binary p o e e') =
      both_followed _ _ (typed_both e)
      (λ a Γ' a' Δ' q. rw (q.still, q.still') (both_followed _ _ (typed_both e')
      (λ b Γ'' b' Δ'' r. both_passed (accepts (table o).1 a.kind b.kind) (accepts (table o).1 a'.kind b'.kind) WrongKind p Γ'' Δ'' _ _ (λ t. rw (q.kind, r.kind) t)
      (λ t. both_passed (match a.lanes b.lanes) (match a'.lanes b'.lanes) WrongLength p Γ'' Δ'' _ _ (λ u. rw (q.one_lane, r.one_lane) refl)
      (λ u. both_well (record {
        still = r.still;
        still' = r.still';
        code = λ i. two p (q.kind i) o (q.code i) (r.code i);
        kind = ap (gives_kind (table o).2) q.kind;
        one_lane = ap₂ joined q.one_lane r.one_lane;
      }))))))

-- A condition is typed as its expression.
condition_both : (Γ Δ : Declarations) (thin : Each Thinned Γ Δ) (C p : ℕ) (e : Expr) → Beside (Alike Γ Δ thin C) (typed_condition C p e Γ) (typed_condition 1 p e Δ)
unfolding typed_condition
condition_both Γ Δ thin C p e =
    both_followed _ _ (typed_both Γ Δ thin C e)
    (λ a Γ' a' Δ' q. both_passed (same_kind a.kind bool) (same_kind a'.kind bool) WrongKind p Γ' Δ' _ _ (λ t. rw q.kind t) (λ t. both_well q))

-- A value for a target: no declaration is added.
record Aimed (Γ Δ : Declarations) (u : Unit {0}) (Γ' : Declarations) (u' : Unit {0}) (Δ' : Declarations) : Type 0 where
  still : Γ' ≡ Γ
  still' : Δ' ≡ Δ

aimed_both : (Γ Δ : Declarations) (C p n : ℕ) (k : Kind) (a a' : Typed) → a'.kind ≡ a.kind → a'.lanes ≡ 1 → Beside (Aimed Γ Δ) (storable C p k n a Γ) (storable 1 p k 1 a' Δ)
unfolding storable
aimed_both Γ Δ C p n k a a' e e' =
    both_passed (same_kind a.kind k) (same_kind a'.kind k) WrongKind p Γ Δ _ _ (λ t. rw e t)
    (λ t. both_passed (eqb a.lanes 1 || eqb a.lanes n) (eqb a'.lanes 1 || eqb a'.lanes 1) WrongLength p Γ Δ _ _ (λ t. rw e' refl)
    (λ u. both_checked (eqb C 1 || not (eqb n 1)) (eqb 1 1 || not (eqb 1 1)) LengthOneTarget p Γ Δ (λ t. refl) (λ w. record { still = refl; still' = refl })))

-- A declaration of n lanes.
record Entered (Γ Δ : Declarations) (n p : ℕ) (k : Kind) (x : Name) (i : ℕ) (Γ' : Declarations) (i' : ℕ) (Δ' : Declarations) : Type 0 where
  same_number : i' ≡ i
  more : Γ' ≡ with_one k n p x Γ
  more' : Δ' ≡ with_one k 1 p x Δ

fits_one : fits 1 1 ≡ true
unfolding fits
fits_one = refl

entered_both : (Γ Δ : Declarations) → Each Thinned Γ Δ → (C n p : ℕ) (k : Kind) (x : Name) → Beside (Entered Γ Δ n p k x) (declare_name C k n p x Γ) (declare_name 1 k 1 p x Δ)
unfolding declare_name
entered_both Γ Δ thin C n p k x =
    both_passed (fits C n) (fits 1 1) WrongLength p Γ Δ _ _ (λ t. fits_one)
    (λ t. both_passed (option true (λ i. false) (find x 0 Γ)) (option true (λ i. false) (find x 0 Δ)) AlreadyOpen p Γ Δ _ _ (λ u. rw (thin_find x 0 thin) u)
    (λ u. both_passed (ltb (length Γ) declaration_limit) (ltb (length Δ) declaration_limit) TooManyDeclarations p Γ Δ _ _ (λ w. rw (each-length thin) w)
    (λ w. both_well (record { same_number = each-length thin; more = refl; more' = refl }))))

-- Every length of the list is narrowed to 1.
listed-narrow : (n : ℕ) → Listed n → narrow_length n ≡ 1
unfolding narrow_length
listed-narrow n t = by_length (λ n. narrow_length n ≡ 1) n t refl refl refl refl refl refl refl

-- What a statement is typed as: the same program.
pub record Accepted (P : Program) (Γ : Declarations) (P' : Program) (Δ : Declarations) : Type 0 where
  pub same_program : P' ≡ P
  pub thin : Each Thinned Γ Δ

-- Its own scope.
scope_both : (Γ Δ : Declarations) → Each Thinned Γ Δ → (m m' : Declarations → Out Declarations Program) → Beside Accepted (m Γ) (m' Δ) → Beside Accepted (scope m Γ) (scope m' Δ)
unfolding scope
scope_both Γ Δ thin m m' h =
    both_followed _ _ h
    (λ P Γ' P' Δ' q. rw (each-length thin) (both_well (record { same_program = q.same_program; thin = thin_closing (length Γ) q.thin })))

module _ (C : ℕ) (Γ Δ : Declarations) (thin : Each Thinned Γ Δ) (p : ℕ) (k : Kind) (q : ℕ) (x : Name) where
  -- A declaration without a value.
  plain_both : (n n' : ℕ) → n' ≡ 1 → Beside Accepted (after (declare_name C k n q x Γ) (λ i. give (step p))) (after (declare_name 1 k n' q x Δ) (λ i. give (step p)))
  plain_both n n' z =
      rw z (both_followed _ _ (entered_both Γ Δ thin C n q k x)
      (λ i Γ' i' Δ' e. rw (e.more, e.more') (both_well (record { same_program = refl; thin = thin_new k n q x thin }))))

  -- One with a value.
  valued_both : (n n' : ℕ) → n' ≡ 1 → (r : ℕ) (a a' : Typed) → Alike Γ Δ thin C a Γ a' Δ
      → Beside Accepted (after (storable C r k n a Γ) (λ u Γ'. after (declare_name C k n q x Γ') (λ i. give (put p i a.code))))
      (after (storable 1 r k n' a' Δ) (λ u Δ'. after (declare_name 1 k n' q x Δ') (λ i. give (put p i a'.code))))
  valued_both n n' z r a a' v =
      rw z (both_followed _ _ (aimed_both Γ Δ C r n k a a' v.kind v.one_lane)
      (λ u Γ' u' Δ' t. rw (t.still, t.still') (both_followed _ _ (entered_both Γ Δ thin C n q k x)
      (λ i Γ'' i' Δ'' e. rw (e.same_number, e.more, e.more') (both_well (record { same_program = ap (put p i) v.code; thin = thin_new k n q x thin }))))))

  -- The same, from its initial value on.
  initial_both : (e : Expr) (r : ℕ) (lanes lanes' : ℕ → ℕ) → ((n : ℕ) → n ≡ 1 → lanes' n ≡ 1)
      → Beside Accepted (after (typed C e Γ) (λ a Γ'. after (storable C r k (lanes a.lanes) a Γ') (λ u Γ''. after (declare_name C k (lanes a.lanes) q x Γ'') (λ i. give (put p i a.code)))))
      (after (typed 1 e Δ) (λ a Δ'. after (storable 1 r k (lanes' a.lanes) a Δ') (λ u Δ''. after (declare_name 1 k (lanes' a.lanes) q x Δ'') (λ i. give (put p i a.code)))))
  initial_both e r lanes lanes' to_one =
      both_followed _ _ (typed_both Γ Δ thin C e)
      (λ a Γ' a' Δ' v. rw (v.still, v.still') (valued_both (lanes a.lanes) (lanes' a'.lanes) (to_one a'.lanes v.one_lane) r a a'
      (record { still = refl; still' = refl; code = v.code; kind = v.kind; one_lane = v.one_lane })))

  declaration_both : (b : Block) (v : Option (ℕ × Expr)) → Beside Accepted (typed_declaration C p k b q x v Γ) (typed_declaration 1 p k (narrow_block b) q x v Δ)
  unfolding typed_declaration narrow_block good_block lanes_or lengths
  declaration_both none none = plain_both 1 1 refl
  declaration_both (some m) none =
      both_passed (m.0 among lengths) (narrow_length m.0 among lengths) LengthNotListed m.1 Γ Δ _ _ (λ t. rw (listed-narrow m.0 t) refl)
      (λ t. plain_both m.0 (narrow_length m.0) (listed-narrow m.0 t))
  declaration_both none (some v) = initial_both v.1 v.0 (λ n. n) (λ n. n) (λ n e. e)
  declaration_both (some m) (some v) =
      both_passed (m.0 among lengths) (narrow_length m.0 among lengths) LengthNotListed m.1 Γ Δ _ _ (λ t. rw (listed-narrow m.0 t) refl)
      (λ t. initial_both v.1 v.0 (λ n. m.0) (λ n. narrow_length m.0) (λ n e. listed-narrow m.0 t))

-- An assignment to the variable i.
assigned_both : (C : ℕ) (Γ Δ : Declarations) → Each Thinned Γ Δ → (p q : ℕ) (e : Expr) (i : ℕ) (k : Kind) (n : ℕ) → k ≡ (declared Γ i).kind → n ≡ 1
    → Beside Accepted (after (typed C e Γ) (λ a Γ'. after (storable C q (declared Γ i).kind (declared Γ i).lanes a Γ') (λ u. give (put p i a.code))))
    (after (typed 1 e Δ) (λ a Δ'. after (storable 1 q k n a Δ') (λ u. give (put p i a.code))))
assigned_both C Γ Δ thin p q e i k n z y =
    rw (z, y) (both_followed _ _ (typed_both Γ Δ thin C e)
    (λ a Γ' a' Δ' r. rw (r.still, r.still') (both_followed _ _ (aimed_both Γ Δ C q (declared Γ i).lanes (declared Γ i).kind a a' r.kind r.one_lane)
    (λ u Γ'' u' Δ'' t. rw (t.still, t.still') (both_well (record { same_program = ap (put p i) r.code; thin = thin }))))))

mutual
  unfolding typed_statement narrow_stmt

  pub statement_both : (s : Stmt) (C : ℕ) (Γ Δ : Declarations) → Each Thinned Γ Δ → Beside Accepted (typed_statement C s Γ) (typed_statement 1 (narrow_stmt s) Δ)
  statement_both (empty p) C Γ Δ thin = both_well (record { same_program = refl; thin = thin })
  statement_both (braces p l) C Γ Δ thin = scope_both Γ Δ thin (typed_statements C l) (typed_statements 1 (narrow_stmts l)) (statements_both l C Γ Δ thin)
  statement_both (declare p k b q x v) C Γ Δ thin = declaration_both C Γ Δ thin p k q x b v
  statement_both (assign p x q e) C Γ Δ thin =
      both_followed _ _ (named_both Γ Δ thin C p x)
      (λ v Γ' v' Δ' r. rw (r.still, r.still', r.is, r.row_of)
      (assigned_both C Γ Δ thin p q e v.0 _ _ (thin_declared thin v.0).same_kind (thin_declared thin v.0).one_lane))
  statement_both (if_else p e s t) C Γ Δ thin =
      both_followed _ _ (condition_both Γ Δ thin C p e)
      (λ a Γ' a' Δ' q. let B : ℕ = joined a.lanes C in
      rw (q.still, q.still', joined_one a'.lanes 1 q.one_lane)
      (both_followed _ _ (scope_both Γ Δ thin (typed_statement B s) (typed_statement 1 (narrow_stmt s)) (statement_both s B Γ Δ thin))
      (λ P Γ₁ P' Δ₁ r. both_followed _ _ (scope_both Γ₁ Δ₁ r.thin (typed_statement B t) (typed_statement 1 (narrow_stmt t)) (statement_both t B Γ₁ Δ₁ r.thin))
      (λ R Γ₂ R' Δ₂ u. both_well (record { same_program = λ i. choice p (q.code i) (r.same_program i) (u.same_program i); thin = u.thin })))))
  statement_both (while p e s) C Γ Δ thin =
      both_followed _ _ (condition_both Γ Δ thin C p e)
      (λ a Γ' a' Δ' q. let B : ℕ = joined a.lanes C in
      rw (q.still, q.still', joined_one a'.lanes 1 q.one_lane)
      (both_followed _ _ (scope_both Γ Δ thin (typed_statement B s) (typed_statement 1 (narrow_stmt s)) (statement_both s B Γ Δ thin))
      (λ P Γ₁ P' Δ₁ r. both_well (record { same_program = λ i. cycle p (q.code i) (r.same_program i); thin = r.thin }))))
  statement_both (scalar p s) C Γ Δ thin =
      both_followed _ _ (scope_both Γ Δ thin (typed_statement 1 s) (typed_statement 1 (narrow_stmt s)) (statement_both s 1 Γ Δ thin))
      (λ P Γ' P' Δ' r. both_well (record { same_program = ap alone r.same_program; thin = r.thin }))

  pub statements_both : (l : Stmts) (C : ℕ) (Γ Δ : Declarations) → Each Thinned Γ Δ → Beside Accepted (typed_statements C l Γ) (typed_statements 1 (narrow_stmts l) Δ)
  statements_both none_yet C Γ Δ thin = both_well (record { same_program = refl; thin = thin })
  statements_both (l ⨾ s) C Γ Δ thin =
      both_followed _ _ (statements_both l C Γ Δ thin)
      (λ P Γ' P' Δ' q. both_followed _ _ (statement_both s C Γ' Δ' q.thin)
      (λ R Γ'' R' Δ'' r. both_well (record { same_program = ap₂ both q.same_program r.same_program; thin = r.thin })))

-- A narrowed program is accepted, as the very same program over narrowed declarations.
pub program_both : (l : Stmts) → Beside Accepted (typed_program l) (typed_program (narrow_stmts l))
unfolding typed_program
program_both l = statements_both l 1 [] [] no_row
