-- What the rules type, within the limit of declarations, `meaning` types, and lays out the derivation's variables.
use Prim.Native.Nat.{ℕ, ◌+◌, ◌<◌, ◌≤◌}
use mathlib.Core.Path.{◌≡◌, refl, ap, ap₂, ◌∙◌}
use mathlib.Core.Bool.{true, false}
use mathlib.Core.List.{List, [], ◌∷◌, ◌++◌}
use mathlib.Core.Option.{Option, none, some}
use native.Mathlib.Omega.{arith}
use lib.ListN.{length}
use borrow.Author.Tests.{lt-ltb}
use Rattle.meaning.specs.declared.Kind.{Kind}
use Rattle.meaning.specs.declared.Kind.TheVariants.{Bool as bool}
use Rattle.meaning.specs.declared.Refusal.TheVariants.{UnknownName, WrongKind, WrongLength}
use Rattle.meaning.specs.Codes.{Out, ok, refused, check, refuse, give, option, ◌>>◌, declaration_limit}
use Rattle.meaning.specs.declared.Binary.{Binary}
use Rattle.meaning.specs.Tree.{Name, same_kind, ◌one_of◌, table, unary_table, Expr, Block, Stmt, empty, braces, declare, assign, if_else, while, scalar, Stmts, none_yet, ◌⨾◌}
use Rattle.meaning.specs.Program.{Program, two}
use Rattle.meaning.specs.Memory.{Declared, Declarations, declared, need}
use Rattle.meaning.specs.Typing.{Typed, accepts, gives_kind, match, fits, find, variable_named, typed, typed_condition, storable, declare_name, good_block, lanes_or, typed_declaration, with_one, scope, typed_statement, typed_statements, joined}
use Rattle.rules.specs.Lengths.{Match, Target, Fills, whole, broadcast}
use Rattle.rules.specs.Operators.{◌takes_two◌gives◌}
use Rattle.rules.specs.Scopes.{declarations, declarations_in}
use Rattle.rules.specs.Typing.{Names, ◌at◌, Listed, no_block, block, ◌∣◌⊢◌∶⟨◌∣◌⟩, t_number, t_float, t_boolean, t_var, t_mask, t_unary, t_binary, ◌∣◌⊢◌⊣◌, t_skip, t_scope, t_decl, t_init, t_assign, t_broadcast, t_if, t_while, t_scalar, ◌∣◌⊢*◌⊣◌, t_none, t_sequence}
use Rattle.rules.specs.Laying.{Variable, variables_of, Lays}
use Rattle.laws.specs.Outcomes.{well, refusal, Succeeds, Still}
use Rattle.laws.proofs.Outcomes.{followed, keeping, also}
use Rattle.rules.proofs.Operators.{same_as_itself, in_unary_table, in_table}
use Rattle.rules.proofs.Lengths.{match-fits, does_match, not_narrow, target_match, does_fill}
use Rattle.rules.proofs.Names.{opens, opens_with_one, Found, missing, number as found, finds}
use Rattle.rules.proofs.Typed.{counted, in_scope, Branch, stated_by_rules, sequence_by_rules}
use Rattle.rules.proofs.Laying.{lies_none, Adds, adds_none, adds_both, adds_closed, adds_one}
use Rattle.rules.proofs.Sizes.{Sized, no_name, sized_more, some_joined, some_length, some_block}

-- A variable, or a value, of a kind and a length.
record Of (k : Kind) (n : ℕ) (kind : Kind) (lanes : ℕ) : Type 0 where
  kinds : kind ≡ k
  lengths : lanes ≡ n

-- A name that is open.
known : (C p : ℕ) (x : Name) (Γ : Declarations) (k : Kind) (n : ℕ) → opens Γ at x ≡ some (k, n) → Match C n →
    Succeeds (Still Γ (λ (v : ℕ × Declared). Of k n v.1.kind v.1.lanes)) (variable_named C p x Γ)
unfolding variable_named
known C p x Γ k n e m = go (find x 0 Γ) (finds x 0 Γ)
  where
    go : (o : Option ℕ) → Found x 0 Γ o →
        Succeeds (Still Γ (λ (v : ℕ × Declared). Of k n v.1.kind v.1.lanes)) (option (refuse UnknownName p) (λ i. do
          let d = declared Γ i
          check (fits C d.lanes) WrongLength p
          give (i, d)) o Γ)
    go none (missing h) = let never : ◌≡◌ {A = ℕ} 0 1 = cc in absurd (omega arith)
    go (some i) (found j is l h) =
        let number : j ≡ i = omega arith in
        let here = rw number at h in
        let same : ◌≡◌ {A = Kind × ℕ} ((declared Γ i).kind, (declared Γ i).lanes) (k, n) = cc in
        let lanes : (declared Γ i).lanes ≡ n = ap (λ t. t.1) same in
        let test : fits C (declared Γ i).lanes ≡ true = rw lanes (match-fits C n m) in
        rw test (well (refl, record { kinds = ap (λ t. t.0) same; lengths = lanes }))

-- An operator whose operands are typed, from the test of their kinds on.
operates : {n n' : ℕ} {k l : Kind} {Γ : Declarations} (p : ℕ) (o : Binary) (a b : Typed) → Of k n a.kind a.lanes →
    Of k n' b.kind b.lanes → o takes_two k gives l → Match n n' →
    Succeeds (Still Γ (λ (c : Typed). Of l (joined n n') c.kind c.lanes)) ((do
      check (accepts (table o).1 a.kind b.kind) WrongKind p
      check (match a.lanes b.lanes) WrongLength p
      give (record {
        code = two p a.kind o a.code b.code;
        kind = gives_kind (table o).2 a.kind;
        lanes = joined a.lanes b.lanes;
      })) Γ)
unfolding accepts
operates {n} {n'} {k} p o a b h h' t m =
    let kinds : accepts (table o).1 a.kind b.kind ≡ true = rw (h.kinds, h'.kinds, (in_table t).0, same_as_itself k) refl in
    let lanes : match a.lanes b.lanes ≡ true = rw (h.lengths, h'.lengths) (does_match n n' m) in
    rw (kinds, lanes)
    (well (refl, record { kinds = ap (gives_kind (table o).2) h.kinds ∙ (in_table t).1; lengths = ap₂ joined h.lengths h'.lengths }))

-- An expression that the rules type.
type_known : {N : Names} {C n : ℕ} {e : Expr} {k : Kind} → N ∣ C ⊢ e ∶⟨ k ∣ n ⟩ → (Γ : Declarations) → opens Γ ≡ N →
    Succeeds (Still Γ (λ a. Of k n a.kind a.lanes)) (typed C e Γ)
unfolding typed accepts
type_known t_number Γ o = well (refl, record { kinds = refl; lengths = refl })
type_known t_float Γ o = well (refl, record { kinds = refl; lengths = refl })
type_known t_boolean Γ o = well (refl, record { kinds = refl; lengths = refl })
type_known {C} (t_var {p = p} {x = x} {k = k} {n = n} e m) Γ o =
    keeping _ (known C p x Γ k n (rw o e) m) (λ v h.
    well (refl, record { kinds = h.kinds; lengths = h.lengths }))
type_known t_mask Γ o = well (refl, record { kinds = refl; lengths = refl })
type_known (t_unary {o = u} t d) Γ o =
    keeping _ (type_known d Γ o) (λ a h.
    let kinds : a.kind one_of (unary_table u).1 ≡ true = rw h.kinds (in_unary_table t) in
    rw kinds (well (refl, record { kinds = h.kinds; lengths = h.lengths })))
type_known (t_binary {p = p} {o = u} t d d' m) Γ o =
    keeping _ (type_known d Γ o) (λ a h.
    keeping _ (type_known d' Γ o) (λ b h'.
    operates p u a b h h' t m))

-- A condition.
condition_known : {N : Names} {C n : ℕ} {e : Expr} → N ∣ C ⊢ e ∶⟨ bool ∣ n ⟩ → (p : ℕ) (Γ : Declarations) → opens Γ ≡ N →
    Succeeds (Still Γ (λ (a : Typed). a.lanes ≡ n)) (typed_condition C p e Γ)
unfolding typed_condition
condition_known d p Γ o =
    keeping _ (type_known d Γ o) (λ a h.
    let test : same_kind a.kind bool ≡ true = rw h.kinds (same_as_itself bool) in
    rw test (well (refl, h.lengths)))

-- A value for a target.
fits_target : {C l : ℕ} (p : ℕ) (k : Kind) (n : ℕ) (a : Typed) (Γ : Declarations) → Of k l a.kind a.lanes → Fills l n →
    Target C n → storable C p k n a Γ ≡ ok tt Γ
unfolding storable
fits_target {C} {l} p k n a Γ h f t = rw (h.kinds, h.lengths, same_as_itself k, does_fill l n f, not_narrow C n t)

-- A new name, where there is room for it.
name_new : (C : ℕ) (k : Kind) (n p : ℕ) (x : Name) (Γ : Declarations) → Match C n → opens Γ at x ≡ none →
    length Γ < declaration_limit → declare_name C k n p x Γ ≡ ok (length Γ) (with_one k n p x Γ)
unfolding declare_name
name_new C k n p x Γ m e r = rw (match-fits C n m, go (find x 0 Γ) (finds x 0 Γ), lt-ltb (length Γ) declaration_limit r)
  where
    go : (o : Option ℕ) → Found x 0 Γ o → option true (λ i. false) o ≡ true
    go none h = refl
    go (some i) (found j is l h) = let never : ◌≡◌ {A = ℕ} 0 1 = cc in absurd (omega arith)

good : {b : Block} (Γ : Declarations) → Listed b → good_block b Γ ≡ ok tt Γ
unfolding good_block
good Γ no_block = refl
good Γ (block h) = rw h

-- Before a statement: the names N are open, and all lengths are above 0.
record From (N : Names) (C : ℕ) (Γ : Declarations) : Type 0 where
  opened : opens Γ ≡ N
  sized : Sized N
  some_lanes : 0 < C

-- What it leaves: the names N', and the variables v behind those before.
record Leaves (N' : Names) (v : List Variable) (Γ Γ' : Declarations) : Type 0 where
  opened : opens Γ' ≡ N'
  sized : Sized N'
  adds : Adds v Γ Γ'

-- Where there is room for its declarations, it is not refused.
record Typable (C : ℕ) (s : Stmt) (N N' : Names) (v : List Variable) : Type 0 where
  act : (Γ : Declarations) → From N C Γ → length Γ + declarations s ≤ declaration_limit →
      Succeeds (λ P Γ'. Leaves N' v Γ Γ') (typed_statement C s Γ)

-- The same of a sequence.
record TypableAll (C : ℕ) (l : Stmts) (N N' : Names) (v : List Variable) : Type 0 where
  act : (Γ : Declarations) → From N C Γ → length Γ + declarations_in l ≤ declaration_limit →
      Succeeds (λ P Γ'. Leaves N' v Γ Γ') (typed_statements C l Γ)

-- A branch or a body.
record BranchAdds (s : Stmt) (C : ℕ) (v : List Variable) (Γ : Declarations) (P : Program) (Γ' : Declarations) : Type 0 where
  is : Branch s C Γ P Γ'
  adds : Adds v Γ Γ'

branch_known : {C : ℕ} {s : Stmt} {N N' : Names} {v : List Variable} → Typable C s N N' v → (Γ : Declarations) → From N C Γ →
    length Γ + declarations s ≤ declaration_limit → Succeeds (BranchAdds s C v Γ) (scope (typed_statement C s) Γ)
unfolding scope
branch_known {C} {s} a Γ o r =
    followed _ (also (a.act Γ o r) (stated_by_rules s C Γ)) (λ P Γ' h.
    well (record {
      is = in_scope (λ N. opens Γ ∣ C ⊢ s ⊣ N) h.1.declares h.1.types;
      adds = adds_closed (length Γ) h.0.adds;
    }))

-- Behind a condition of length l, in its branches; and behind one of them.
inside : {N : Names} {C l : ℕ} {e : Expr} {Γ : Declarations} → N ∣ C ⊢ e ∶⟨ bool ∣ l ⟩ → From N C Γ → From N (joined l C) Γ
inside {C} {l} d o = record {
  opened = o.opened;
  sized = o.sized;
  some_lanes = some_joined l C (some_length o.sized o.some_lanes d) o.some_lanes;
}

again : {N : Names} {C : ℕ} {Γ Γ' : Declarations} → opens Γ' ≡ opens Γ → From N C Γ → From N C Γ'
again e o = record { opened = e ∙ o.opened; sized = o.sized; some_lanes = o.some_lanes }

-- The names stay.
keeps : {N : Names} {C : ℕ} {v : List Variable} {Γ Γ' : Declarations} → From N C Γ → opens Γ' ≡ opens Γ → Adds v Γ Γ' → Leaves N v Γ Γ'
keeps o e a = record { opened = e ∙ o.opened; sized = o.sized; adds = a }

-- One is declared.
leaves_one : {N : Names} {C : ℕ} (k : Kind) (n p : ℕ) (x : Name) (Γ : Declarations) → From N C Γ → 0 < n →
    Leaves (N ++ ((x, (k, n)) ∷ [])) (record { name = x; place = p; kind = k; lanes = n } ∷ []) Γ (with_one k n p x Γ)
leaves_one k n p x Γ o above = record {
  opened = opens_with_one k n p x Γ ∙ rw o.opened;
  sized = sized_more x k n o.sized above;
  adds = adds_one k n p x Γ above;
}

-- A law for each rule.
module _ {C p : ℕ} {N : Names} where
  skips : Typable C (empty p) N N []
  unfolding typed_statement
  skips = record { act = λ Γ o r. well (keeps o refl adds_none) }

  scopes : {N' : Names} {l : Stmts} {v : List Variable} → TypableAll C l N N' v → Typable C (braces p l) N N v
  unfolding typed_statement declarations scope
  scopes {l} a = record {
    act = λ Γ o r.
        followed _ (also (a.act Γ o r) (sequence_by_rules l C Γ)) (λ P Γ' h.
        let i = in_scope (λ N. opens Γ ∣ C ⊢* l ⊣ N) h.1.declares h.1.types in
        well (keeps o i.closed (adds_closed (length Γ) h.0.adds)));
  }

  declares : {q : ℕ} {k : Kind} {b : Block} {x : Name} → Listed b → Match C (lanes_or 1 b) → N at x ≡ none →
      Typable C (declare p k b q x none) N (N ++ ((x, (k, lanes_or 1 b)) ∷ []))
      (record { name = x; place = q; kind = k; lanes = lanes_or 1 b } ∷ [])
  unfolding typed_statement declarations typed_declaration
  declares {q} {k} {b} {x} g m e = record {
    act = λ Γ o r.
        let n = lanes_or 1 b in
        rw (good Γ g, name_new C k n q x Γ m (rw o.opened e) (omega arith))
        (well (leaves_one k n q x Γ o (some_block 1 g (omega arith))));
  }

  inits : {q l : ℕ} {k : Kind} {b : Block} {x : Name} {e : ℕ × Expr} → Listed b → N ∣ C ⊢ e.1 ∶⟨ k ∣ l ⟩ →
      Fills l (lanes_or l b) → Target C (lanes_or l b) → N at x ≡ none →
      Typable C (declare p k b q x (some e)) N (N ++ ((x, (k, lanes_or l b)) ∷ []))
      (record { name = x; place = q; kind = k; lanes = lanes_or l b } ∷ [])
  unfolding typed_statement declarations typed_declaration
  inits {q} {l} {k} {b} {x} {e} g d f t new = record {
    act = λ Γ o r.
        rw (good Γ g)
        (keeping _ (type_known d Γ o.opened) (λ a h.
        let n = lanes_or l b in
        let lanes : lanes_or a.lanes b ≡ n = ap (λ i. lanes_or i b) h.lengths in
        rw (lanes, fits_target e.0 k n a Γ h f t, name_new C k n q x Γ (target_match C n t) (rw o.opened new) (omega arith))
        (well (leaves_one k n q x Γ o (some_block l g (some_length o.sized o.some_lanes d))))));
  }

  assigns : {q n l : ℕ} {k : Kind} {x : Name} {e : Expr} → N at x ≡ some (k, n) → N ∣ C ⊢ e ∶⟨ k ∣ l ⟩ → Fills l n → Target C n →
      Typable C (assign p x q e) N N []
  unfolding typed_statement
  assigns {q} {n} {k = k} {x = x} h d f t = record {
    act = λ Γ o r.
        keeping _ (known C p x Γ k n (rw o.opened h) (target_match C n t)) (λ v i.
        keeping _ (type_known d Γ o.opened) (λ a j.
        rw (i.kinds, i.lengths, fits_target q k n a Γ j f t) (well (keeps o refl adds_none))));
  }

  ifs : {N₁ N₂ : Names} {l : ℕ} {e : Expr} {s t : Stmt} {v w : List Variable} → N ∣ C ⊢ e ∶⟨ bool ∣ l ⟩ →
      Typable (joined l C) s N N₁ v → Typable (joined l C) t N N₂ w → Typable C (if_else p e s t) N N (v ++ w)
  unfolding typed_statement declarations
  ifs d a b = record {
    act = λ Γ o r.
        keeping _ (condition_known d p Γ o.opened) (λ c h.
        rw h
        (followed _ (branch_known a Γ (inside d o) (omega arith)) (λ P Γ₁ i.
        let n = counted i.is.declares in
        followed _ (branch_known b Γ₁ (again i.is.closed (inside d o)) (omega arith)) (λ P' Γ₂ j.
        well (keeps o (j.is.closed ∙ i.is.closed) (adds_both i.adds j.adds))))));
  }

  whiles : {N' : Names} {l : ℕ} {e : Expr} {s : Stmt} {v : List Variable} → N ∣ C ⊢ e ∶⟨ bool ∣ l ⟩ →
      Typable (joined l C) s N N' v → Typable C (while p e s) N N v
  unfolding typed_statement declarations
  whiles d a = record {
    act = λ Γ o r.
        keeping _ (condition_known d p Γ o.opened) (λ c h.
        rw h
        (followed _ (branch_known a Γ (inside d o) r) (λ P Γ₁ i.
        well (keeps o i.is.closed i.adds))));
  }

  scalars : {N' : Names} {s : Stmt} {v : List Variable} → Typable 1 s N N' v → Typable C (scalar p s) N N v
  unfolding typed_statement declarations
  scalars a = record {
    act = λ Γ o r.
        followed _ (branch_known a Γ (record { opened = o.opened; sized = o.sized; some_lanes = omega arith }) r) (λ P Γ₁ i.
        well (keeps o i.is.closed i.adds));
  }

module _ {C : ℕ} {N : Names} where
  nones : TypableAll C none_yet N N []
  unfolding typed_statement
  nones = record { act = λ Γ o r. well (keeps o refl adds_none) }

  sequences : {N₁ N₂ : Names} {l : Stmts} {s : Stmt} {v w : List Variable} → TypableAll C l N N₁ v → Typable C s N₁ N₂ w →
      TypableAll C (l ⨾ s) N N₂ (v ++ w)
  unfolding typed_statement declarations
  sequences {N₁} {l = l} a b = record {
    act = λ Γ o r.
        followed _ (also (a.act Γ o (omega arith)) (sequence_by_rules l C Γ)) (λ P Γ₁ h.
        let n = counted h.1.declares in
        let o₁ : From N₁ C Γ₁ = record { opened = h.0.opened; sized = h.0.sized; some_lanes = o.some_lanes } in
        followed _ (b.act Γ₁ o₁ (omega arith)) (λ P' Γ₂ j.
        well (record { opened = j.opened; sized = j.sized; adds = adds_both h.0.adds j.adds })));
  }

-- What the rules type, with the variables of the derivation. (Those of a statement are those of a sequence that is it alone.)
typable : {N N' : Names} {C : ℕ} {l : Stmts} (d : N ∣ C ⊢* l ⊣ N') → TypableAll C l N N' (variables_of d)
unfolding variables_of
typable d = elim d as
    (λ N C s N' d. Typable C s N N' (variables_of (t_sequence t_none d)))
    (λ N C l N' d. TypableAll C l N N' (variables_of d)) [
      | t_skip ↦ skips
      | t_scope (d → a) ↦ scopes a
      | t_decl g m e ↦ declares g m e
      | t_init g d f t e ↦ inits g d f t e
      | t_assign h d t ↦ assigns h d (whole refl) t
      | t_broadcast h d t ↦ assigns h d (broadcast refl) t
      | t_if d m (s → a) (t → b) ↦ ifs d a b
      | t_while d m (s → a) ↦ whiles d a
      | t_scalar (s → a) ↦ scalars a
      | t_none ↦ nones
      | t_sequence (l → a) (s → b) ↦ sequences a b
    ]

-- What `meaning` makes of statements that the rules type from no names: a program, and a table in which their variables lie.
pub record Becomes {N : Names} {C : ℕ} {l : Stmts} (d : [] ∣ C ⊢* l ⊣ N) : Type 0 where
  pub program : Program
  pub table : Declarations
  pub typed : typed_statements C l [] ≡ ok program table
  pub lays : Lays 0 (variables_of d) table (need table)

pub becomes : {N : Names} {C : ℕ} {l : Stmts} (d : [] ∣ C ⊢* l ⊣ N) → 0 < C → declarations_in l ≤ declaration_limit → Becomes d
unfolding opens
becomes {N} {C} {l} d above few = go (typed_statements C l []) refl ((typable d).act [] start (omega arith))
  where
    start : From [] C []
    start = record { opened = refl; sized = no_name; some_lanes = above }

    go : (o : Out Declarations Program) → typed_statements C l [] ≡ o → Succeeds (λ P Γ. Leaves N (variables_of d) [] Γ) o → Becomes d
    go (ok P Γ) e (well h) = record { program = P; table = Γ; typed = e; lays = (h.adds.behind [] lies_none).lays }
    go (refused c p) e (refusal never) = absurd never
