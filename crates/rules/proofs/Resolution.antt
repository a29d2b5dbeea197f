-- A tree and a program of it: the program is the tree's own, and the tree derives what the program derives.
use Prim.Native.Nat.{ℕ}
use mathlib.Core.Path.{◌≡◌, refl, ap, sym, ◌∙◌}
use mathlib.Core.Bool.{Bool, true, true≢false}
use mathlib.Core.Option.{none, some}
use Rattle.meaning.specs.declared.Kind.{Kind}
use Rattle.meaning.specs.declared.Kind.TheVariants.{Int as int, Bool as bool, Float as float}
use Rattle.meaning.specs.declared.Unary.{Unary}
use Rattle.meaning.specs.declared.Binary.{Binary}
use Rattle.meaning.specs.Tree.{Name, table, Expr, number, float_number, boolean, name, current_mask, unary, binary, Block, Stmt, empty, braces, declare, assign, if_else, while, scalar, Stmts, none_yet, ◌⨾◌}
use Rattle.meaning.specs.Program.{Code, constant, variable, the_mask, one, two, Program, nothing, step, put, both, choice, cycle, alone}
use Rattle.meaning.specs.Memory.{Memory, Value, Mask, Declarations, declared, bit}
use Rattle.meaning.specs.Running.{some_lane}
use Rattle.meaning.specs.Typing.{gives_kind}
use Rattle.rules.specs.Operators.{◌takes◌, ◌takes_two◌gives◌}
use Rattle.rules.specs.Scopes.{Scope, ◌means◌, beyond, past_all, declarations}
use Rattle.rules.specs.Evaluation.{◌∣◌∣◌⊢◌⇒⟨◌∣◌⟩, e_number, e_float, e_boolean, e_var, e_mask, e_unary, e_binary, e_assign, e_broadcast, End, empty_costs, declare_costs, assign_costs, if_costs, ◌∣◌∣◌⊢◌⇓◌after◌, ◌∣◌∣◌⊢◌↓◌after◌, ◌∣◌∣◌⊢*◌↓◌after◌, e_skip, e_scope, e_decl, e_init, e_store, e_if, e_while, e_scalar, e_due, e_if_due, e_none, e_sequence, e_sequence_due, e_inactive, e_active, While, e_leave, e_again, e_test_due, e_body_due}
use Rattle.rules.proofs.Operators.{in_table}
use Rattle.rules.proofs.Programs.{the_number, kind, code, program, programs, past_all-table}
use Rattle.rules.proofs.Resolved.{◌∣◌∣◌▹◌⇒◌, r_const, r_var, r_mask, r_unary, r_binary, step_costs, put_costs, choice_costs, ◌∣◌∣◌▹◌⇓◌after◌, r_inactive, r_active, ◌∣◌∣◌▹◌↓◌after◌, r_nothing, r_decl, r_assign, r_broadcast, r_sequence, r_if, r_while, r_scalar, r_due, r_sequence_due, r_if_due, Loop, r_leave, r_again, r_test_due, r_body_due}

-- An expression e, its code c and its kind k.
abbrev FromValue : Scope → Expr → Code → Kind → Type 0
FromValue σ e c k = (m : Mask) (M : Memory) (v : Value) → σ.table ∣ m ∣ M ▹ c ⇒ v → σ ∣ m ∣ M ⊢ e ⇒⟨ k ∣ v ⟩

pub record SameValue (σ : Scope) (e : Expr) (c : Code) (k : Kind) : Type 0 where
  pub is_kind : k ≡ kind σ e
  pub is_code : c ≡ code σ e
  pub from : FromValue σ e c k

-- A statement s and its program P, under a mask with an active lane.
abbrev From : Scope → Stmt → Program → Type 0
From σ s P = (m : Mask) (M : Memory) (r : End) (n : ℕ) → some_lane m ≡ true → σ.table ∣ m ∣ M ▹ P ↓ r after n →
    σ ∣ m ∣ M ⊢ s ↓ r after n

pub record Same (σ : Scope) (s : Stmt) (P : Program) : Type 0 where
  pub is : P ≡ program s σ
  pub from : From σ s P

-- And a sequence.
abbrev FromAll : Scope → Stmts → Program → Type 0
FromAll σ l P = (m : Mask) (M : Memory) (r : End) (n : ℕ) → some_lane m ≡ true → σ.table ∣ m ∣ M ▹ P ↓ r after n →
    σ ∣ m ∣ M ⊢* l ↓ r after n

pub record SameAll (σ : Scope) (l : Stmts) (P : Program) : Type 0 where
  pub is : P ≡ programs l σ
  pub from : FromAll σ l P

-- Expressions.
module _ {σ : Scope} where
  pub same_number : {n : ℕ} → SameValue σ (number n) (constant n) int
  unfolding kind code
  same_number {n} = record { is_kind = refl; is_code = refl; from = from }
    where
      from : FromValue σ (number n) (constant n) int
      from m M v r_const = e_number

  pub same_float : {n : ℕ} → SameValue σ (float_number n) (constant n) float
  unfolding kind code
  same_float {n} = record { is_kind = refl; is_code = refl; from = from }
    where
      from : FromValue σ (float_number n) (constant n) float
      from m M v r_const = e_float

  pub same_boolean : {c : Bool} → SameValue σ (boolean c) (constant (bit c)) bool
  unfolding kind code
  same_boolean {c} = record { is_kind = refl; is_code = refl; from = from }
    where
      from : FromValue σ (boolean c) (constant (bit c)) bool
      from m M v r_const = e_boolean

  pub same_name : {p i : ℕ} {x : Name} {k : Kind} → σ means x ≡ some i → (declared σ.table i).kind ≡ k →
      SameValue σ (name p x) (variable i) k
  unfolding kind code
  same_name {p} {i} {x} {k} h e =
      let number = sym (the_number σ x h) in
      record { is_kind = sym e ∙ ap (λ j. (declared σ.table j).kind) number; is_code = ap variable number; from = from }
    where
      from : FromValue σ (name p x) (variable i) k
      from m M v (r_var f) = rw (← e) (e_var h f)

  pub same_mask : SameValue σ current_mask the_mask bool
  unfolding kind code
  same_mask = record { is_kind = refl; is_code = refl; from = from }
    where
      from : FromValue σ current_mask the_mask bool
      from m M v r_mask = e_mask

  pub same_unary : {p : ℕ} {o : Unary} {e : Expr} {c : Code} {k : Kind} → o takes k → SameValue σ e c k →
      SameValue σ (unary p o e) (one p k o c) k
  unfolding kind code
  same_unary {p} {o} {e} {c} {k} t s = record { is_kind = s.is_kind; is_code = rw (s.is_kind, s.is_code); from = from }
    where
      from : FromValue σ (unary p o e) (one p k o c) k
      from m M v (r_unary d) = e_unary t (s.from _ _ _ d)

  pub same_binary : {p : ℕ} {o : Binary} {e e' : Expr} {c c' : Code} {k l : Kind} → o takes_two k gives l →
      SameValue σ e c k → SameValue σ e' c' k → SameValue σ (binary p o e e') (two p k o c c') l
  unfolding kind code
  same_binary {p} {o} {e} {e'} {c} {c'} {k} {l} t s s' =
      record { is_kind = sym (in_table t).1 ∙ ap (gives_kind (table o).2) s.is_kind; is_code = rw (s.is_kind, s.is_code, s'.is_code); from = from }
    where
      from : FromValue σ (binary p o e e') (two p k o c c') l
      from m M v (r_binary d d' f) = e_binary t (s.from _ _ _ d) (s'.from _ _ _ d') f

-- What is run under a mask with an active lane, and what is run as a branch.
active : {Γ : Declarations} {m : Mask} {M : Memory} {P : Program} {r : End} {n : ℕ} → some_lane m ≡ true →
    Γ ∣ m ∣ M ▹ P ⇓ r after n →
    Γ ∣ m ∣ M ▹ P ↓ r after n
active a (r_inactive h) = absurd (true≢false (sym a ∙ h))
active a (r_active h d) = d

branch : {σ : Scope} {s : Stmt} {P : Program} {m : Mask} {M : Memory} {r : End} {n : ℕ} → Same σ s P →
    σ.table ∣ m ∣ M ▹ P ⇓ r after n →
    σ ∣ m ∣ M ⊢ s ⇓ r after n
branch s (r_inactive h) = e_inactive h
branch s (r_active h d) = e_active h (s.from _ _ _ _ h d)

-- Statements.
module _ {σ : Scope} where
  pub same_skip : {p : ℕ} → Same σ (empty p) (step p)
  unfolding program
  same_skip {p} = record { is = refl; from = from }
    where
      from : From σ (empty p) (step p)
      from m M r n a r_decl = e_skip
      from m M r n a (r_due step_costs) = e_due empty_costs

  pub same_declaration : {p q : ℕ} {k : Kind} {b : Block} {x : Name} → Same σ (declare p k b q x none) (step p)
  unfolding program
  same_declaration {p} {q} {k} {b} {x} = record { is = refl; from = from }
    where
      from : From σ (declare p k b q x none) (step p)
      from m M r n a r_decl = e_decl
      from m M r n a (r_due step_costs) = e_due declare_costs

  pub same_init : {p q : ℕ} {k k' : Kind} {b : Block} {x : Name} {e : ℕ × Expr} {c : Code} → SameValue σ e.1 c k' →
      (declared σ.table σ.count).kind ≡ k' → Same σ (declare p k b q x (some e)) (put p σ.count c)
  unfolding program
  same_init {p} {q} {k} {k'} {b} {x} {e} {c} s h = record { is = rw s.is_code; from = from }
    where
      from : From σ (declare p k b q x (some e)) (put p σ.count c)
      from m M r n a (r_assign d l t) = e_init (s.from _ _ _ d) (e_assign h l t)
      from m M r n a (r_broadcast d t) = e_init (s.from _ _ _ d) (e_broadcast h t)
      from m M r n a (r_due put_costs) = e_due declare_costs

  pub same_assignment : {p q i : ℕ} {k : Kind} {x : Name} {e : Expr} {c : Code} → σ means x ≡ some i → SameValue σ e c k →
      (declared σ.table i).kind ≡ k → Same σ (assign p x q e) (put p i c)
  unfolding program
  same_assignment {p} {q} {i} {k} {x} {e} {c} o s h = record { is = rw (the_number σ x o, s.is_code); from = from }
    where
      from : From σ (assign p x q e) (put p i c)
      from m M r n a (r_assign d l t) = e_store o (s.from _ _ _ d) (e_assign h l t)
      from m M r n a (r_broadcast d t) = e_store o (s.from _ _ _ d) (e_broadcast h t)
      from m M r n a (r_due put_costs) = e_due assign_costs

  pub same_braces : {p : ℕ} {l : Stmts} {P : Program} → SameAll σ l P → Same σ (braces p l) P
  unfolding program
  same_braces s = record { is = s.is; from = λ m M r n a d. e_scope (s.from m M r n a d) }

  pub same_if : {p : ℕ} {e : Expr} {c : Code} {s t : Stmt} {P P' : Program} → SameValue σ e c bool → Same σ s P →
      Same (beyond (declarations s) σ) t P' → Same σ (if_else p e s t) (choice p c P P')
  unfolding program beyond
  same_if {p} {e} {c} {s} {t} {P} {P'} v g h = record { is = rw (v.is_code, g.is, h.is); from = from }
    where
      from : From σ (if_else p e s t) (choice p c P P')
      from m M r n a (r_if d f b b') = e_if (v.from _ _ _ d) f (branch g b) (branch h b')
      from m M r n a (r_due choice_costs) = e_due if_costs
      from m M r n a (r_if_due d f b) = e_if_due (v.from _ _ _ d) f (branch g b)

  loop : {p : ℕ} {e : Expr} {c : Code} {s : Stmt} {P : Program} {m₀ m : Mask} {M : Memory} {r : End} {n : ℕ} →
      SameValue σ e c bool →
      Same σ s P → Loop σ.table p c P m₀ m M r n → While σ p e s m₀ m M r n
  loop v g (r_leave d f h) = e_leave (v.from _ _ _ d) f h
  loop v g (r_again d f h b w) = e_again (v.from _ _ _ d) f h (g.from _ _ _ _ h (active h b)) (loop v g w)
  loop v g r_test_due = e_test_due
  loop v g (r_body_due d f h b) = e_body_due (v.from _ _ _ d) f h (g.from _ _ _ _ h (active h b))

  pub same_while : {p : ℕ} {e : Expr} {c : Code} {s : Stmt} {P : Program} → SameValue σ e c bool → Same σ s P →
      Same σ (while p e s) (cycle p c P)
  unfolding program
  same_while {p} {e} {c} {s} {P} v g = record { is = rw (v.is_code, g.is); from = from }
    where
      from : From σ (while p e s) (cycle p c P)
      from m M r n a (r_while w) = e_while (loop v g w)
      from m M r n a (r_due d) = elim d [ ]

  pub same_scalar : {p : ℕ} {s : Stmt} {P : Program} → Same σ s P → Same σ (scalar p s) (alone P)
  unfolding program some_lane
  same_scalar {p} {s} {P} g = record { is = rw g.is; from = from }
    where
      from : From σ (scalar p s) (alone P)
      from m M r n a (r_scalar d) = e_scalar (g.from _ _ _ _ refl (active refl d))
      from m M r n a (r_due d) = elim d [ ]

  pub same_none : SameAll σ none_yet nothing
  unfolding program
  same_none = record { is = refl; from = from }
    where
      from : FromAll σ none_yet nothing
      from m M r n a r_nothing = e_none
      from m M r n a (r_due d) = elim d [ ]

  pub same_sequence : {l : Stmts} {s : Stmt} {P P' : Program} → SameAll σ l P → Same (past_all l σ) s P' →
      SameAll σ (l ⨾ s) (both P P')
  unfolding program
  same_sequence {l} {s} {P} {P'} g h = record { is = rw (g.is, h.is); from = from }
    where
      from : FromAll σ (l ⨾ s) (both P P')
      from m M r n a (r_sequence d d') =
          e_sequence (g.from _ _ _ _ a (active a d)) (h.from _ _ _ _ a (rw (← past_all-table l σ) at (active a d')))
      from m M r n a (r_sequence_due d) = e_sequence_due (g.from _ _ _ _ a (active a d))
      from m M r n a (r_due d) = elim d [ ]
