-- What `meaning` types, the rules type; and the declarations that it leaves are those before it and one for each of the tree.
use Prim.Native.Nat.{ℕ, ◌+◌, ◌<◌, ◌≤◌}
use mathlib.Core.Path.{◌≡◌, refl, ap, sym, ◌∙◌}
use mathlib.Core.Bool.{Bool, true, false, ◌||◌, not, false≢true}
use mathlib.Core.List.{[], ◌++◌, map, append_assoc, append-nil}
use mathlib.Core.Option.{Option, none, some}
use native.Mathlib.Omega.{arith}
use lib.Dec.{eqb, ltb}
use lib.ListN.{length, take, drop, length-append, length-map}
use borrow.Author.Tests.{ltb-true}
use lib.Seq.{take-append_seam, drop-append_seam}
use Rattle.meaning.specs.declared.Kind.{Kind}
use Rattle.meaning.specs.declared.Kind.TheVariants.{Bool as bool}
use Rattle.meaning.specs.declared.Refusal.TheVariants.{UnknownName, AlreadyOpen, LengthNotListed, WrongKind, WrongLength, LengthOneTarget, TooManyDeclarations}
use Rattle.meaning.specs.Codes.{check, option, refuse, give, ◌>>◌, ◌among◌, lengths, declaration_limit}
use Rattle.meaning.specs.Tree.{Name, same_kind, ◌one_of◌, table, unary_table, Expr, number, float_number, boolean, name, current_mask, unary, binary, Block, Stmt, empty, braces, declare, assign, if_else, while, scalar, Stmts, none_yet, ◌⨾◌}
use Rattle.meaning.specs.Program.{Program}
use Rattle.meaning.specs.Memory.{Declared, Declarations, declared}
use Rattle.meaning.specs.Typing.{Typed, accepts, match, fits, find, variable_named, typed, typed_condition, storable, declare_name, good_block, lanes_or, typed_declaration, with_one, shut, scope, typed_statement, typed_statements, joined}
use Rattle.rules.specs.Lengths.{Match, scalar_type, same_length, Target, Fills, whole, broadcast}
use Rattle.rules.specs.Scopes.{declarations, declarations_in}
use Rattle.rules.specs.Typing.{Names, ◌at◌, Listed, no_block, block, ◌∣◌⊢◌∶⟨◌∣◌⟩, t_number, t_float, t_boolean, t_var, t_mask, t_unary, t_binary, ◌∣◌⊢◌⊣◌, t_skip, t_scope, t_decl, t_init, t_assign, t_broadcast, t_if, t_while, t_scalar, ◌∣◌⊢*◌⊣◌, t_none, t_sequence}
use Rattle.laws.specs.Outcomes.{well, refusal, Yields, Still}
use Rattle.laws.proofs.Outcomes.{followed, keeping, passed}
use Rattle.laws.proofs.Typing.{same_kind_is}
use Rattle.rules.proofs.Operators.{by_unary_table, by_test}
use Rattle.rules.proofs.Lengths.{fits-match, matches, match-joined, target, fills}
use Rattle.rules.proofs.Names.{opens, opens_with_one, opens_after-scope, Found, missing, number as found, finds}

-- The variable that a name means.
pub record Means (C : ℕ) (x : Name) (Γ : Declarations) (v : ℕ × Declared) : Type 0 where
  pub is : v.1 ≡ declared Γ v.0
  pub found : find x 0 Γ ≡ some v.0
  pub known : v.0 < length Γ
  pub named : opens Γ at x ≡ some (v.1.kind, v.1.lanes)
  pub fitting : Match C v.1.lanes

pub names : (C p : ℕ) (x : Name) (Γ : Declarations) → Yields (Still Γ (Means C x Γ)) (variable_named C p x Γ)
unfolding variable_named
names C p x Γ = go (find x 0 Γ) refl (finds x 0 Γ)
  where
    go : (o : Option ℕ) → find x 0 Γ ≡ o → Found x 0 Γ o → Yields (Still Γ (Means C x Γ)) (option (refuse UnknownName p) (λ i. do
      let d = declared Γ i
      check (fits C d.lanes) WrongLength p
      give (i, d)) o Γ)
    go none f h = refusal tt
    go (some i) f (found j e l h) =
        let same : i ≡ j = omega arith in
        passed (fits C (declared Γ i).lanes) WrongLength p Γ _ tt (λ t.
        well (refl, record { is = refl; found = f; known = omega arith; named = rw same h; fitting = fits-match C _ t }))

-- The kind and length of an expression.
pub typed_by_rules : (C : ℕ) (e : Expr) (Γ : Declarations) →
    Yields (Still Γ (λ a. opens Γ ∣ C ⊢ e ∶⟨ a.kind ∣ a.lanes ⟩)) (typed C e Γ)
unfolding typed
typed_by_rules C (number n) Γ = well (refl, t_number)
typed_by_rules C (float_number n) Γ = well (refl, t_float)
typed_by_rules C (boolean b) Γ = well (refl, t_boolean)
typed_by_rules C (name p x) Γ = keeping _ (names C p x Γ) (λ v h. well (refl, t_var h.named h.fitting))
typed_by_rules C current_mask Γ = well (refl, t_mask)
typed_by_rules C (unary p o e) Γ =
    keeping _ (typed_by_rules C e Γ) (λ a h.
    passed (a.kind one_of (unary_table o).1) WrongKind p Γ _ tt (λ t.
    well (refl, t_unary (by_unary_table o a.kind t) h)))
typed_by_rules C (binary p o e e') Γ =
    keeping _ (typed_by_rules C e Γ) (λ a h.
    keeping _ (typed_by_rules C e' Γ) (λ b h'.
    passed (accepts (table o).1 a.kind b.kind) WrongKind p Γ _ tt (λ t.
    passed (match a.lanes b.lanes) WrongLength p Γ _ tt (λ t'.
    let kinds = by_test o a.kind b.kind t in
    well (refl, t_binary kinds.1 h (rw kinds.0 at h') (matches a.lanes b.lanes t'))))))

-- Every expression matches its context.
pub matches_context : {Γ : Names} {C n : ℕ} {e : Expr} {k : Kind} → Γ ∣ C ⊢ e ∶⟨ k ∣ n ⟩ → Match C n
matches_context t_number = scalar_type refl
matches_context t_float = scalar_type refl
matches_context t_boolean = scalar_type refl
matches_context (t_var e m) = m
matches_context t_mask = same_length refl
matches_context (t_unary t d) = matches_context d
matches_context {C} (t_binary {n = n} {n' = n'} t d d' m) = match-joined C n n' (matches_context d) (matches_context d')

-- "A condition is bool."
pub conditions : (C p : ℕ) (e : Expr) (Γ : Declarations) →
    Yields (Still Γ (λ a. opens Γ ∣ C ⊢ e ∶⟨ bool ∣ a.lanes ⟩)) (typed_condition C p e Γ)
unfolding typed_condition
conditions C p e Γ =
    keeping _ (typed_by_rules C e Γ) (λ a h.
    passed (same_kind a.kind bool) WrongKind p Γ _ tt (λ t.
    well (refl, rw (same_kind_is a.kind bool t) at h)))

-- "The right side has the target's kind, and its length or 1": a value of kind k and l lanes for a target of n.
pub record Stores (C : ℕ) (k : Kind) (n : ℕ) (a : Typed) : Type 0 where
  pub kind : a.kind ≡ k
  pub fill : Fills a.lanes n
  pub wide : Match C n → Target C n

pub stores : (C p : ℕ) (k : Kind) (n : ℕ) (a : Typed) (Γ : Declarations) →
    Yields (Still Γ (λ _. Stores C k n a)) (storable C p k n a Γ)
unfolding storable
stores C p k n a Γ =
    passed (same_kind a.kind k) WrongKind p Γ _ tt (λ t.
    passed (eqb a.lanes 1 || eqb a.lanes n) WrongLength p Γ _ tt (λ t'.
    go (eqb C 1 || not (eqb n 1)) (λ t''.
    record { kind = same_kind_is a.kind k t; fill = fills a.lanes n t'; wide = λ m. target C n m t'' })))
  where
    go : (w : Bool) → (w ≡ true → Stores C k n a) → Yields (Still Γ (λ _. Stores C k n a)) (check w LengthOneTarget p Γ)
    go true h = well (refl, h refl)
    go false h = refusal tt

-- What an act declares: so many, behind those before it, within the limit.
pub record Declares (n : ℕ) (Γ Γ' : Declarations) : Type 0 where
  pub new : Declarations
  pub behind : Γ' ≡ Γ ++ new
  pub count : length new ≡ n
  pub within : length Γ ≤ declaration_limit → length Γ + n ≤ declaration_limit

pub counted : {n : ℕ} {Γ Γ' : Declarations} → Declares n Γ Γ' → length Γ' ≡ length Γ + n
counted {Γ} d = ap length d.behind ∙ (length-append Γ d.new ∙ rw d.count)

none_declared : {Γ : Declarations} → Declares 0 Γ Γ
none_declared {Γ} = record { new = []; behind = sym (append-nil Γ); count = refl; within = omega arith }

then_declared : {n n' : ℕ} {Γ Γ₁ Γ₂ : Declarations} → Declares n Γ Γ₁ → Declares n' Γ₁ Γ₂ → Declares (n + n') Γ Γ₂
then_declared {Γ} a b = let n = counted a in record {
  new = a.new ++ b.new;
  behind = b.behind ∙ (rw a.behind (append_assoc Γ a.new b.new));
  count = length-append a.new b.new ∙ (rw (a.count, b.count));
  within = λ h. let h' = a.within h in let h'' = b.within (omega arith) in omega arith;
}

-- The declaration of a name.
pub record NamesOne (C : ℕ) (k : Kind) (n p : ℕ) (x : Name) (Γ : Declarations) (i : ℕ) (Γ' : Declarations) : Type 0 where
  pub number : i ≡ length Γ
  pub after : Γ' ≡ with_one k n p x Γ
  pub fitting : Match C n
  pub fresh : opens Γ at x ≡ none
  pub room : length Γ < declaration_limit

pub names_one : (C : ℕ) (k : Kind) (n p : ℕ) (x : Name) (Γ : Declarations) →
    Yields (NamesOne C k n p x Γ) (declare_name C k n p x Γ)
unfolding declare_name
names_one C k n p x Γ =
    passed (fits C n) WrongLength p Γ _ tt (λ t.
    passed (option true (λ i. false) (find x 0 Γ)) AlreadyOpen p Γ _ tt (λ t'.
    passed (ltb (length Γ) declaration_limit) TooManyDeclarations p Γ _ tt (λ t''.
    well (record {
      number = refl;
      after = refl;
      fitting = fits-match C n t;
      fresh = go (find x 0 Γ) (finds x 0 Γ) t';
      room = ltb-true (length Γ) declaration_limit t'';
    }))))
  where
    go : (o : Option ℕ) → Found x 0 Γ o → option true (λ i. false) o ≡ true → opens Γ at x ≡ none
    go none (missing e) h = e
    go (some i) (found j e l e') h = absurd (false≢true h)

-- N is of the list.
pub listed : (b : Block) (Γ : Declarations) → Yields (Still Γ (λ _. Listed b)) (good_block b Γ)
unfolding good_block
listed none Γ = well (refl, no_block)
listed (some n) Γ = go (n.0 among lengths) block
  where
    go : (t : Bool) → (t ≡ true → Listed (some n)) → Yields (Still Γ (λ _. Listed (some n))) (check t LengthNotListed n.1 Γ)
    go true h = well (refl, h refl)
    go false h = refusal tt

-- What a declaration leaves.
pub one_declared : (k : Kind) (n p : ℕ) (x : Name) (Γ : Declarations) → length Γ < declaration_limit →
    Declares 1 Γ (with_one k n p x Γ)
unfolding with_one
one_declared k n p x Γ r = record { new = _; behind = refl; count = refl; within = λ h. omega arith }

-- A statement, or a sequence: what it declares, and that the rules type it.
pub record Stated (s : Stmt) (C : ℕ) (Γ : Declarations) (P : Program) (Γ' : Declarations) : Type 0 where
  pub declares : Declares (declarations s) Γ Γ'
  pub types : opens Γ ∣ C ⊢ s ⊣ opens Γ'

pub record StatedAll (l : Stmts) (C : ℕ) (Γ : Declarations) (P : Program) (Γ' : Declarations) : Type 0 where
  pub declares : Declares (declarations_in l) Γ Γ'
  pub types : opens Γ ∣ C ⊢* l ⊣ opens Γ'

-- "Braces, branches and bodies are scopes": D is what is typed inside; the names after it are those before it.
pub record Scoped (n : ℕ) (D : Names → Type 0) (Γ Γ' : Declarations) : Type 0 where
  pub declares : Declares n Γ Γ'
  pub closed : opens Γ' ≡ opens Γ
  pub inside : Names
  pub types : D inside

pub shut_behind : (Γ Δ : Declarations) → take (length Γ) (Γ ++ Δ) ++ map shut (drop (length Γ) (Γ ++ Δ)) ≡ Γ ++ map shut Δ
shut_behind Γ Δ = rw (take-append_seam, drop-append_seam)

pub in_scope : {n : ℕ} {Γ Γ' : Declarations} (D : Names → Type 0) → Declares n Γ Γ' → D (opens Γ') →
    Scoped n D Γ (take (length Γ) Γ' ++ map shut (drop (length Γ) Γ'))
in_scope {Γ} {Γ'} D d h = record {
  declares = record {
    new = map shut d.new;
    behind = rw d.behind (shut_behind Γ d.new);
    count = length-map d.new shut ∙ d.count;
    within = d.within;
  };
  closed = rw (d.behind, shut_behind) (opens_after-scope Γ d.new);
  inside = opens Γ';
  types = h;
}

-- A branch or a body.
abbrev pub Branch : Stmt → ℕ → Declarations → Program → Declarations → Type 0
Branch s C Γ P Γ' = Scoped (declarations s) (λ N. opens Γ ∣ C ⊢ s ⊣ N) Γ Γ'

pub branch : {s : Stmt} {C : ℕ} {Γ : Declarations} → Yields (Stated s C Γ) (typed_statement C s Γ) →
    Yields (Branch s C Γ) (scope (typed_statement C s) Γ)
unfolding scope
branch {s} {C} {Γ} y = followed _ y (λ P Γ' h. well (in_scope (λ N. opens Γ ∣ C ⊢ s ⊣ N) h.declares h.types))

-- A declaration, by t_decl or t_init.
declared_by_rules : (C p : ℕ) (k : Kind) (b : Block) (q : ℕ) (x : Name) (v : Option (ℕ × Expr)) (Γ : Declarations) →
    Yields (Stated (declare p k b q x v) C Γ) (typed_declaration C p k b q x v Γ)
unfolding typed_declaration declarations
declared_by_rules C p k b q x none Γ =
    let n = lanes_or 1 b in
    keeping _ (listed b Γ) (λ _ good.
    followed _ (names_one C k n q x Γ) (λ i Γ' h.
    well (rw h.after (record {
      declares = one_declared k n q x Γ h.room;
      types = rw opens_with_one (t_decl good h.fitting h.fresh);
    }))))
declared_by_rules C p k b q x (some v) Γ =
    keeping _ (listed b Γ) (λ _ good.
    keeping _ (typed_by_rules C v.1 Γ) (λ a d.
    let n = lanes_or a.lanes b in
    keeping _ (stores C v.0 k n a Γ) (λ _ s.
    followed _ (names_one C k n q x Γ) (λ i Γ' h.
    well (rw h.after (record {
      declares = one_declared k n q x Γ h.room;
      types = rw opens_with_one (t_init good (rw s.kind at d) s.fill (s.wide h.fitting) h.fresh);
    }))))))

-- An assignment, by t_assign or t_broadcast.
assigned : {Γ : Names} {C p q n l : ℕ} {k : Kind} {x : Name} {e : Expr} → Γ at x ≡ some (k, n) → Γ ∣ C ⊢ e ∶⟨ k ∣ l ⟩ →
    Fills l n → Target C n → Γ ∣ C ⊢ assign p x q e ⊣ Γ
assigned h d (whole e) t = t_assign h (rw e at d) t
assigned h d (broadcast e) t = t_broadcast h (rw e at d) t

mutual
  unfolding typed_statement declarations scope

  pub stated_by_rules : (s : Stmt) (C : ℕ) (Γ : Declarations) → Yields (Stated s C Γ) (typed_statement C s Γ)
  stated_by_rules (empty p) C Γ = well (record { declares = none_declared; types = t_skip })
  stated_by_rules (braces p l) C Γ =
      followed _ (sequence_by_rules l C Γ) (λ P Γ' h.
      let i = in_scope (λ N. opens Γ ∣ C ⊢* l ⊣ N) h.declares h.types in
      well (record { declares = i.declares; types = rw i.closed (t_scope i.types) }))
  stated_by_rules (declare p k b q x v) C Γ = declared_by_rules C p k b q x v Γ
  stated_by_rules (assign p x q e) C Γ =
      keeping _ (names C p x Γ) (λ v h.
      keeping _ (typed_by_rules C e Γ) (λ a d.
      keeping _ (stores C q v.1.kind v.1.lanes a Γ) (λ _ s.
      well (record {
        declares = none_declared;
        types = assigned h.named (rw s.kind at d) s.fill (s.wide h.fitting);
      }))))
  stated_by_rules (if_else p e s t) C Γ =
      keeping _ (conditions C p e Γ) (λ a d.
      let C' = joined a.lanes C in
      followed _ (branch (stated_by_rules s C' Γ)) (λ P Γ₁ h.
      followed _ (branch (stated_by_rules t C' Γ₁)) (λ P' Γ₂ h'.
      well (record {
        declares = then_declared h.declares h'.declares;
        types = rw (h'.closed, h.closed) (t_if d (matches_context d) h.types (rw h.closed at h'.types));
      }))))
  stated_by_rules (while p e s) C Γ =
      keeping _ (conditions C p e Γ) (λ a d.
      followed _ (branch (stated_by_rules s (joined a.lanes C) Γ)) (λ P Γ₁ h.
      well (record { declares = h.declares; types = rw h.closed (t_while d (matches_context d) h.types) })))
  stated_by_rules (scalar p s) C Γ =
      followed _ (branch (stated_by_rules s 1 Γ)) (λ P Γ₁ h.
      well (record { declares = h.declares; types = rw h.closed (t_scalar h.types) }))

  pub sequence_by_rules : (l : Stmts) (C : ℕ) (Γ : Declarations) → Yields (StatedAll l C Γ) (typed_statements C l Γ)
  sequence_by_rules none_yet C Γ = well (record { declares = none_declared; types = t_none })
  sequence_by_rules (l ⨾ s) C Γ =
      followed _ (sequence_by_rules l C Γ) (λ P Γ₁ h.
      followed _ (stated_by_rules s C Γ₁) (λ P' Γ₂ h'.
      well (record { declares = then_declared h.declares h'.declares; types = t_sequence h.types h'.types })))
