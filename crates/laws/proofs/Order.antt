-- "in text order": the names of an accepted text's declarations stand in it one after another, as the declarations do.
use Prim.Native.Nat.{ℕ, ◌≤◌, ◌<◌}
use mathlib.Core.Path.{◌≡◌, refl, sym, ap, ◌∙◌}
use mathlib.Core.Logic.{⊎_elim}
use mathlib.Core.Bool.{Bool, true, false, ◌||◌, not}
use mathlib.Core.List.{List, [], ◌∷◌, ◌++◌}
use mathlib.Core.Option.{Option, none, some}
use native.Mathlib.Omega.{arith}
use native.Mathlib.Nat.{le_refl, eq-or-lt_of_le}
use lib.Dec.{ltb, eqb}
use lib.ListN.{length, get_or-eq_default}
use borrow.Author.Tests.{ltb-true, ltb-false}
use Rattle.meaning.specs.declared.Kind.{Kind}
use Rattle.meaning.specs.declared.Kind.TheVariants.{Bool as bool}
use Rattle.meaning.specs.declared.Refusal.TheVariants.{UnknownName, AlreadyOpen, LengthNotListed, WrongKind, WrongLength, LengthOneTarget, TooManyDeclarations}
use Rattle.meaning.specs.Codes.{Out, ok, after, give, refuse, option, check, ◌among◌, declaration_limit, lengths}
use Rattle.meaning.specs.Tokens.{Token, end_at, the}
use Rattle.meaning.specs.Tree.{Name, same_kind, ◌one_of◌, table, unary_table, Expr, number, float_number, boolean, name, current_mask, unary, binary, Block, Stmt, empty, braces, declare, assign, if_else, while, scalar, Stmts, none_yet, ◌⨾◌}
use Rattle.meaning.specs.Reading.{read}
use Rattle.meaning.specs.Program.{Program}
use Rattle.meaning.specs.Memory.{Declared, Declarations, declared, whole, next_multiple, need}
use Rattle.meaning.specs.Typing.{Types, Typed, accepts, match, joined, fits, find, variable_named, typed, typed_condition, storable, with_one, declare_name, good_block, lanes_or, typed_declaration, shut, scope, typed_statement, typed_statements, typed_program}
use Rattle.meaning.specs.Services.{pass, judged}
use Rattle.laws.specs.Outcomes.{Yields, Still, well, refusal}
use Rattle.laws.specs.Declarations.{Alike}
use Rattle.laws.specs.Order.{token_at, Up, Stands, Rises, rises_empty, rises_braces, rises_declare, rises_assign, rises_if, rises_while, rises_scalar, AllRise, rises_none, rises_more, InTextOrder}
use Rattle.laws.proofs.Outcomes.{weaker, also, still, followed, keeping, passed_on, refused_as, said, checked, passed}
use Rattle.laws.proofs.The.{name_not_end}
use Rattle.laws.proofs.Tokens.{lexed_ends}
use Rattle.laws.proofs.Declarations.{new_length, new_declared, old_declared, each_new, closing_alike, alike_length, alike_declared}
use Rattle.laws.proofs.TokenOrder.{lexed_up}
use Rattle.laws.proofs.NameOrder.{wider_stands, read_rises}

-- Typing an expression, and the tests around it, leave the declarations as they are.
abbrev Stays : {A : Type 0} → Declarations → Out Declarations A → Type 0
Stays Γ o = Yields (Still Γ (λ _. Unit {0})) o

named_stays : (C p : ℕ) (x : Name) (Γ : Declarations) → Stays Γ (variable_named C p x Γ)
unfolding variable_named
named_stays C p x Γ = go (find x 0 Γ)
  where
    go : (o : Option ℕ) → Stays {A = ℕ × Declared} Γ (option (refuse UnknownName p) (λ i Δ. after (check (fits C (declared Γ i).lanes) WrongLength p Δ) (λ _. give (i, declared Γ i))) o Γ)
    go none = refusal tt
    go (some i) = passed (fits C (declared Γ i).lanes) WrongLength p Γ _ tt (λ _. still tt)

typed_stays : (C : ℕ) (e : Expr) (Γ : Declarations) → Stays Γ (typed C e Γ)
unfolding typed
typed_stays C (number n) Γ = still tt
typed_stays C (float_number n) Γ = still tt
typed_stays C (boolean b) Γ = still tt
typed_stays C (name p x) Γ = keeping _ (named_stays C p x Γ) (λ v _. still tt)
typed_stays C current_mask Γ = still tt
typed_stays C (unary p o e) Γ = keeping _ (typed_stays C e Γ) (λ a _. passed (a.kind one_of (unary_table o).1) WrongKind p Γ _ tt (λ _. still tt))
typed_stays C (binary p o e e') Γ =
    keeping _ (typed_stays C e Γ) (λ a _.
    keeping _ (typed_stays C e' Γ) (λ b _.
    passed (accepts (table o).1 a.kind b.kind) WrongKind p Γ _ tt (λ _.
    passed (match a.lanes b.lanes) WrongLength p Γ _ tt (λ _. still tt))))

condition_stays : (C p : ℕ) (e : Expr) (Γ : Declarations) → Stays Γ (typed_condition C p e Γ)
unfolding typed_condition
condition_stays C p e Γ = keeping _ (typed_stays C e Γ) (λ a _. passed (same_kind a.kind bool) WrongKind p Γ _ tt (λ _. still tt))

storable_stays : (C p : ℕ) (k : Kind) (n : ℕ) (a : Typed) (Γ : Declarations) → Stays Γ (storable C p k n a Γ)
unfolding storable
storable_stays C p k n a Γ =
    passed (same_kind a.kind k) WrongKind p Γ _ tt (λ _.
    passed (eqb a.lanes 1 || eqb a.lanes n) WrongLength p Γ _ tt (λ _.
    checked (eqb C 1 || not (eqb n 1)) LengthOneTarget p Γ tt (λ _. (refl, tt))))

block_stays : (b : Block) (Γ : Declarations) → Stays Γ (good_block b Γ)
unfolding good_block
block_stays none Γ = still tt
block_stays (some (n, p)) Γ = checked (n among lengths) LengthNotListed p Γ tt (λ _. (refl, tt))

-- Declarations whose names stand before position hi, one after another.
record Behind (ts : List Token) (hi : ℕ) (Γ : Declarations) : Type 0 where
  stands : (x : ℕ) → x < length Γ → Stands ts 0 hi (declared Γ x).place
  rising : (x y : ℕ) → x < y → y < length Γ → (declared Γ x).place < (declared Γ y).place

module _ {ts : List Token} where
  behind_more : {lo hi : ℕ} {Γ : Declarations} → lo ≤ hi → Behind ts lo Γ → Behind ts hi Γ
  behind_more l b = record { stands = λ x h. wider_stands (le_refl 0) l (b.stands x h); rising = b.rising }

  behind_alike : {hi : ℕ} {Γ Δ : Declarations} → Alike Γ Δ → Behind ts hi Γ → Behind ts hi Δ
  unfolding shut
  behind_alike {hi} {Γ} {Δ} a b =
      let l = alike_length a in
      record {
        stands = λ x h. rw (same x) (b.stands x (omega arith));
        rising = λ x y h g. rw (same x, same y) (b.rising x y h (omega arith));
      }
    where
      same : (x : ℕ) → (declared Δ x).place ≡ (declared Γ x).place
      same x = ap (λ (d : Declared). d.place) (alike_declared x a)

  module _ {n : ℕ} (up : Up n ts) where
    -- A name is one of the tokens, and what stands before it has a lower place.
    named_in : (at : ℕ) → (token_at ts at).is ≡ the "name" → at < length ts
    unfolding end_at
    named_in at e = go (ltb at (length ts)) refl
      where
        go : (b : Bool) → ltb at (length ts) ≡ b → at < length ts
        go true t = ltb-true at (length ts) t
        go false t =
            let gone : token_at ts at ≡ end_at 0 = get_or-eq_default ts (end_at 0) (ltb-false at (length ts) t) in
            absurd (name_not_end (sym e ∙ ap (λ (t : Token). t.is) gone))

    earlier : {lo hi p q : ℕ} → Stands ts 0 lo p → Stands ts lo hi q → p < q
    earlier s t = rw (s.is, t.is) (up.rising s.at t.at (omega (arith, s.before, t.from)) (named_in t.at t.named))

    behind_one : {lo hi : ℕ} {Γ : Declarations} (d : Declared) → Stands ts lo hi d.place → Behind ts lo Γ → Behind ts hi (Γ ++ (d ∷ []))
    behind_one {lo} {hi} {Γ} d s b = record {
      stands = each_new Γ d (λ e. Stands ts 0 hi e.place) (λ x h. wider_stands (le_refl 0) (omega (arith, s.from, s.before)) (b.stands x h)) (wider_stands (omega arith) (le_refl hi) s);
      rising = rise;
    }
      where
        rise : (x y : ℕ) → x < y → y < length (Γ ++ (d ∷ [])) → (declared (Γ ++ (d ∷ [])) x).place < (declared (Γ ++ (d ∷ [])) y).place
        rise x y h g =
            let first : x < length Γ = omega (arith, new_length Γ d) in
            let le : y ≤ length Γ = omega (arith, new_length Γ d) in
            rw (old_declared Γ d x first)
            (⊎_elim
            (λ (e : y ≡ length Γ). rw (e, new_declared Γ d) (earlier (b.stands x first) s))
            (λ (lt : y < length Γ). rw (old_declared Γ d y lt) (b.rising x y h lt))
            (eq-or-lt_of_le le))

    declare_behind : (C : ℕ) (k : Kind) (l q : ℕ) (x : Name) (Γ : Declarations) {lo hi : ℕ} → Stands ts lo hi q → Behind ts lo Γ → Yields (λ _ Δ. Behind ts hi Δ) (declare_name C k l q x Γ)
    unfolding declare_name with_one
    declare_behind C k l q x Γ s b =
        passed (fits C l) WrongLength q Γ _ tt (λ _.
        passed (option true (λ i. false) (find x 0 Γ)) AlreadyOpen q Γ _ tt (λ _.
        passed (ltb (length Γ) declaration_limit) TooManyDeclarations q Γ _ tt (λ _.
        well {a = length Γ} (behind_one (record { name = x; place = q; kind = k; lanes = l; address = next_multiple (need Γ) (whole k l); open? = true }) s b))))

    scoped : {hi : ℕ} (m : Types Program) {Γ : Declarations} → Yields (λ _ Δ. Behind ts hi Δ) (m Γ) → Yields (λ _ Δ. Behind ts hi Δ) (scope m Γ)
    unfolding scope
    scoped m {Γ} h = followed _ h (λ P Δ b. well {a = P} (behind_alike (closing_alike (length Γ) Δ) b))

    declaration_behind : (C p : ℕ) (k : Kind) (b : Block) (q : ℕ) (x : Name) (v : Option (ℕ × Expr)) (Γ : Declarations) {lo hi : ℕ} → Stands ts lo hi q → Behind ts lo Γ
        → Yields (λ _ Δ. Behind ts hi Δ) (typed_declaration C p k b q x v Γ)
    unfolding typed_declaration
    declaration_behind C p k b q x none Γ s h =
        keeping _ (block_stays b Γ) (λ _ _.
        followed _ (declare_behind C k (lanes_or 1 b) q x Γ s h) (λ i Δ d. well {s = Δ} d))
    declaration_behind C p k b q x (some (e, v)) Γ s h =
        keeping _ (block_stays b Γ) (λ _ _.
        keeping _ (typed_stays C v Γ) (λ a _.
        keeping _ (storable_stays C e k (lanes_or a.lanes b) a Γ) (λ _ _.
        followed _ (declare_behind C k (lanes_or a.lanes b) q x Γ s h) (λ i Δ d. well {s = Δ} d))))

    mutual
      unfolding typed_statement

      statement_behind : (C : ℕ) (s : Stmt) (Γ : Declarations) {lo hi : ℕ} → Rises ts lo hi s → Behind ts lo Γ → Yields (λ _ Δ. Behind ts hi Δ) (typed_statement C s Γ)
      statement_behind C (empty p) Γ (rises_empty l) b = well {s = Γ} (behind_more l b)
      statement_behind C (braces p l) Γ (rises_braces r) b = scoped (typed_statements C l) (statements_behind C l Γ r b)
      statement_behind C (declare p k bl q x v) Γ (rises_declare s) b = declaration_behind C p k bl q x v Γ s b
      statement_behind C (assign p x q e) Γ (rises_assign l) b =
          keeping _ (named_stays C p x Γ) (λ v _.
          keeping _ (typed_stays C e Γ) (λ a _.
          keeping _ (storable_stays C q v.1.kind v.1.lanes a Γ) (λ _ _. well {s = Γ} (behind_more l b))))
      statement_behind C (if_else p e s t) Γ (rises_if r q) b =
          keeping _ (condition_stays C p e Γ) (λ a _.
          followed _ (scoped (typed_statement (joined a.lanes C) s) (statement_behind (joined a.lanes C) s Γ r b)) (λ P Δ c.
          followed _ (scoped (typed_statement (joined a.lanes C) t) (statement_behind (joined a.lanes C) t Δ q c)) (λ Q Θ d. well {s = Θ} d)))
      statement_behind C (while p e s) Γ (rises_while r) b =
          keeping _ (condition_stays C p e Γ) (λ a _.
          followed _ (scoped (typed_statement (joined a.lanes C) s) (statement_behind (joined a.lanes C) s Γ r b)) (λ P Δ c. well {s = Δ} c))
      statement_behind C (scalar p s) Γ (rises_scalar r) b =
          followed _ (scoped (typed_statement 1 s) (statement_behind 1 s Γ r b)) (λ P Δ c. well {s = Δ} c)

      statements_behind : (C : ℕ) (l : Stmts) (Γ : Declarations) {lo hi : ℕ} → AllRise ts lo hi l → Behind ts lo Γ → Yields (λ _ Δ. Behind ts hi Δ) (typed_statements C l Γ)
      statements_behind C none_yet Γ (rises_none l) b = well {s = Γ} (behind_more l b)
      statements_behind C (l ⨾ s) Γ (rises_more r q) b =
          followed _ (statements_behind C l Γ r b) (λ P Δ c.
          followed _ (statement_behind C s Δ q c) (λ Q Θ d. well {s = Θ} d))

    program_behind : (l : Stmts) {hi : ℕ} → AllRise ts 0 hi l → Yields (λ _ Γ. Behind ts hi Γ) (typed_program l)
    unfolding typed_program
    program_behind l r = statements_behind 1 l [] r (record { stands = λ x h. absurd (omega arith); rising = λ x y h g. absurd (omega arith) })

-- The names of an accepted text's declarations stand in it one after another.
judged_rising : (text : List ℕ) → Yields (λ _ Γ. InTextOrder Γ) (judged text)
unfolding judged
judged_rising text =
    let tokens = also (refused_as (lexed_ends text) (λ c p _. tt)) (lexed_up text) in
    passed_on (λ ts. pass (read ts) typed_program) tokens (λ ts p t.
    passed_on typed_program (read_rises text ts t.0.spelled) (λ l q r.
    weaker (program_behind t.1 l r) (λ P Γ b. record { rising = b.rising })))

pub accepted_rising : (text : List ℕ) {P : Program} {Γ : Declarations} → judged text ≡ ok P Γ → InTextOrder Γ
accepted_rising text e = said (judged_rising text) e
