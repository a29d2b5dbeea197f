-- A text without the word `scalar` is a program without `scalar`.
use mathlib.Core.Path.{◌≡◌, refl}
use mathlib.Core.Bool as B
use mathlib.Core.Bool.{Bool, true, false, ◌||◌}
use mathlib.Core.List.{List, [], ◌∷◌, map}
use mathlib.Core.Option.{Option, none, some}
use Prim.Native.Nat.{ℕ, zero, suc}
use Prim.Native.String.{String}
use lib.Dec.{T, eqb, T_not, not_T, eqb→eq}
use lib.ListN.{length, get_or}
use Rattle.meaning.specs.declared.Kind.{Kind}
use Rattle.meaning.specs.declared.Kind.TheVariants.{Int as int, Bool as bool, Float as float}
use Rattle.meaning.specs.declared.Refusal.TheVariants.{NotAllowed}
use Rattle.meaning.specs.Codes.{Out, ok, refused, Doing, after, ◌>>=◌, ◌>>◌, give, refuse, check, option, lookup, when◌then◌else◌, ◌among◌, nesting_limit}
use Rattle.meaning.specs.Tokens.{Token, end_at, the, words, marks, numbered, reserved, signs}
use Rattle.meaning.specs.Tree as T
use Rattle.meaning.specs.Tree.{Name, Expr, Block, Stmt, empty, braces, declare, assign, if_else, while, Stmts, none_yet, ◌⨾◌}
use Rattle.meaning.specs.Reading.{Reads, After, ◌⇒◌, begins, look, next, choose, expect, as_long, no_room, block, expression, condition, declaration, assignment, opening, another, sequence, statement_over, statement, read}
use Rattle.meaning.specs.Program.{Program}
use Rattle.meaning.specs.Memory.{Declarations}
use Rattle.meaning.specs.Typing.{joined, variable_named, typed, typed_condition, storable, declare_name, good_block, lanes_or, typed_declaration, scope, typed_statement, typed_statements, typed_program}
use Rattle.laws.specs.Outcomes.{well, refusal, Yields}
use Rattle.laws.proofs.Outcomes.{followed, said, repeated}
use Rattle.lane.proofs.Tests.{and_both}
use Rattle.lane.proofs.Programs.{no_alone}

-- What an act gives, if it accepts; whatever comes before it.
abbrev pub Gives : {S A : Type 0} → (A → Type 0) → Out S A → Type 0
Gives Q o = Yields (λ a s. Q a) o

gives_past : {S A B : Type 0} {Q : B → Type 0} (m : Out S A) (f : A → Doing S B) → ((a : A) (s : S) → Gives Q (f a s)) → Gives Q (after m f)
gives_past (ok a s) f k = k a s
gives_past (refused c p) f k = refusal tt

-- Trees without `scalar`.
mutual
  pub data Plain : Stmt → Type 0 where
    plain_empty : {p : ℕ} → Plain (empty p)
    plain_braces : {p : ℕ} {l : Stmts} → Plains l → Plain (braces p l)
    plain_declare : {p q : ℕ} {k : Kind} {b : Block} {x : Name} {v : Option (ℕ × Expr)} → Plain (declare p k b q x v)
    plain_assign : {p q : ℕ} {x : Name} {e : Expr} → Plain (assign p x q e)
    plain_if : {p : ℕ} {e : Expr} {s t : Stmt} → Plain s → Plain t → Plain (if_else p e s t)
    plain_while : {p : ℕ} {e : Expr} {s : Stmt} → Plain s → Plain (while p e s)

  pub data Plains : Stmts → Type 0 where
    plain_none : Plains none_yet
    plain_more : {l : Stmts} {s : Stmt} → Plains l → Plain s → Plains (l ⨾ s)

module _ (ts : List Token) (free : (at : ℕ) → T (B.not (eqb (get_or ts at (end_at 0)).is (the "scalar")))) where
  -- The cases of a choice: each gives what is wanted, or is `scalar`.
  data Good {A : Type 0} (Q : A → Type 0) : List (ℕ × After A) → Type 0 where
    no_case : Good Q []
    good : {n : ℕ} {k : After A} {l : List (ℕ × After A)} → ((t : Token) (at : ℕ) → Gives Q (k t at)) → Good Q l → Good Q ((n, k) ∷ l)
    never : {n : ℕ} {k : After A} {l : List (ℕ × After A)} → n ≡ the "scalar" → Good Q l → Good Q ((n, k) ∷ l)

  gives_choose : {A : Type 0} {Q : A → Type 0} {l : List (ℕ × After A)} → Good Q l → (at : ℕ) → Gives Q (choose ts l at)
  unfolding choose look next
  gives_choose {A} {Q} cases at = go cases
    where
      t : Token
      t = get_or ts at (end_at 0)

      found : Option (After A) → Out ℕ A
      found o = option (refuse NotAllowed t.place) (λ k. do next ts; k t) o at

      pick : (n : ℕ) (k : After A) (l : List (ℕ × After A)) → (T (eqb t.is n) → Gives Q (k t (suc at))) → Gives Q (found (lookup (eqb t.is) l))
          → (b : Bool) → eqb t.is n ≡ b → Gives Q (found (when b then (λ _. some k) else λ _. lookup (eqb t.is) l))
      pick n k l h r true e = h (rw e tt)
      pick n k l h r false e = r

      go : {l : List (ℕ × After A)} → Good Q l → Gives Q (found (lookup (eqb t.is) l))
      go no_case = refusal tt
      go (good {n = n} {k = k} {l = l} h g) = pick n k l (λ u. h t (suc at)) (go g) (eqb t.is n) refl
      go (never {n = n} {k = k} {l = l} z g) = pick n k l (λ u. absurd (T_not (eqb t.is (the "scalar")) (free at) (rw z at u))) (go g) (eqb t.is n) refl

  plain_declaration : (r : ℕ) (k : Kind) (t : Token) (at : ℕ) → Gives Plain (declaration ts r k t at)
  unfolding declaration ◌⇒◌
  plain_declaration r k t at =
      gives_past (block ts at) _ (λ b p. gives_past (expect ts "name" p) _ (λ x p. gives_choose (
      good (λ u at. well plain_declare)
      (good (λ q at. gives_past (expression ts r at) _ (λ e p. gives_past (expect ts ";" p) _ (λ u p. well plain_declare)))
      no_case)) p))

  plain_assignment : (r : ℕ) (t : Token) (at : ℕ) → Gives Plain (assignment ts r t at)
  unfolding assignment
  plain_assignment r t at = gives_past (expect ts "=" at) _ (λ q p. gives_past (expression ts r p) _ (λ e p. gives_past (expect ts ";" p) _ (λ u p. well plain_assign)))

  plain_opening : (deep : After Stmt) → ((t : Token) (at : ℕ) → Gives Plain (deep t at)) → (at : ℕ) → Gives Plain (opening ts deep at)
  unfolding opening look
  plain_opening deep h at = let t : Token = get_or ts at (end_at 0) in gives_past (check (t.is among begins) NotAllowed t.place at) _ (λ u p. h t p)

  plain_another : (close : String) (m : Reads Stmt) → ((at : ℕ) → Gives Plain (m at)) → (l : Stmts) (at : ℕ) → Plains l → Gives (λ o. Plains (option l (λ l'. l') o)) (another ts close m l at)
  unfolding another look
  plain_another close m h l at q = go (eqb (get_or ts at (end_at 0)).is (the close))
    where
      either : Bool → Reads (Option Stmts)
      either b = when b then (λ _. give none) else λ _. do s ← m; give (some (l ⨾ s))

      go : (b : Bool) → Gives (λ o. Plains (option l (λ l'. l') o)) (either b at)
      go true = well q
      go false = followed _ (h at) (λ s p w. well (plain_more q w))

  plain_sequence : (close : String) (m : Reads Stmt) → ((at : ℕ) → Gives Plain (m at)) → (at : ℕ) → Gives Plains (sequence ts close m at)
  unfolding sequence as_long
  plain_sequence close m h at = followed _ (repeated (λ l p. Plains l) (another ts close m) (plain_another close m h) (length ts) none_yet at plain_none) (λ l p q. gives_past (expect ts close p) _ (λ u p. well q))

  plain_over : (r : ℕ) (deep : After Stmt) (braced : After Stmts) → ((t : Token) (at : ℕ) → Gives Plain (deep t at)) → ((t : Token) (at : ℕ) → Gives Plains (braced t at)) → (at : ℕ) → Gives Plain (statement_over ts r deep braced at)
  unfolding statement_over ◌⇒◌ T.kinds
  plain_over r deep braced h k = gives_choose (
      good (λ t at. well plain_empty)
      (good (λ t at. followed _ (k t at) (λ l p q. well (plain_braces q)))
      (good (plain_declaration r int)
      (good (plain_declaration r bool)
      (good (plain_declaration r float)
      (good (plain_assignment r)
      (good (λ t at. gives_past (condition ts r at) _ (λ e p. followed _ (plain_opening deep h p) (λ s p q. gives_past (expect ts "else" p) _ (λ u p. followed _ (plain_opening deep h p) (λ s' p q'. well (plain_if q q'))))))
      (good (λ t at. gives_past (condition ts r at) _ (λ e p. followed _ (plain_opening deep h p) (λ s p q. well (plain_while q))))
      (never refl
      no_case)))))))))

  plain_statement : (r : ℕ) (at : ℕ) → Gives Plain (statement ts r at)
  unfolding statement no_room
  plain_statement zero = plain_over zero _ _ (λ t at. refusal tt) (λ t at. refusal tt)
  plain_statement (suc r) = plain_over (suc r) _ _ (λ t. plain_statement r) (λ t. plain_sequence "}" (statement ts r) (plain_statement r))

  pub plain_read : Gives Plains (read ts)
  unfolding read
  plain_read = plain_sequence "end" (statement ts nesting_limit) (plain_statement nesting_limit) 0

-- A tree without `scalar` is typed as a program without it.
abbrev Free : Program → Type 0
Free P = T (no_alone P)

free_scope : (m : Declarations → Out Declarations Program) (Γ : Declarations) → Gives Free (m Γ) → Gives Free (scope m Γ)
unfolding scope
free_scope m Γ h = followed _ h (λ P Γ' f. well f)

free_declaration : (C p : ℕ) (k : Kind) (b : Block) (q : ℕ) (x : Name) (v : Option (ℕ × Expr)) (Γ : Declarations) → Gives Free (typed_declaration C p k b q x v Γ)
unfolding typed_declaration no_alone
free_declaration C p k b q x none Γ = gives_past (good_block b Γ) _ (λ u Γ. gives_past (declare_name C k (lanes_or 1 b) q x Γ) _ (λ i Γ. well tt))
free_declaration C p k b q x (some v) Γ =
    gives_past (good_block b Γ) _
    (λ u Γ. gives_past (typed C v.1 Γ) _
    (λ a Γ. gives_past (storable C v.0 k (lanes_or a.lanes b) a Γ) _
    (λ u Γ. gives_past (declare_name C k (lanes_or a.lanes b) q x Γ) _ (λ i Γ. well tt))))

mutual
  unfolding typed_statement no_alone

  free_statement : {s : Stmt} → Plain s → (C : ℕ) (Γ : Declarations) → Gives Free (typed_statement C s Γ)
  free_statement plain_empty C Γ = well tt
  free_statement (plain_braces {l = l} h) C Γ = free_scope (typed_statements C l) Γ (free_statements h C Γ)
  free_statement (plain_declare {p = p} {q = q} {k = k} {b = b} {x = x} {v = v}) C Γ = free_declaration C p k b q x v Γ
  free_statement (plain_assign {p = p} {q = q} {x = x} {e = e}) C Γ =
      gives_past (variable_named C p x Γ) _ (λ d Γ. gives_past (typed C e Γ) _ (λ a Γ. gives_past (storable C q d.1.kind d.1.lanes a Γ) _ (λ u Γ. well tt)))
  free_statement (plain_if {p = p} {e = e} {s = s} {t = t} h k) C Γ =
      gives_past (typed_condition C p e Γ) _
      (λ a Γ. followed _ (free_scope (typed_statement (joined a.lanes C) s) Γ (free_statement h (joined a.lanes C) Γ))
      (λ P Γ f. followed _ (free_scope (typed_statement (joined a.lanes C) t) Γ (free_statement k (joined a.lanes C) Γ))
      (λ R Γ g. well (and_both (no_alone P) (no_alone R) f g))))
  free_statement (plain_while {p = p} {e = e} {s = s} h) C Γ =
      gives_past (typed_condition C p e Γ) _
      (λ a Γ. followed _ (free_scope (typed_statement (joined a.lanes C) s) Γ (free_statement h (joined a.lanes C) Γ)) (λ P Γ f. well f))

  free_statements : {l : Stmts} → Plains l → (C : ℕ) (Γ : Declarations) → Gives Free (typed_statements C l Γ)
  free_statements plain_none C Γ = well tt
  free_statements (plain_more {s = s} h k) C Γ = followed _ (free_statements h C Γ) (λ P Γ' f. followed _ (free_statement k C Γ') (λ R Γ'' g. well (and_both (no_alone P) (no_alone R) f g)))

neither : (a b : Bool) → T (B.not (a || b)) → T (B.not a) × T (B.not b)
neither true b h = absurd h
neither false b h = (tt, h)

-- Of a list of tokens without the word, each token.
no_scalar_at : (ts : List Token) → T (B.not (the "scalar" among map (λ (t : Token). t.is) ts)) → (at : ℕ) → T (B.not (eqb (get_or ts at (end_at 0)).is (the "scalar")))
unfolding end_at the words marks numbered reserved signs
no_scalar_at [] h at = tt
no_scalar_at (t ∷ ts) h zero =
    not_T (eqb t.is (the "scalar")) (λ u. T_not (eqb (the "scalar") t.is) (neither (eqb (the "scalar") t.is) _ h).0 (rw (eqb→eq t.is (the "scalar") u) tt))
no_scalar_at (t ∷ ts) h (suc at) = no_scalar_at ts (neither (eqb (the "scalar") t.is) _ h).1 at

-- What is read and typed of them has none.
pub free_program : (ts : List Token) → T (B.not (the "scalar" among map (λ (t : Token). t.is) ts)) → (l : Stmts) (q : ℕ) → read ts ≡ ok l q → (P : Program) (Γ : Declarations) → typed_program l ≡ ok P Γ → T (no_alone P)
unfolding typed_program
free_program ts h l q e P Γ z =
    let plain : Plains l = said (plain_read ts (no_scalar_at ts h)) e in
    said (free_statements plain 1 []) z
