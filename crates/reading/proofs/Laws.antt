-- How the definitions read a statement: one law for each way through the code.
use Prim.Native.Nat.{ℕ, zero, suc, ◌+◌, ◌-◌, ◌<◌, ◌≤◌}
use Prim.Native.String.{String}
use mathlib.Core.Logic.{◌⊎◌, inl, inr}
use mathlib.Core.Path.{◌≡◌, refl, ◌∙◌}
use mathlib.Core.Bool.{true, false, ◌||◌, or-false}
use mathlib.Core.List.{List, [], ◌++◌}
use native.Mathlib.Numerals.{add-one, sub-one}
use native.Mathlib.Omega.{arith}
use lib.Dec.{eqb}
use lib.ListN.{length, length-append}
use lib.Seq.{sets, length-sets}
use borrow.Author.Tests.{eq-eqb, ne_eqb}
use Rattle.meaning.specs.declared.Kind.{Kind}
use Rattle.meaning.specs.declared.Kind.TheVariants.{Int as int, Bool as bool, Float as float}
use Rattle.meaning.specs.declared.Refusal.{Refusal}
use Rattle.meaning.specs.declared.Refusal.TheVariants.{NotAllowed, TooDeep}
use Rattle.meaning.specs.Codes.{Out, ok, refused, after, ◌>>=◌, give, repeat, ◌among◌}
use Rattle.meaning.specs.Tokens.{Token, the, words, marks, numbered, reserved, signs}
use Rattle.meaning.specs.Tree.{kinds, Expr, Stmt, empty, braces, if_else, while, scalar, Stmts, none_yet, ◌⨾◌}
use Rattle.meaning.specs.Reading.{Reads, ◌⇒◌, begins, look, next, choose, expect, as_long, no_room, parenthesised, declaration, assignment, condition, opening, another, sequence, statement_over, statement}
use Rattle.layout.specs.Words.{unit, flat, headed, kind_tag, flat_stmt, flat_stmts}
use Rattle.reading_expressions.specs.Contract.{Appends, Read, token_at}
use Rattle.reading_expressions.proofs.Answers.{Leaf, SoFar, turn_left, appends_then, appends_none, appends_size, appends_head}
use Rattle.reading_expressions.proofs.Laws.{Seen, expected, not_expected}
use Rattle.reading.specs.Contract.{inner, braced, other, one_more, listed, BeginsDeclaration, with_head, with_long_head}

-- A unit of a head is written before the parts that stand behind it.
pub appends_unit : {a b c : List ℕ} {n q x y z : ℕ} {w : List ℕ} → n + 3 ≤ length a → q ≤ length b → Appends a (n + 3) b q w → c ≡ sets b n (unit x y z)
    → Appends a n c q (unit x y z ++ w)
appends_unit {x = x} {y} {z} le le' parts e = rw e (appends_head (unit x y z) le le' parts)

-- Its first unit has how many words follow.
pub appends_headed : {a b c : List ℕ} {n q : ℕ} (tag p : ℕ) (h w : List ℕ) → n + 3 ≤ length a → q ≤ length b → Appends a (n + 3) b q (h ++ w)
    → c ≡ with_head tag p n q b → Appends a n c q (headed tag p h w)
unfolding headed
appends_headed {n = n} {q} tag p h w le le' parts e =
    let size : q - (n + 3) ≡ length h + length w = omega (arith, appends_size le le' parts, length-append h w) in
    rw size at (appends_unit le le' parts e)

-- A head of two units, the second of which has the words x and y of two parts.
pub appends_long : {a b c : List ℕ} {n q x y : ℕ} (tag p i j : ℕ) (w : List ℕ) → n + 3 + 3 ≤ length a → q ≤ length b → Appends a (n + 3 + 3) b q w
    → c ≡ with_long_head tag p n i j q b → i - (n + 6) ≡ x → j - i ≡ y → Appends a n c q (headed tag p (unit x y 0) w)
appends_long tag p i j w le le' parts e first second =
    rw (← first, ← second) (appends_headed tag p (unit _ _ 0) w (omega arith) (rw length-sets le') (appends_unit le le' parts refl) e)

-- A statement, where r more levels may open.
pub statement_is : (ts : List Token) (r at : ℕ) → statement ts r at ≡ statement_over ts r (inner ts r) (braced ts r) at
unfolding statement inner braced
statement_is ts zero at = refl
statement_is ts (suc r) at = refl

-- Statements, by their first token.
module _ {ts : List Token} {at k p v : ℕ} (r : ℕ) (t : Seen ts at k p v) where
  pub read_empty : k ≡ 52 → Leaf flat_stmt (statement ts r at) (at + 1) 52 p 0
  unfolding statement_over choose look next ◌⇒◌ kinds the numbered reserved signs words marks flat_stmt headed
  read_empty e = record { what = empty p; is = rw (statement_is, add-one, t.is, e, t.place); words = refl }

  pub read_braces : k ≡ the "{" → statement ts r at ≡ after (braced ts r (token_at ts at) (at + 1)) (λ l. give (braces p l))
  unfolding statement_over choose look next ◌⇒◌ kinds the numbered reserved signs words marks
  read_braces e = rw (statement_is, add-one, t.is, e, t.place)

  pub read_declaration : (d : BeginsDeclaration k) → statement ts r at ≡ declaration ts r d.kind (token_at ts at) (at + 1)
  unfolding statement_over choose look next ◌⇒◌ kinds the numbered reserved signs words marks kind_tag
  read_declaration d = go d.kind d.is
    where
      go : (kd : Kind) → k ≡ kind_tag kd → statement ts r at ≡ declaration ts r kd (token_at ts at) (at + 1)
      go int e = rw (statement_is, add-one, t.is, e)
      go bool e = rw (statement_is, add-one, t.is, e)
      go float e = rw (statement_is, add-one, t.is, e)

  pub read_assignment : k ≡ the "name" → statement ts r at ≡ assignment ts r (token_at ts at) (at + 1)
  unfolding statement_over choose look next ◌⇒◌ kinds the numbered reserved signs words marks
  read_assignment e = rw (statement_is, add-one, t.is, e)

  pub read_if : k ≡ the "if"
      → statement ts r at ≡ after (condition ts r (at + 1)) (λ e. opening ts (inner ts r) >>= λ s. expect ts "else" >>= λ _. opening ts (inner ts r) >>= λ u. give (if_else p e s u))
  unfolding statement_over choose look next ◌⇒◌ kinds the numbered reserved signs words marks
  read_if e = rw (statement_is, add-one, t.is, e, t.place)

  pub read_while : k ≡ the "while" → statement ts r at ≡ after (condition ts r (at + 1)) (λ e. opening ts (inner ts r) >>= λ s. give (while p e s))
  unfolding statement_over choose look next ◌⇒◌ kinds the numbered reserved signs words marks
  read_while e = rw (statement_is, add-one, t.is, e, t.place)

  pub read_scalar : k ≡ the "scalar" → statement ts r at ≡ after (opening ts (inner ts r) (at + 1)) (λ s. give (scalar p s))
  unfolding statement_over choose look next ◌⇒◌ kinds the numbered reserved signs words marks
  read_scalar e = rw (statement_is, add-one, t.is, e, t.place)

  -- A token of another kind, w, is refused.
  pub read_none : {w : ℕ} → w ≡ k → (w ≡ 52 → ⊥) → (w ≡ 53 → ⊥) → (w ≡ 16 → ⊥) → (w ≡ 17 → ⊥) → (w ≡ 26 → ⊥) → (w ≡ 2 → ⊥) → (w ≡ 19 → ⊥) → (w ≡ 21 → ⊥)
      → (w ≡ 22 → ⊥) → statement ts r at ≡ refused NotAllowed p
  unfolding statement_over choose look next ◌⇒◌ kinds the numbered reserved signs words marks
  read_none {w} is a b c d e f g h i =
      rw (statement_is, t.is, ← is, ne_eqb w 52 a, ne_eqb w 53 b, ne_eqb w 16 c, ne_eqb w 17 d, ne_eqb w 26 e, ne_eqb w 2 f, ne_eqb w 19 g, ne_eqb w 21 h, ne_eqb w 22 i, t.place)

-- One act after two others.
pub after_both : {A B C : Type 0} (o : Out ℕ A) (f : A → Reads B) (g : B → Reads C) → after o (λ a q. after (f a q) g) ≡ after (after o f) g
after_both (ok a q) f g = refl
after_both (refused c q) f g = refl

-- With no room a level is refused, and otherwise there is room for one less in it.
module _ (ts : List Token) (r q : ℕ) (t : Token) where
  pub inner_none : r ≡ 0 → inner ts r t q ≡ refused TooDeep t.place
  unfolding inner no_room
  inner_none e = rw e

  pub inner_some : (r ≡ 0 → ⊥) → inner ts r t q ≡ statement ts (r - 1) q
  unfolding inner
  inner_some = go r
    where
      go : (r : ℕ) → (r ≡ 0 → ⊥) → inner ts r t q ≡ statement ts (r - 1) q
      go zero ne = absurd (ne refl)
      go (suc r) ne = rw sub-one

  pub braced_none : r ≡ 0 → braced ts r t q ≡ refused TooDeep t.place
  unfolding braced no_room
  braced_none e = rw e

  pub braced_some : (r ≡ 0 → ⊥) → braced ts r t q ≡ sequence ts "}" (statement ts (r - 1)) q
  unfolding braced
  braced_some = go r
    where
      go : (r : ℕ) → (r ≡ 0 → ⊥) → braced ts r t q ≡ sequence ts "}" (statement ts (r - 1)) q
      go zero ne = absurd (ne refl)
      go (suc r) ne = rw sub-one

-- `int`, `bool` or `float` begins a declaration.
pub begins_declaration : {k : ℕ} → (k ≡ 16) ⊎ ((k ≡ 17) ⊎ (k ≡ 26)) → BeginsDeclaration k
unfolding kind_tag the numbered reserved signs words marks
begins_declaration (inl e) = record { kind = int; is = e }
begins_declaration (inr (inl e)) = record { kind = bool; is = e }
begins_declaration (inr (inr e)) = record { kind = float; is = e }

-- What may begin a statement, by its kind.
pub begins_are : (k : ℕ) → (k among begins) ≡ (eqb k 52 || (eqb k 53 || (eqb k 16 || (eqb k 17 || (eqb k 26 || (eqb k 2 || (eqb k 19 || (eqb k 21 || eqb k 22))))))))
unfolding begins kinds the numbered reserved signs words marks
begins_are k = simp or-false

-- A branch or a body opens at its first token.
module _ {ts : List Token} {at k p v : ℕ} (r : ℕ) (t : Seen ts at k p v) where
  pub opening_none : (k among begins) ≡ false → opening ts (inner ts r) at ≡ refused NotAllowed p
  unfolding opening look
  opening_none e = rw (t.is, e, t.place)

  pub opening_deep : (k among begins) ≡ true → r ≡ 0 → opening ts (inner ts r) at ≡ refused TooDeep p
  unfolding opening look
  opening_deep e z = rw (t.is, e, inner_none ts r at (token_at ts at) z, t.place)

  pub opening_is : (k among begins) ≡ true → (r ≡ 0 → ⊥) → opening ts (inner ts r) at ≡ statement ts (r - 1) at
  unfolding opening look
  opening_is e ne = rw (t.is, e, inner_some ts r at (token_at ts at) ne)

  -- `else`.
  pub other_none : (k ≡ 20 → ⊥) → other ts r at ≡ refused NotAllowed p
  unfolding other the numbered reserved signs words marks
  other_none ne = rw (not_expected "else" t ne)

  pub other_is : k ≡ 20 → other ts r at ≡ opening ts (inner ts r) (at + 1)
  unfolding other the numbered reserved signs words marks
  other_is e = rw (expected "else" t e)

  -- `(` of a condition.
  pub condition_none : (k ≡ 55 → ⊥) → condition ts r at ≡ refused NotAllowed p
  unfolding condition the numbered reserved signs words marks
  condition_none ne = rw (not_expected "(" t ne)

  pub condition_is : k ≡ 55 → condition ts r at ≡ parenthesised ts r (token_at ts at) (at + 1)
  unfolding condition the numbered reserved signs words marks
  condition_is e = rw (expected "(" t e)

-- What statements are read after l, in at most n turns.
abbrev pub going : List Token → ℕ → ℕ → ℕ → Stmts → ℕ → Out ℕ Stmts
going ts close r n l at = repeat n (one_more ts close r) l at

-- Statements are read until the token that closes them.
module _ (close r : ℕ) (ts : List Token) where
  pub list_begins : (at n : ℕ) (tree : List ℕ) → SoFar (listed ts close r at) (going ts close r) flat_stmts (length ts) tree n tree at n
  unfolding listed as_long flat_stmts
  list_begins at n tree = record { turns = length ts; what = none_yet; enough = omega arith; is = refl; wrote = appends_none tree n }

  module _ {o : Out ℕ Stmts} {old new : List ℕ} {n p q k pl v : ℕ} (t : Seen ts p k pl v) (lt : p < length ts) (s : SoFar o (going ts close r) flat_stmts (length ts) old n new p q) where
    pub list_ends : k ≡ close → Read o flat_stmts old n new p q
    unfolding one_more look
    list_ends e = record { what = s.what; is = (turn_left s lt).2 ∙ rw (t.is, eq-eqb k close e); wrote = s.wrote }

    pub list_fails : {c : Refusal} {x : ℕ} → (k ≡ close → ⊥) → statement ts r p ≡ refused c x → o ≡ refused c x
    unfolding one_more look
    list_fails ne e = (turn_left s lt).2 ∙ rw (t.is, ne_eqb k close ne, e)

    pub list_goes_on : {mid : List ℕ} {p' q' : ℕ} → (k ≡ close → ⊥) → p < p' → Read (statement ts r p) flat_stmt new q mid p' q'
        → SoFar o (going ts close r) flat_stmts (length ts) old n mid p' q'
    unfolding one_more look flat_stmts
    list_goes_on ne on d = let u = turn_left s lt in record {
      turns = u.0;
      what = s.what ⨾ d.what;
      enough = omega (arith, u.1);
      is = u.2 ∙ rw (t.is, ne_eqb k close ne, d.is);
      wrote = appends_then s.wrote d.wrote;
    }

-- A sequence is its statements and the token that closes them.
pub sequence_is : (ts : List Token) (s : String) (r at : ℕ) → sequence ts s (statement ts r) at ≡ after (listed ts (the s) r at) (λ l. expect ts s >>= λ _. give l)
unfolding sequence another listed one_more
sequence_is ts s r at = refl

-- Braces.
module _ {ts : List Token} {at k p v : ℕ} (r : ℕ) (t : Seen ts at k p v) (brace : k ≡ the "{") where
  pub braces_deep : r ≡ 0 → statement ts r at ≡ refused TooDeep p
  braces_deep z = rw (read_braces r t brace, braced_none ts r (at + 1) (token_at ts at) z, t.place)

  module _ (ne : r ≡ 0 → ⊥) where
    pub braces_is : statement ts r at ≡ after (after (listed ts 54 (r - 1) (at + 1)) (λ l. expect ts "}" >>= λ _. give l)) (λ l. give (braces p l))
    unfolding the numbered reserved signs words marks
    braces_is = rw (read_braces r t brace, braced_some ts r (at + 1) (token_at ts at) ne, sequence_is ts "}" (r - 1) (at + 1))

    pub braces_refused : {c : Refusal} {x : ℕ} → listed ts 54 (r - 1) (at + 1) ≡ refused c x → statement ts r at ≡ refused c x
    braces_refused e = rw (braces_is, e)

    pub braces_open : {l : Stmts} {q k' p' v' : ℕ} → Seen ts q k' p' v' → listed ts 54 (r - 1) (at + 1) ≡ ok l q → (k' ≡ 54 → ⊥) → statement ts r at ≡ refused NotAllowed p'
    unfolding the numbered reserved signs words marks
    braces_open t' e ne' = rw (braces_is, e, not_expected "}" t' ne')

    pub braces_read : {old mid new : List ℕ} {n q k' p' v' x : ℕ} → Seen ts q k' p' v' → k' ≡ 54 → n + 3 ≤ length old → x ≤ length mid
        → Read (listed ts 54 (r - 1) (at + 1)) flat_stmts old (n + 3) mid q x → new ≡ with_head 53 p n x mid → Read (statement ts r at) flat_stmt old n new (q + 1) x
    unfolding flat_stmt the numbered reserved signs words marks
    braces_read t' close le le' d in_new = record {
      what = braces p d.what;
      is = rw (braces_is, d.is, expected "}" t' close);
      wrote = appends_headed 53 p [] (flat_stmts d.what) le le' d.wrote in_new;
    }

-- `scalar`.
module _ {ts : List Token} {at k p v : ℕ} (r : ℕ) (t : Seen ts at k p v) (word : k ≡ the "scalar") where
  pub scalar_refused : {c : Refusal} {x : ℕ} → opening ts (inner ts r) (at + 1) ≡ refused c x → statement ts r at ≡ refused c x
  scalar_refused e = rw (read_scalar r t word, e)

  pub scalar_read : {old mid new : List ℕ} {n q x : ℕ} → n + 3 ≤ length old → x ≤ length mid → Read (opening ts (inner ts r) (at + 1)) flat_stmt old (n + 3) mid q x
      → new ≡ with_head 22 p n x mid → Read (statement ts r at) flat_stmt old n new q x
  unfolding flat_stmt the numbered reserved signs words marks
  scalar_read le le' d in_new = record {
    what = scalar p d.what;
    is = rw (read_scalar r t word, d.is);
    wrote = appends_headed 22 p [] (flat_stmt d.what) le le' d.wrote in_new;
  }

-- `while`.
module _ {ts : List Token} {at k p v : ℕ} (r : ℕ) (t : Seen ts at k p v) (word : k ≡ the "while") where
  pub while_test_refused : {c : Refusal} {x : ℕ} → condition ts r (at + 1) ≡ refused c x → statement ts r at ≡ refused c x
  while_test_refused e = rw (read_while r t word, e)

  pub while_body_refused : {e : Expr} {q x : ℕ} {c : Refusal} → condition ts r (at + 1) ≡ ok e q → opening ts (inner ts r) q ≡ refused c x → statement ts r at ≡ refused c x
  while_body_refused e f = rw (read_while r t word, e, f)

  pub while_read : {old tree₁ tree₂ new : List ℕ} {n q x q' x' : ℕ} → n + 3 + 3 ≤ length old → x ≤ length tree₁ → x' ≤ length tree₂
      → Read (condition ts r (at + 1)) flat old (n + 3 + 3) tree₁ q x → Read (opening ts (inner ts r) q) flat_stmt tree₁ x tree₂ q' x'
      → new ≡ with_long_head 21 p n x x x' tree₂ → Read (statement ts r at) flat_stmt old n new q' x'
  unfolding flat_stmt the numbered reserved signs words marks
  while_read {n = n} {x = x} le le₁ le₂ e s in_new = record {
    what = while p e.what s.what;
    is = rw (read_while r t word, e.is, s.is);
    wrote = appends_long 21 p x x (flat e.what ++ flat_stmt s.what) le le₂ (appends_then e.wrote s.wrote) in_new (omega (arith, appends_size le le₁ e.wrote)) (omega arith);
  }

-- `if`.
module _ {ts : List Token} {at k p v : ℕ} (r : ℕ) (t : Seen ts at k p v) (word : k ≡ the "if") where
  pub if_test_refused : {c : Refusal} {x : ℕ} → condition ts r (at + 1) ≡ refused c x → statement ts r at ≡ refused c x
  if_test_refused e = rw (read_if r t word, e)

  module _ {e : Expr} {q : ℕ} (test : condition ts r (at + 1) ≡ ok e q) where
    pub if_first_refused : {c : Refusal} {x : ℕ} → opening ts (inner ts r) q ≡ refused c x → statement ts r at ≡ refused c x
    if_first_refused f = rw (read_if r t word, test, f)

    module _ {s : Stmt} {q' : ℕ} (first : opening ts (inner ts r) q ≡ ok s q') where
      pub if_is : statement ts r at ≡ after (other ts r q') (λ u. give (if_else p e s u))
      unfolding other
      if_is = rw (read_if r t word, test, first) (after_both (expect ts "else" q') (λ _. opening ts (inner ts r)) (λ u. give (if_else p e s u)))

      pub if_second_refused : {c : Refusal} {x : ℕ} → other ts r q' ≡ refused c x → statement ts r at ≡ refused c x
      if_second_refused f = rw (if_is, f)

  pub if_read : {old tree₁ tree₂ tree₃ new : List ℕ} {n q x q' x' q'' x'' : ℕ} → n + 3 + 3 ≤ length old → x ≤ length tree₁ → x' ≤ length tree₂ → x'' ≤ length tree₃
      → Read (condition ts r (at + 1)) flat old (n + 3 + 3) tree₁ q x → Read (opening ts (inner ts r) q) flat_stmt tree₁ x tree₂ q' x' → Read (other ts r q') flat_stmt tree₂ x' tree₃ q'' x''
      → new ≡ with_long_head 19 p n x x' x'' tree₃ → Read (statement ts r at) flat_stmt old n new q'' x''
  unfolding flat_stmt the numbered reserved signs words marks
  if_read {n = n} {x = x} {x' = x'} le le₁ le₂ le₃ e s u in_new = record {
    what = if_else p e.what s.what u.what;
    is = rw (if_is e.is s.is, u.is);
    wrote = appends_long 19 p x x' (flat e.what ++ (flat_stmt s.what ++ flat_stmt u.what)) le le₃ (appends_then e.wrote (appends_then s.wrote u.wrote)) in_new
        (omega (arith, appends_size le le₁ e.wrote)) (omega (arith, appends_size le₁ le₂ s.wrote));
  }
