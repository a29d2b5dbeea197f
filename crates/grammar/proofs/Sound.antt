-- What is read has a derivation, whose tokens are those that were passed; nesting stays within the room that the reader had.
use Prim.Native.Nat.{ℕ, zero, suc, ◌<◌}
use Prim.Native.String.{String}
use mathlib.Core.Path.{◌≡◌, refl, sym, ap, ◌∙◌}
use mathlib.Core.Bool.{Bool, true, false}
use mathlib.Core.List.{List, [], ◌∷◌}
use mathlib.Core.Option.{Option, none, some}
use native.Mathlib.Omega.{arith}
use native.Mathlib.Decide.{dec_lt}
use lib.Dec.{eqb}
use lib.ListN.{length, get_or, drop, get_or-eq_default, drop_of_length-le}
use lib.Seq.{drop-cons, drop-length}
use borrow.Author.Tests.{eqb-true, eqb-false}
use Rattle.meaning.specs.declared.Refusal.TheVariants.{NotAllowed}
use Rattle.meaning.specs.declared.Binary.{Binary}
use Rattle.meaning.specs.Codes.{ok, after, give, refuse, option, lookup, when◌then◌else◌, ◌among◌, nesting_limit}
use Rattle.meaning.specs.Tokens.{Token, end_at, the, words, marks, numbered, reserved, signs}
use Rattle.meaning.specs.Tree as T
use Rattle.meaning.specs.Tree.{kinds, unary_table, levels, Expr, Block, Stmt, Stmts}
use Rattle.meaning.specs.Reading as R
use Rattle.meaning.specs.Reading.{Reads, After, ◌⇒◌, operator, look, next, choose, expect, as_long, more, binaries, operand, no_room, closed, unaries, condition, opening, another, sequence, statement_over, read, begins}
use Rattle.laws.specs.Tokens.{AllIn}
use Rattle.laws.specs.Outcomes.{well, refusal, Yields}
use Rattle.laws.proofs.Tokens.{spelled_some}
use Rattle.laws.proofs.Outcomes.{followed, weaker, passed, repeated, said}
use Rattle.grammar.specs.Grammar
use Rattle.grammar.specs.Grammar.{The, every_level, no_level, Sign, Expression, KindWord, Statement, Statements, none_yet, ◌⨾◌, token, sign_token, kind_token, expression_nesting, statement_nesting, statements_nesting, sign_of, expression_tree, kind_of, block_of, statement_tree, statements_tree, program_tokens, program_nesting, program_tree, Derives}
use Rattle.grammar.proofs.Written.{expression_before, block_before, statement_before, statements_before, statements_joins}
use Rattle.grammar.proofs.Ends.{ends, statements_ends, one_end, starts_with_end}
use Rattle.grammar.proofs.Levels.{as_the, as_it_is, of_level, below, every_below, found}

module _ (ts : List Token) where
  -- The token at a position, and the tokens from there on.
  abbrev here : ℕ → Token
  here p = get_or ts p (end_at 0)

  abbrev left : ℕ → List Token
  left p = drop p ts

  -- A token that is not the end stands in the list.
  stays : (p : ℕ) → ((here p).is ≡ the "end" → ⊥) → left p ≡ here p ∷ left (suc p)
  unfolding end_at
  stays p h = go (dec_lt p (length ts))
    where
      go : Dec (p < length ts) → left p ≡ here p ∷ left (suc p)
      go (yes l) = drop-cons ts p (end_at 0) l
      go (no g) = absurd (h (ap (λ t. t.is) (get_or-eq_default ts (end_at 0) (omega (arith, g)))))

  -- A token of the sort s stands at position p.
  abbrev Seen : (s : String) → ℕ → The s → Type 0
  Seen s p x = left p ≡ token x ∷ left (suc p)

  seen : (s : String) (p : ℕ) → eqb (the s) (the "end") ≡ false → (here p).is ≡ the s → Seen s p (as_the s (here p))
  seen s p h e = rw (as_it_is s (here p) e) (stays p (λ z. eqb-false _ _ h (sym e ∙ z)))

  -- What is read from p to q is the tree of a derivation: its tokens are those from p to q, and it nests less than b.
  record As {D A : Type 0} (before : D → List Token → List Token) (tree : D → A) (nesting : D → ℕ) (b p : ℕ) (a : A) (q : ℕ) : Type 0 where
    it : D
    passes : left p ≡ before it (left q)
    is : tree it ≡ a
    nested : nesting it < b

  abbrev AnExpression : ℕ → ℕ → ℕ → Expr → ℕ → Type 0
  AnExpression n = As (expression_before {n = n}) expression_tree expression_nesting

  abbrev AStatement : ℕ → ℕ → Stmt → ℕ → Type 0
  AStatement = As statement_before statement_tree statement_nesting

  abbrev SomeStatements : ℕ → ℕ → Stmts → ℕ → Type 0
  SomeStatements = As statements_before statements_tree statements_nesting

  -- What follows a token of the list.
  data Cases {A : Type 0} (Q : A → ℕ → Type 0) (p : ℕ) : List (ℕ × After A) → Type 0 where
    none_left : Cases Q p []
    case : (s : String) {f : After A} {l : List (ℕ × After A)} → eqb (the s) (the "end") ≡ false →
        ((x : The s) → Seen s p x → Yields Q (f (token x) (suc p))) → Cases Q p l → Cases Q p ((the s, f) ∷ l)

  module _ {A : Type 0} (Q : A → ℕ → Type 0) (p : ℕ) where
    -- What `choose` does with the case that it finds.
    abbrev Picks : Option (After A) → Type 0
    Picks o = Yields Q (option (refuse NotAllowed (here p).place) (λ k s. k (here p) (suc s)) o p)

    chosen : (l : List (ℕ × After A)) → Cases Q p l → Picks (lookup (eqb (here p).is) l)
    chosen l none_left = refusal tt
    chosen _ (case s {f = f} {l = l} n h c) = go (eqb (here p).is (the s)) refl (chosen l c)
      where
        go : (b : Bool) → eqb (here p).is (the s) ≡ b → Picks (lookup (eqb (here p).is) l) →
            Picks (when b then (λ _. some f) else λ _. lookup (eqb (here p).is) l)
        go true e r = let g = eqb-true _ _ e in rw (as_it_is s (here p) g) at (h (as_the s (here p)) (seen s p n g))
        go false e r = r

    choose_yields : (l : List (ℕ × After A)) → Cases Q p l → Yields Q (choose ts l p)
    unfolding choose look next
    choose_yields l c = chosen l c

  -- A token that is expected, and what follows it.
  expected : {A : Type 0} {Q : A → ℕ → Type 0} (s : String) (p : ℕ) (f : Token → Reads A) → eqb (the s) (the "end") ≡ false →
      ((x : The s) → Seen s p x → Yields Q (f (token x) (suc p))) → Yields Q (after (expect ts s p) f)
  unfolding expect ◌⇒◌
  expected s p f n h = followed f (choose_yields (λ t q. (x : The s) × (token x ≡ t) × Seen s p x × (suc p ≡ q)) p _ (case s n (λ x g. well (x, refl, g, refl)) none_left))
      (λ t q g. rw (← g.1, ← g.3) (h g.0 g.2))

  refused_yields : {A : Type 0} {Q : A → ℕ → Type 0} (t : Token) (p : ℕ) → Yields Q (no_room ts t p)
  unfolding no_room
  refused_yields t p = refusal tt

  -- "Binary operators group to the left": one more operator of level n, and all of them.
  module _ (n b : ℕ) (m : Reads Expr) (sound : (p : ℕ) → Yields (AnExpression n b p) (m p)) where
    more_yields : (p₀ : ℕ) (e : Expr) (p : ℕ) → AnExpression (suc n) b p₀ e p →
        Yields (λ o q. AnExpression (suc n) b p₀ (option e (λ a. a) o) q) (more ts (of_level n) m e p)
    unfolding more look next expression_before expression_tree expression_nesting
    more_yields p₀ e p h = go (operator (here p).is (of_level n)) refl
      where
        go : (o : Option Binary) → operator (here p).is (of_level n) ≡ o →
            Yields (λ o q. AnExpression (suc n) b p₀ (option e (λ a. a) o) q)
            (option (give none) (λ o s. after (m (suc s)) (λ e'. give (some (T.binary (here p).place o e e')))) o p)
        go none g = well h
        go (some o) g =
            let x = found n (here p) o g in
            followed _ (sound (suc p)) (λ e' q k.
            well (record {
              it = Grammar.binary h.it x.it k.it;
              passes = rw (x.written, ← k.passes, ← stays p x.not_end) h.passes;
              is = rw (x.written, x.is, h.is, k.is);
              nested = omega (arith, h.nested, k.nested);
            }))

    as_long_yields : (p₀ : ℕ) (e : Expr) (p : ℕ) → AnExpression n b p₀ e p → Yields (AnExpression (suc n) b p₀) (as_long ts (more ts (of_level n) m) e p)
    unfolding as_long expression_before expression_tree expression_nesting
    as_long_yields p₀ e p h =
        repeated (AnExpression (suc n) b p₀) (more ts (of_level n) m) (λ a q i. more_yields p₀ a q i) (length ts) e p
        (record { it = Grammar.tighter h.it; passes = h.passes; is = h.is; nested = h.nested })

  binaries_yield : (n b : ℕ) (m : Reads Expr) → ((p : ℕ) → Yields (AnExpression no_level b p) (m p)) → (p : ℕ) → Yields (AnExpression n b p) (binaries ts (below n) m p)
  unfolding binaries below
  binaries_yield zero b m g p = g p
  binaries_yield (suc n) b m g p = followed _ (binaries_yield n b m g p) (λ e q h. as_long_yields n b (binaries ts (below n) m) (binaries_yield n b m g) p e q h)

  every_yields : (b : ℕ) (m : Reads Expr) → ((p : ℕ) → Yields (AnExpression no_level b p) (m p)) → (p : ℕ) → Yields (AnExpression every_level b p) (binaries ts levels m p)
  every_yields b m g p = rw every_below (binaries_yield every_level b m g p)

  -- What stands in parentheses, after the `(`: an expression and the `)`.
  abbrev Inside : Type 0
  Inside = Expression every_level × The ")"

  abbrev Closed : ℕ → ℕ → Expr → ℕ → Type 0
  Closed = As {D = Inside} (λ d l. expression_before d.0 (token d.1 ∷ l)) (λ d. expression_tree d.0) (λ d. expression_nesting d.0)

  closed_yields : (b : ℕ) (m : Reads Expr) → ((p : ℕ) → Yields (AnExpression every_level b p) (m p)) → (t : Token) (p : ℕ) → Yields (Closed b p) (closed ts m t p)
  unfolding closed the words marks numbered reserved signs
  closed_yields b m g t p =
      followed _ (g p) (λ e q h.
      expected ")" q _ refl (λ x k. well (record { it = (h.it, x); passes = rw (← k) h.passes; is = h.is; nested = h.nested })))

  -- An operand: `deep` and `parens` read what stands one level deeper.
  module _ (b : ℕ) (deep parens : After Expr)
      (deeper : (t : Token) (p : ℕ) → Yields (AnExpression no_level b p) (deep t p)) (inside : (t : Token) (p : ℕ) → Yields (Closed b p) (parens t p)) where
    leaf : (p : ℕ) (d : Expression no_level) → expression_nesting d ≡ 0 → left p ≡ expression_before d (left (suc p)) →
        Yields (AnExpression no_level (suc b) p) (ok (expression_tree d) (suc p))
    leaf p d z h = well (record { it = d; passes = h; is = refl; nested = omega (arith, z) })

    signed : (p : ℕ) (o : Sign) → left p ≡ sign_token o ∷ left (suc p) →
        Yields (AnExpression no_level (suc b) p) (after (deep (sign_token o) (suc p)) (λ e. give (T.unary (sign_token o).place (sign_of o) e)))
    unfolding expression_before expression_tree expression_nesting
    signed p o h =
        followed _ (deeper _ (suc p)) (λ e q k.
        well (record { it = Grammar.unary o k.it; passes = rw (← k.passes) h; is = rw k.is; nested = omega (arith, k.nested) }))

    operand_yields : (p : ℕ) → Yields (AnExpression no_level (suc b) p) (operand ts deep parens p)
    unfolding operand ◌⇒◌ expression_before expression_tree expression_nesting unary_table the words marks numbered reserved signs
    operand_yields p = choose_yields _ p _
        (case "-" refl (λ x h. signed p (Grammar.neg x) h)
        (case "~" refl (λ x h. signed p (Grammar.inv x) h)
        (case "!" refl (λ x h. signed p (Grammar.not x) h)
        (case "number" refl (λ x h. leaf p (Grammar.number x) refl h)
        (case "float number" refl (λ x h. leaf p (Grammar.float_number x) refl h)
        (case "true" refl (λ x h. leaf p (Grammar.true x) refl h)
        (case "false" refl (λ x h. leaf p (Grammar.false x) refl h)
        (case "name" refl (λ x h. leaf p (Grammar.name x) refl h)
        (case "current_mask" refl (λ x h. leaf p (Grammar.current_mask x) refl h)
        (case "(" refl (λ x h.
        weaker (inside (token x) (suc p)) (λ e q k. record {
          it = Grammar.parenthesised x k.it.0 k.it.1;
          passes = rw (← k.passes) h;
          is = k.is;
          nested = omega (arith, k.nested);
        }))
        none_left))))))))))

  -- An operand where r more levels may open, and an expression there.
  unaries_yield : (r p : ℕ) → Yields (AnExpression no_level (suc r) p) (unaries ts r p)
  unfolding unaries
  unaries_yield zero p = operand_yields 0 (no_room ts) (no_room ts) (λ t q. refused_yields t q) (λ t q. refused_yields t q) p
  unaries_yield (suc r) p =
      operand_yields (suc r) _ _ (λ t. unaries_yield r) (closed_yields (suc r) _ (every_yields (suc r) (unaries ts r) (unaries_yield r))) p

  expression_yields : (r p : ℕ) → Yields (AnExpression every_level (suc r) p) (R.expression ts r p)
  unfolding R.expression
  expression_yields r p = every_yields (suc r) (unaries ts r) (unaries_yield r) p

  -- A condition after the `(`.
  parenthesised_yields : (r : ℕ) (t : Token) (p : ℕ) → Yields (Closed r p) (R.parenthesised ts r t p)
  unfolding R.parenthesised
  parenthesised_yields zero t p = refused_yields t p
  parenthesised_yields (suc r) t p = closed_yields (suc r) _ (expression_yields r) t p

  -- "then perhaps `block[N]`"
  abbrev ABlock : ℕ → Block → ℕ → Type 0
  ABlock = As block_before block_of (λ _. 0) 1

  block_yields : (p : ℕ) → Yields (ABlock p) (R.block ts p)
  unfolding R.block look next block_before block_of token the words marks numbered reserved signs
  block_yields p = go (eqb (here p).is (the "block")) refl
    where
      go : (b : Bool) → eqb (here p).is (the "block") ≡ b → Yields (ABlock p)
          (when◌then◌else◌ {A = Reads Block} b
          (λ _ s. after (expect ts "[" (suc s)) (λ _ s. after (expect ts "number" s) (λ n s. after (expect ts "]" s) (λ _. give (some (n.value, n.place))))))
          (λ _. give none) p)
      go true e =
          expected "[" (suc p) _ refl (λ a ha.
          expected "number" _ _ refl (λ n hn.
          expected "]" _ _ refl (λ c hc.
          well (record {
            it = Grammar.block (as_the "block" (here p)) a n c;
            passes = rw (← hc, ← hn, ← ha) (seen "block" p refl (eqb-true _ _ e));
            is = refl;
            nested = omega arith;
          }))))
      go false e = well (record { it = Grammar.no_block; passes = refl; is = refl; nested = omega arith })

  -- A right side and its `;`.
  value_yields : (r p : ℕ) (f : Expr → Stmt) (p₀ : ℕ) (d : Expression every_level → The ";" → Statement) →
      ((e : Expression every_level) (c : The ";") (q : ℕ) → left p ≡ expression_before e (token c ∷ left q) → left p₀ ≡ statement_before (d e c) (left q)) →
      ((e : Expression every_level) (c : The ";") → (statement_tree (d e c) ≡ f (expression_tree e)) × (statement_nesting (d e c) ≡ expression_nesting e)) →
      Yields (AStatement (suc r) p₀) (after (R.expression ts r p) (λ e q. after (expect ts ";" q) (λ _. give (f e))))
  unfolding the words marks numbered reserved signs
  value_yields r p f p₀ d w h =
      followed _ (expression_yields r p) (λ e q k.
      expected ";" q _ refl (λ c hc.
      let g = h k.it c in
      well (record {
        it = d k.it c;
        passes = w k.it c (suc q) (rw (← hc) k.passes);
        is = g.0 ∙ ap f k.is;
        nested = omega (arith, g.1, k.nested);
      })))

  -- "a declaration, a declaration with initial value", after its first token
  declaration_yields : (r p₀ p : ℕ) (k : KindWord) → left p₀ ≡ kind_token k ∷ left p →
      Yields (AStatement (suc r) p₀) (R.declaration ts r (kind_of k) (kind_token k) p)
  unfolding R.declaration ◌⇒◌ statement_before statement_tree statement_nesting token the words marks numbered reserved signs
  declaration_yields r p₀ p k h =
      followed _ (block_yields p) (λ b q hb.
      expected "name" q _ refl (λ x hx.
      choose_yields _ (suc q) _
      (case ";" refl (λ c hc. well (record {
        it = Grammar.declaration k hb.it x c;
        passes = rw (← hc, ← hx, ← hb.passes) h;
        is = rw hb.is;
        nested = omega arith;
      }))
      (case "=" refl (λ e he.
      value_yields r (suc (suc q)) _ p₀ (λ v c. Grammar.initialised k hb.it x e v c)
      (λ v c s hv. rw (← hv, ← he, ← hx, ← hb.passes) h)
      (λ v c. (rw hb.is, refl)))
      none_left))))

  -- "assignment to a name", after that name
  assignment_yields : (r p : ℕ) (x : The "name") → Seen "name" p x → Yields (AStatement (suc r) p) (R.assignment ts r (token x) (suc p))
  unfolding R.assignment statement_before statement_tree statement_nesting token the words marks numbered reserved signs
  assignment_yields r p x h =
      expected "=" (suc p) _ refl (λ e he.
      value_yields r (suc (suc p)) _ p (λ v c. Grammar.assignment x e v c) (λ v c s hv. rw (← hv, ← he) h) (λ v c. (refl, refl)))

  opening_yields : {Q : ℕ → Stmt → ℕ → Type 0} (deep : After Stmt) → ((t : Token) (p : ℕ) → Yields (Q p) (deep t p)) → (p : ℕ) → Yields (Q p) (opening ts deep p)
  unfolding opening look
  opening_yields deep g p = passed ((here p).is among begins) NotAllowed _ p _ tt (λ _. g (here p) p)

  -- Statement after statement, up to the closing token.
  many_yield : (r : ℕ) (close : String) (m : Reads Stmt) → ((p : ℕ) → Yields (AStatement (suc r) p) (m p)) → (p : ℕ) →
      Yields (SomeStatements (suc r) p) (as_long ts (another ts close m) T.none_yet p)
  unfolding as_long another look statements_before statements_tree statements_nesting
  many_yield r close m g p =
      repeated (SomeStatements (suc r) p) (another ts close m) (λ l q h. go l q h (eqb (here q).is (the close))) (length ts) T.none_yet p
      (record { it = none_yet; passes = refl; is = refl; nested = omega arith })
    where
      go : (l : Stmts) (q : ℕ) → SomeStatements (suc r) p l q → (b : Bool) →
          Yields (λ o s. SomeStatements (suc r) p (option l (λ a. a) o) s)
          (when◌then◌else◌ {A = Reads (Option Stmts)} b (λ _. give none) (λ _ s. after (m s) (λ a. give (some (T.◌⨾◌ l a)))) q)
      go l q h true = well h
      go l q h false =
          followed _ (g q) (λ a s k.
          well (record { it = h.it ⨾ k.it; passes = rw (← k.passes) h.passes; is = rw (h.is, k.is); nested = omega (arith, h.nested, k.nested) }))

  -- What stands in braces, after the `{`.
  abbrev Braced : ℕ → ℕ → Stmts → ℕ → Type 0
  Braced = As {D = Statements × The "}"} (λ d l. statements_before d.0 (token d.1 ∷ l)) (λ d. statements_tree d.0) (λ d. statements_nesting d.0)

  braced_yields : (r : ℕ) (m : Reads Stmt) → ((p : ℕ) → Yields (AStatement (suc r) p) (m p)) → (p : ℕ) → Yields (Braced (suc r) p) (sequence ts "}" m p)
  unfolding sequence the words marks numbered reserved signs
  braced_yields r m g p =
      followed _ (many_yield r "}" m g p) (λ l q h.
      expected "}" q _ refl (λ c hc. well (record { it = (h.it, c); passes = rw (← hc) h.passes; is = h.is; nested = h.nested })))

  -- A statement: `deep` and `braced` read what stands one level deeper.
  module _ (r : ℕ) (deep : After Stmt) (braced : After Stmts)
      (deeper : (t : Token) (p : ℕ) → Yields (AStatement r p) (deep t p)) (inside : (t : Token) (p : ℕ) → Yields (Braced r p) (braced t p)) where
    part : (p : ℕ) → Yields (AStatement r p) (opening ts deep p)
    part p = opening_yields deep deeper p

    -- A condition, and what follows it.
    conditional : {A : Type 0} {Q : A → ℕ → Type 0} (p : ℕ) (f : Expr → Reads A) →
        ((a : The "(") (e : Expr) (q : ℕ) (c : Closed r (suc p) e q) → Seen "(" p a → Yields Q (f e q)) → Yields Q (after (condition ts r p) f)
    unfolding condition the words marks numbered reserved signs
    conditional p f h =
        followed f
        (expected {Q = λ e q. (a : The "(") × Closed r (suc p) e q × Seen "(" p a} "(" p _ refl (λ a ha.
        weaker (parenthesised_yields r (token a) (suc p)) (λ e q k. (a, k, ha))))
        (λ e q k. h k.0 e q k.1 k.2)

    if_yields : (p : ℕ) (x : The "if") → Seen "if" p x →
        Yields (AStatement (suc r) p)
        (after (condition ts r (suc p)) (λ e s.
        after (opening ts deep s) (λ a s.
        after (expect ts "else" s) (λ _ s. after (opening ts deep s) (λ b. give (T.if_else (token x).place e a b))))))
    unfolding statement_before statement_tree statement_nesting token the words marks numbered reserved signs
    if_yields p x h =
        conditional (suc p) _ (λ o e q he ho.
        followed _ (part q) (λ a u ha.
        expected "else" u _ refl (λ v hv.
        followed _ (part (suc u)) (λ b w hb.
        well (record {
          it = Grammar.if_else x o he.it.0 he.it.1 ha.it v hb.it;
          passes = rw (← hb.passes, ← hv, ← ha.passes, ← he.passes, ← ho) h;
          is = rw (he.is, ha.is, hb.is);
          nested = omega (arith, he.nested, ha.nested, hb.nested);
        })))))

    while_yields : (p : ℕ) (x : The "while") → Seen "while" p x →
        Yields (AStatement (suc r) p) (after (condition ts r (suc p)) (λ e s. after (opening ts deep s) (λ a. give (T.while (token x).place e a))))
    unfolding statement_before statement_tree statement_nesting token
    while_yields p x h =
        conditional (suc p) _ (λ o e q he ho.
        followed _ (part q) (λ a u ha.
        well (record {
          it = Grammar.while x o he.it.0 he.it.1 ha.it;
          passes = rw (← ha.passes, ← he.passes, ← ho) h;
          is = rw (he.is, ha.is);
          nested = omega (arith, he.nested, ha.nested);
        })))

    statement_over_yields : (p : ℕ) → Yields (AStatement (suc r) p) (statement_over ts r deep braced p)
    unfolding statement_over ◌⇒◌ kinds statement_before statement_tree statement_nesting kind_token kind_of token the words marks numbered reserved signs
    statement_over_yields p = choose_yields _ p _
        (case ";" refl (λ x h. well (record { it = Grammar.empty x; passes = h; is = refl; nested = omega arith }))
        (case "{" refl (λ x h.
        followed _ (inside (token x) (suc p)) (λ l q k.
        well (record { it = Grammar.braces x k.it.0 k.it.1; passes = rw (← k.passes) h; is = rw k.is; nested = omega (arith, k.nested) })))
        (case "int" refl (λ x h. declaration_yields r p (suc p) (Grammar.int x) h)
        (case "bool" refl (λ x h. declaration_yields r p (suc p) (Grammar.bool x) h)
        (case "float" refl (λ x h. declaration_yields r p (suc p) (Grammar.float x) h)
        (case "name" refl (λ x h. assignment_yields r p x h)
        (case "if" refl (λ x h. if_yields p x h)
        (case "while" refl (λ x h. while_yields p x h)
        (case "scalar" refl (λ x h.
        followed _ (part (suc p)) (λ a q k.
        well (record { it = Grammar.scalar x k.it; passes = rw (← k.passes) h; is = rw k.is; nested = omega (arith, k.nested) })))
        none_left)))))))))

  statement_yields : (r p : ℕ) → Yields (AStatement (suc r) p) (R.statement ts r p)
  unfolding R.statement
  statement_yields zero p = statement_over_yields zero (no_room ts) (no_room ts) (λ t q. refused_yields t q) (λ t q. refused_yields t q) p
  statement_yields (suc r) p = statement_over_yields (suc r) _ _ (λ t. statement_yields r) (λ t. braced_yields r (R.statement ts r) (statement_yields r)) p

  -- The end of the tokens, at position p.
  ended : (p : ℕ) → Yields (λ t q. ((here p).is ≡ the "end") × (q ≡ suc p)) (expect ts "end" p)
  unfolding expect choose look next ◌⇒◌
  ended p = go (eqb (here p).is (the "end")) refl
    where
      go : (b : Bool) → eqb (here p).is (the "end") ≡ b → Yields (λ t q. ((here p).is ≡ the "end") × (q ≡ suc p))
          (option {A = After Token} (refuse NotAllowed (here p).place) (λ k s. k (here p) (suc s)) (when b then (λ _. some give) else λ _. none) p)
      go true e = well (eqb-true _ _ e, refl)
      go false e = refusal tt

  -- What is read as a whole: statements up to an end of the text.
  record Whole (t : Stmts) (q : ℕ) : Type 0 where
    last : ℕ
    statements : SomeStatements (suc nesting_limit) 0 t last
    at_end : (here last).is ≡ the "end"
    past : q ≡ suc last

  read_yields : Yields Whole (read ts)
  unfolding read sequence
  read_yields =
      followed _ (many_yield nesting_limit "end" _ (statement_yields nesting_limit) 0) (λ l p h.
      followed _ (ended p) (λ _ q k. well (record { last = p; statements = h; at_end = k.0; past = k.1 })))

  -- Tokens that are read to their end have a derivation within the limit, and the tree is the derivation's.
  pub read_derives : (t : Stmts) → read ts ≡ ok t (length ts) → Derives ts t
  unfolding program_tokens program_nesting program_tree
  read_derives t e =
      let w = said read_yields e in
      let s = w.statements in
      record {
        derivation = record { statements = s.it; end = as_the "end" (here w.last) };
        written = rw (as_it_is "end" (here w.last) w.at_end, ← statements_joins) (sym (s.passes ∙ ap (statements_before s.it) (closes w.last w.past)));
        nested = omega (arith, s.nested);
        tree = s.is;
      }
    where
      closes : (p : ℕ) → length ts ≡ suc p → left p ≡ here p ∷ []
      closes p l = drop-cons ts p (end_at 0) (omega arith) ∙ ap (λ q. here p ∷ left q) (sym l) ∙ ap (λ m. here p ∷ m) (drop-length ts)

  -- The tokens of a text are read to their end, or refused.
  pub reads_all : (text : List ℕ) → AllIn text 0 ts → (t : Stmts) (q : ℕ) → read ts ≡ ok t q → q ≡ length ts
  unfolding ends
  reads_all text a t q e =
      let w = said read_yields e in
      let p = w.last in
      let one : ends (left p) ≡ 1 = sym (ap ends w.statements.passes ∙ statements_ends w.statements.it (left p)) ∙ one_end a 0 (spelled_some a) in
      go w.last w.at_end w.past one (dec_lt p (length ts)) (dec_lt (suc p) (length ts))
    where
      go : (p : ℕ) → (here p).is ≡ the "end" → q ≡ suc p → ends (left p) ≡ 1 → Dec (p < length ts) → Dec (suc p < length ts) → q ≡ length ts
      go p h s one (no g) d = let z : ends (left p) ≡ 0 = ap ends (drop_of_length-le ts {i = p} (omega (arith, g))) in absurd (omega arith)
      go p h s one (yes l) (no g) = omega (arith, g)
      go p h s one (yes l) (yes g) =
          let z = ap ends (drop-cons ts p (end_at 0) l) ∙ starts_with_end (here p) (left (suc p)) h in
          absurd (omega (arith, z, one_end a (suc p) g))
