-- Where tokens parse, the reader reads them, and what it reads is the derivation's tree.
use Prim.Native.Nat.{ℕ, zero, suc, ◌≤◌, ◌<◌}
use Prim.Native.String.{String}
use mathlib.Core.Path.{◌≡◌, refl, sym, ap, ◌∙◌}
use mathlib.Core.Bool.{Bool, true, false}
use mathlib.Core.List.{List, [], ◌∷◌}
use mathlib.Core.Option.{Option, none, some}
use native.Mathlib.Omega.{arith}
use lib.Dec.{eqb}
use lib.ListN.{length, get_or, drop, get_or-eq_default, length-drop}
use lib.Seq.{drop-cons}
use borrow.Author.Tests.{eqb-true}
use Rattle.meaning.specs.declared.Binary.{Binary}
use Rattle.meaning.specs.declared.Refusal.TheVariants.{NotAllowed, TooDeep}
use Rattle.meaning.specs.Codes.{Out, ok, refused, after, give, refuse, check, option, lookup, repeat, when◌then◌else◌, ◌among◌, nesting_limit}
use Rattle.meaning.specs.Tokens.{Token, end_at, the, words, marks, numbered, reserved, signs}
use Rattle.meaning.specs.Tree as T
use Rattle.meaning.specs.Tree.{kinds, unary_table, levels, Expr, Block, Stmt, Stmts}
use Rattle.meaning.specs.Reading as R
use Rattle.meaning.specs.Reading.{Reads, After, ◌⇒◌, operator, look, next, choose, expect, as_long, more, binaries, no_room, closed, unaries, condition, sequence, read, begins}
use Rattle.laws.specs.Outcomes.{Ends, well, refusal, Gave}
use Rattle.laws.proofs.Outcomes.{said, refusal_said}
use Rattle.grammar.specs.Grammar
use Rattle.grammar.specs.Grammar.{The, every_level, no_level, Operator, Sign, Expression, KindWord, BlockPart, Statement, Statements, Program, token, operator_token, sign_token, kind_token, operator_of, sign_of, expression_tree, kind_of, block_of, statement_tree, statements_tree, program_tree}
use Rattle.grammar.proofs.Levels.{as_the, as_it_is, of_level, below, every_below, found, finds}
use Rattle.grammar.proofs.Parse as P
use Rattle.grammar.proofs.Parse.{Parse, Condition, Braced, Case, find, pick, one, first, operators, one_more}
use Rattle.grammar.proofs.Complete.{found-operator}
use Rattle.grammar.proofs.Deep.{IsTooDeep, stays_deep}

-- An operator that is found is the token's.
data Each {n : ℕ} : List (Case (Operator n)) → Type 0 where
  none_left : Each []
  each : {s : String} {c : The s → Operator n} {l : List (Case (Operator n))} → ((x : The s) → operator_token (c x) ≡ token x) → Each l → Each ((s, c) ∷ l)

each-operator : (n : ℕ) → Each (operators n)
unfolding operators operator_token
each-operator zero = each (λ x. refl) none_left
each-operator (suc zero) = each (λ x. refl) (each (λ x. refl) none_left)
each-operator (suc (suc zero)) = each (λ x. refl) (each (λ x. refl) (each (λ x. refl) (each (λ x. refl) none_left)))
each-operator (suc (suc (suc zero))) = each (λ x. refl) (each (λ x. refl) none_left)
each-operator (suc (suc (suc (suc zero)))) = each (λ x. refl) none_left
each-operator (suc (suc (suc (suc (suc zero))))) = each (λ x. refl) none_left
each-operator (suc (suc (suc (suc (suc (suc zero)))))) = each (λ x. refl) none_left
each-operator (suc (suc (suc (suc (suc (suc (suc n))))))) = none_left

picked : {n : ℕ} {l : List (Case (Operator n))} → Each l → (t : Token) (o : Operator n) → find t l ≡ some o → operator_token o ≡ t
unfolding find
picked none_left t o e = let z : ◌≡◌ {A = ℕ} 0 1 = cc in absurd (omega arith)
picked {n} (each {s = s} {c = c} {l = l} h r) t o e = go (eqb t.is (the s)) refl e (picked r t o)
  where
    go : (b : Bool) → eqb t.is (the s) ≡ b → (when b then (λ _. some (c (as_the s t))) else λ _. find t l) ≡ some o → (find t l ≡ some o → operator_token o ≡ t) →
        operator_token o ≡ t
    go true g q rest =
        let same : o ≡ c (as_the s t) = cc in
        ap operator_token same ∙ h (as_the s t) ∙ as_it_is s t (eqb-true _ _ g)
    go false g q rest = rest q

-- Both find the same operator of a level.
pub same_operator : (n : ℕ) (t : Token) → operator t.is (of_level n) ≡ option none (λ o. some (operator_of o)) (find t (operators n))
same_operator n t = go (find t (operators n)) refl (operator t.is (of_level n)) refl
  where
    go : (x : Option (Operator n)) → find t (operators n) ≡ x → (o : Option Binary) → operator t.is (of_level n) ≡ o → o ≡ option none (λ o. some (operator_of o)) x
    go none f none e = refl
    go none f (some b) e =
        let s = found n t b e in
        let g : find t (operators n) ≡ some s.it = ap (λ u. find u (operators n)) (sym s.written) ∙ found-operator s.it in
        let z : ◌≡◌ {A = ℕ} 0 1 = cc in absurd (omega arith)
    go (some x) f o e = sym e ∙ (rw (← picked (each-operator n) t x f) (finds x))

two_refusals : NotAllowed ≡ TooDeep → ⊥
two_refusals e = let z : ◌≡◌ {A = ℕ} 0 1 = cc in omega arith

module _ (ts : List Token) where
  -- The token at a position.
  abbrev here : ℕ → Token
  here p = get_or ts p (end_at 0)

  -- The tokens l are left at position p.
  record At (p : ℕ) (l : List Token) : Type 0 where
    left : drop p ts ≡ l
    within : p ≤ length ts

  at_token : (p : ℕ) (t : Token) (l : List Token) → At p (t ∷ l) → (here p ≡ t) × At (suc p) l
  at_token p t l h =
      let n : length (drop p ts) ≡ suc (length l) = ap length h.left in
      let inside : p < length ts = omega (arith, n, length-drop p ts) in
      let split = sym (drop-cons ts p (end_at 0) inside) ∙ h.left in
      let head : here p ≡ t = cc in
      let tail : drop (suc p) ts ≡ l = cc in
      (head, record { left = tail; within = inside })

  at_first : (p : ℕ) (l : List Token) → At p l → here p ≡ first l
  unfolding first
  at_first p [] h =
      let n : length (drop p ts) ≡ 0 = ap length h.left in
      get_or-eq_default ts (end_at 0) {n = p} (omega (arith, n, length-drop p ts))
  at_first p (t ∷ l) h = (at_token p t l h).0

  -- The reader's value is the derivation's tree, and the same tokens are left.
  record Same {D A : Type 0} (tree : D → A) (d : D) (l : List Token) (a : A) (q : ℕ) : Type 0 where
    is : a ≡ tree d
    at : At q l

  -- Where tokens parse, the reader reads them; where a level is too many, it refuses them for that.
  abbrev Agrees : {D A : Type 0} → (D → A) → Out (List Token) D → Out ℕ A → Type 0
  Agrees tree o o' = Ends (Gave (Same tree) o') (λ c _. c ≡ TooDeep → IsTooDeep o') o

  same : {D A : Type 0} {tree : D → A} {d : D} {l : List Token} {a : A} {p : ℕ} → a ≡ tree d → At p l → Agrees tree (ok d l) (ok a p)
  same {a = a} {p = p} e h = well (record { value = a; state = p; is = refl; so = record { is = e; at = h } })

  gives : {D A : Type 0} {tree : D → A} {d : D} {l : List Token} {p : ℕ} → At p l → Agrees tree (ok d l) (ok (tree d) p)
  gives h = same refl h

  not_allowed : {D A : Type 0} {tree : D → A} {o : Out ℕ A} {q : ℕ} → Agrees tree (refused NotAllowed q) o
  not_allowed = refusal (λ e. absurd (two_refusals e))

  no_level_left : {D A : Type 0} {tree : D → A} {q : ℕ} (t : Token) (p : ℕ) → Agrees tree (refused TooDeep q) (no_room ts t p)
  unfolding no_room
  no_level_left t p = refusal (λ e. record { place = t.place; is = refl })

  -- One after another.
  and_then : {D A E B : Type 0} {tree : D → A} {tree' : E → B} {o : Out (List Token) D} {o' : Out ℕ A} (f : D → Parse E) (f' : A → Reads B) → Agrees tree o o' →
      ((d : D) (l : List Token) (p : ℕ) → At p l → Agrees tree' (f d l) (f' (tree d) p)) → Agrees tree' (after o f) (after o' f')
  and_then f f' (well {a = d} {s = l} g) k = rw (g.is, g.so.is) (k d l g.state g.so.at)
  and_then f f' (refusal r) k = refusal (λ e. stays_deep f' (r e))

  -- Case by case.
  data Both {D A : Type 0} (tree : D → A) : List (Case (Parse D)) → List (ℕ × After A) → Type 0 where
    none_left : Both tree [] []
    both : (s : String) {k : The s → Parse D} {f : After A} {c : List (Case (Parse D))} {c' : List (ℕ × After A)} →
        ((x : The s) (l : List Token) (p : ℕ) → At p l → Agrees tree (k x l) (f (token x) p)) → Both tree c c' → Both tree ((s, k) ∷ c) ((the s, f) ∷ c')

  module _ {D A : Type 0} {tree : D → A} where
    chosen : {c : List (Case (Parse D))} {c' : List (ℕ × After A)} → Both tree c c' → (t : Token) (l : List Token) (p n : ℕ) → At (suc p) l →
        Agrees tree (option (refuse NotAllowed 0) (λ k. k) (find t c) l) (option (refuse NotAllowed n) (λ k q. k t (suc q)) (lookup (eqb t.is) c') p)
    unfolding find
    chosen none_left t l p n h = not_allowed
    chosen (both s {k = k} {f = f} {c = c} {c' = c'} g r) t l p n h = go (eqb t.is (the s)) refl (chosen r t l p n h)
      where
        go : (b : Bool) → eqb t.is (the s) ≡ b →
            Agrees tree (option (refuse NotAllowed 0) (λ k. k) (find t c) l) (option (refuse NotAllowed n) (λ k q. k t (suc q)) (lookup (eqb t.is) c') p) →
            Agrees tree
            (option (refuse NotAllowed 0) (λ k. k) (when b then (λ _. some (k (as_the s t))) else λ _. find t c) l)
            (option (refuse NotAllowed n) (λ k q. k t (suc q)) (when b then (λ _. some f) else λ _. lookup (eqb t.is) c') p)
        go true e rest = rw (as_it_is s t (eqb-true _ _ e)) at (g (as_the s t) l (suc p) h)
        go false e rest = rest

    picks : {c : List (Case (Parse D))} {c' : List (ℕ × After A)} → Both tree c c' → (l : List Token) (p : ℕ) → At p l → Agrees tree (pick c l) (choose ts c' p)
    unfolding pick choose look next
    picks b [] p h = not_allowed
    picks b (t ∷ l) p h = let n = at_token p t l h in rw n.0 (chosen b t l p t.place n.1)

  -- A token that is expected.
  one_agrees : (s : String) (l : List Token) (p : ℕ) → At p l → Agrees token (one s l) (expect ts s p)
  unfolding one expect ◌⇒◌
  one_agrees s l p h = picks (both s (λ x l p h. gives h) none_left) l p h

  -- Turn after turn.
  abbrev perhaps : {D A : Type 0} → (D → A) → Option D → Option A
  perhaps tree o = option none (λ d. some (tree d)) o

  repeats : {D A : Type 0} (tree : D → A) (turn : D → Parse (Option D)) (turn' : A → Reads (Option A)) →
      ((d : D) (l : List Token) (p : ℕ) → At p l → Agrees (perhaps tree) (turn d l) (turn' (tree d) p)) →
      (k : ℕ) (d : D) (l : List Token) (p : ℕ) → At p l → Agrees tree (repeat k turn d l) (repeat k turn' (tree d) p)
  repeats tree turn turn' h zero d l p at = gives at
  repeats {D} {A} tree turn turn' h (suc k) d l p at = and_then _ _ (h d l p at) (go (repeats tree turn turn' h k))
    where
      go : ((d : D) (l : List Token) (p : ℕ) → At p l → Agrees tree (repeat k turn d l) (repeat k turn' (tree d) p)) →
          (o : Option D) (l : List Token) (p : ℕ) → At p l →
          Agrees tree (option (give d) (λ e. repeat k turn e) o l) (option (give (tree d)) (λ e. repeat k turn' e) (perhaps tree o) p)
      go rest none l p at = gives at
      go rest (some e) l p at = rest e l p at

  end_no_operator : (n : ℕ) → operator (end_at 0).is (of_level n) ≡ none
  unfolding end_at
  end_no_operator n = go (operator (the "end") (of_level n)) refl
    where
      go : (o : Option Binary) → operator (the "end") (of_level n) ≡ o → o ≡ none
      go none e = refl
      go (some b) e = absurd ((found n (end_at 0) b e).not_end refl)

  -- "Binary operators group to the left."
  module _ (n : ℕ) (m : Parse (Expression n)) (m' : Reads Expr) (agrees : (l : List Token) (p : ℕ) → At p l → Agrees expression_tree (m l) (m' p)) where
    more_agrees : (e : Expression (suc n)) (l : List Token) (p : ℕ) → At p l → Agrees (perhaps expression_tree) (one_more n m e l) (more ts (of_level n) m' (expression_tree e) p)
    unfolding one_more more look next first expression_tree
    more_agrees e [] p h = rw (at_first p [] h, end_no_operator n) (gives h)
    more_agrees e (t ∷ l) p h = let s = at_token p t l h in rw (s.0, same_operator n t) (go (find t (operators n)) refl s.1)
      where
        go : (o : Option (Operator n)) → find t (operators n) ≡ o → At (suc p) l → Agrees (perhaps expression_tree)
            (option (ok none (t ∷ l)) (λ o. after (m l) (λ e'. give (some (Grammar.binary e o e')))) o)
            (option (give none) (λ o q. after (m' (suc q)) (λ e'. give (some (T.binary t.place o (expression_tree e) e')))) (option none (λ o. some (operator_of o)) o) p)
        go none f at = gives h
        go (some o) f at =
            and_then _ _ (agrees l (suc p) at) (λ e' k q g.
            same (rw (← picked (each-operator n) t o f)) g)

  -- As many turns as there are tokens.
  abbrev K : ℕ
  K = length ts

  binaries_agree : (n : ℕ) (m : Parse (Expression no_level)) (m' : Reads Expr) → ((l : List Token) (p : ℕ) → At p l → Agrees expression_tree (m l) (m' p)) →
      (l : List Token) (p : ℕ) → At p l → Agrees expression_tree (P.grouped K n m l) (binaries ts (below n) m' p)
  unfolding P.grouped binaries below as_long expression_tree
  binaries_agree zero m m' h l p at = h l p at
  binaries_agree (suc n) m m' h l p at =
      and_then _ _ (binaries_agree n m m' h l p at) (λ e k q g.
      repeats expression_tree _ _ (more_agrees n (P.grouped K n m) (binaries ts (below n) m') (binaries_agree n m m' h)) K (Grammar.tighter e) k q g)

  every_agrees : (m : Parse (Expression no_level)) (m' : Reads Expr) → ((l : List Token) (p : ℕ) → At p l → Agrees expression_tree (m l) (m' p)) →
      (l : List Token) (p : ℕ) → At p l → Agrees expression_tree (P.grouped K every_level m l) (binaries ts levels m' p)
  every_agrees m m' h l p at = rw every_below (binaries_agree every_level m m' h l p at)

  -- What stands in parentheses, after the `(`: an expression and the `)`.
  closed_agrees : {D : Type 0} {tree : D → Expr} (m : Parse (Expression every_level)) (m' : Reads Expr) (f : Expression every_level → The ")" → D) →
      ((e : Expression every_level) (y : The ")") → expression_tree e ≡ tree (f e y)) →
      ((l : List Token) (p : ℕ) → At p l → Agrees expression_tree (m l) (m' p)) → (t : Token) (l : List Token) (p : ℕ) → At p l →
      Agrees tree (after (m l) (λ e k. after (one ")" k) (λ y. give (f e y)))) (closed ts m' t p)
  unfolding closed
  closed_agrees m m' f w h t l p at =
      and_then _ _ (h l p at) (λ e k q g.
      and_then _ _ (one_agrees ")" k q g) (λ y i s j. same (w e y) j))

  -- An operand.
  module _ (deep : Parse (Expression no_level)) (inside : Parse (Expression every_level)) (deep' parens' : After Expr)
      (deeper : (t : Token) (l : List Token) (p : ℕ) → At p l → Agrees expression_tree (deep l) (deep' t p))
      (in_parens : (x : The "(") (l : List Token) (p : ℕ) → At p l →
      Agrees expression_tree (after (inside l) (λ e k. after (one ")" k) (λ y. give (Grammar.parenthesised x e y)))) (parens' (token x) p)) where
    signed : (o : Sign) (l : List Token) (p : ℕ) → At p l →
        Agrees expression_tree (after (deep l) (λ e. give (Grammar.unary o e))) (after (deep' (sign_token o) p) (λ e. give (T.unary (sign_token o).place (sign_of o) e)))
    unfolding expression_tree
    signed o l p at = and_then _ _ (deeper (sign_token o) l p at) (λ e k q g. gives g)

    operand_agrees : (l : List Token) (p : ℕ) → At p l → Agrees expression_tree (P.operand deep inside l) (R.operand ts deep' parens' p)
    unfolding P.operand R.operand ◌⇒◌ unary_table expression_tree sign_token sign_of token
    operand_agrees l p at = picks
        (both "-" (λ x l p at. signed (Grammar.neg x) l p at)
        (both "~" (λ x l p at. signed (Grammar.inv x) l p at)
        (both "!" (λ x l p at. signed (Grammar.not x) l p at)
        (both "number" (λ x l p at. gives {d = Grammar.number x} at)
        (both "float number" (λ x l p at. gives {d = Grammar.float_number x} at)
        (both "true" (λ x l p at. gives {d = Grammar.true x} at)
        (both "false" (λ x l p at. gives {d = Grammar.false x} at)
        (both "name" (λ x l p at. gives {d = Grammar.name x} at)
        (both "current_mask" (λ x l p at. gives {d = Grammar.current_mask x} at)
        (both "(" in_parens none_left)))))))))) l p at

  -- An operand and an expression with room r.
  unaries_agree : (r : ℕ) (l : List Token) (p : ℕ) → At p l → Agrees expression_tree (P.operands K r l) (unaries ts r p)
  unfolding P.operands unaries expression_tree
  unaries_agree zero l p at =
      operand_agrees (refuse TooDeep 0) (refuse TooDeep 0) (no_room ts) (no_room ts) (λ t l p at. no_level_left t p) (λ x l p at. no_level_left (token x) p) l p at
  unaries_agree (suc r) l p at =
      let h = unaries_agree r in
      operand_agrees (P.operands K r) (P.grouped K every_level (P.operands K r)) (λ t. unaries ts r) (closed ts (binaries ts levels (unaries ts r)))
      (λ t. h)
      (λ x. closed_agrees _ _ (Grammar.parenthesised x) (λ e y. refl) (every_agrees (P.operands K r) (unaries ts r) h) (token x))
      l p at

  expression_agrees : (r : ℕ) (l : List Token) (p : ℕ) → At p l → Agrees expression_tree (P.expression K r l) (R.expression ts r p)
  unfolding P.expression R.expression
  expression_agrees r l p at = every_agrees (P.operands K r) (unaries ts r) (unaries_agree r) l p at

  -- "then perhaps `block[N]`"
  block_agrees : (l : List Token) (p : ℕ) → At p l → Agrees block_of (P.a_block l) (R.block ts p)
  unfolding P.a_block R.block look next block_of first token end_at the words marks numbered reserved signs
  block_agrees [] p h = rw (at_first p [] h) (gives h)
  block_agrees (t ∷ l) p h = let s = at_token p t l h in rw s.0 (go (eqb t.is (the "block")) s.1)
    where
      go : (b : Bool) → At (suc p) l → Agrees block_of
          (when◌then◌else◌ {A = Out (List Token) BlockPart} b
          (λ _. after (one "[" l) (λ x k. after (one "number" k) (λ n k. after (one "]" k) (λ y. give (Grammar.block (as_the "block" t) x n y)))))
          (λ _. ok Grammar.no_block (t ∷ l)))
          (when◌then◌else◌ {A = Reads Block} b
          (λ _ q. after (expect ts "[" (suc q)) (λ _ q. after (expect ts "number" q) (λ n q. after (expect ts "]" q) (λ _. give (some (n.value, n.place))))))
          (λ _. give none) p)
      go true at =
          and_then _ _ (one_agrees "[" l (suc p) at) (λ x k q g.
          and_then _ _ (one_agrees "number" k q g) (λ n k q g.
          and_then _ _ (one_agrees "]" k q g) (λ y k q g. gives g)))
      go false at = gives h

  -- A condition.
  abbrev condition_tree : Condition → Expr
  condition_tree c = expression_tree c.1

  condition_agrees : (r : ℕ) (l : List Token) (p : ℕ) → At p l → Agrees condition_tree (P.condition K r l) (condition ts r p)
  unfolding P.condition condition P.deeper_expression R.parenthesised
  condition_agrees r l p at = and_then _ _ (one_agrees "(" l p at) (inside r)
    where
      inside : (r : ℕ) (x : The "(") (l : List Token) (p : ℕ) → At p l →
          Agrees condition_tree (after (P.deeper_expression K r l) (λ e k. after (one ")" k) (λ y. give (x, e, y)))) (R.parenthesised ts r (token x) p)
      inside zero x l p at = no_level_left (token x) p
      inside (suc r) x l p at = closed_agrees _ _ (λ e y. (x, e, y)) (λ e y. refl) (expression_agrees r) (token x) l p at

  -- "a declaration, a declaration with initial value", after its first token
  declaration_agrees : (r : ℕ) (k : KindWord) (l : List Token) (p : ℕ) → At p l → Agrees statement_tree (P.declared K r k l) (R.declaration ts r (kind_of k) (kind_token k) p)
  unfolding P.declared R.declaration ◌⇒◌ statement_tree token
  declaration_agrees r k l p at =
      and_then _ _ (block_agrees l p at) (λ b l p at.
      and_then _ _ (one_agrees "name" l p at) (λ x l p at.
      picks
      (both ";" (λ c l p at. gives {d = Grammar.declaration k b x c} at)
      (both "=" (λ q l p at.
      and_then _ _ (expression_agrees r l p at) (λ e l p at.
      and_then _ _ (one_agrees ";" l p at) (λ c l p at. gives {d = Grammar.initialised k b x q e c} at)))
      none_left)) l p at))

  opening_agrees : (deep : Parse Statement) (deep' : After Stmt) → ((t : Token) (l : List Token) (p : ℕ) → At p l → Agrees statement_tree (deep l) (deep' t p)) →
      (l : List Token) (p : ℕ) → At p l → Agrees statement_tree (P.opening deep l) (R.opening ts deep' p)
  unfolding P.opening R.opening look
  opening_agrees deep deep' h l p at = rw (at_first p l at) (go ((first l).is among begins))
    where
      go : (b : Bool) → Agrees statement_tree (after (check b NotAllowed 0 l) (λ _. deep)) (after (check b NotAllowed (first l).place p) (λ _. deep' (first l)))
      go true = h (first l) l p at
      go false = not_allowed

  -- Statement after statement, up to the closing token.
  many_agree : (close : String) (m : Parse Statement) (m' : Reads Stmt) → ((l : List Token) (p : ℕ) → At p l → Agrees statement_tree (m l) (m' p)) →
      (l : List Token) (p : ℕ) → At p l → Agrees statements_tree (P.many K close m l) (as_long ts (R.another ts close m') T.none_yet p)
  unfolding P.many P.another as_long R.another look statements_tree
  many_agree close m m' h l p at =
      repeats statements_tree _ _ (λ s l p at. rw (at_first p l at) (go s l p at (eqb (first l).is (the close)))) K Grammar.none_yet l p at
    where
      go : (s : Statements) (l : List Token) (p : ℕ) → At p l → (b : Bool) → Agrees (perhaps statements_tree)
          (when◌then◌else◌ {A = Out (List Token) (Option Statements)} b (λ _. ok none l) (λ _. after (m l) (λ t. give (some (Grammar.◌⨾◌ s t)))))
          (when◌then◌else◌ {A = Reads (Option Stmts)} b (λ _. give none) (λ _ q. after (m' q) (λ t. give (some (T.◌⨾◌ (statements_tree s) t)))) p)
      go s l p at true = gives at
      go s l p at false = and_then _ _ (h l p at) (λ t k q g. gives g)

  abbrev braced_tree : Braced → Stmts
  braced_tree b = statements_tree b.0

  braced_agrees : (m : Parse Statement) (m' : Reads Stmt) → ((l : List Token) (p : ℕ) → At p l → Agrees statement_tree (m l) (m' p)) →
      (l : List Token) (p : ℕ) → At p l → Agrees braced_tree (P.braced K m l) (sequence ts "}" m' p)
  unfolding P.braced sequence
  braced_agrees m m' h l p at =
      and_then _ _ (many_agree "}" m m' h l p at) (λ s l p at.
      and_then _ _ (one_agrees "}" l p at) (λ y l p at. gives at))

  -- A statement.
  module _ (r : ℕ) (deep : Parse Statement) (inside : Parse Braced) (deep' : After Stmt) (braced' : After Stmts)
      (deeper : (t : Token) (l : List Token) (p : ℕ) → At p l → Agrees statement_tree (deep l) (deep' t p))
      (in_braces : (t : Token) (l : List Token) (p : ℕ) → At p l → Agrees braced_tree (inside l) (braced' t p)) where
    part : (l : List Token) (p : ℕ) → At p l → Agrees statement_tree (P.opening deep l) (R.opening ts deep' p)
    part l p at = opening_agrees deep deep' deeper l p at

    statement_over_agrees : (l : List Token) (p : ℕ) → At p l → Agrees statement_tree (P.statement_over K r deep inside l) (R.statement_over ts r deep' braced' p)
    unfolding P.statement_over R.statement_over R.assignment ◌⇒◌ kinds statement_tree kind_token kind_of token
    statement_over_agrees l p at = picks
        (both ";" (λ x l p at. gives {d = Grammar.empty x} at)
        (both "{" (λ x l p at. and_then _ _ (in_braces (token x) l p at) (λ b l p at. gives {d = Grammar.braces x b.0 b.1} at))
        (both "int" (λ x l p at. declaration_agrees r (Grammar.int x) l p at)
        (both "bool" (λ x l p at. declaration_agrees r (Grammar.bool x) l p at)
        (both "float" (λ x l p at. declaration_agrees r (Grammar.float x) l p at)
        (both "name" (λ x l p at.
        and_then _ _ (one_agrees "=" l p at) (λ q l p at.
        and_then _ _ (expression_agrees r l p at) (λ e l p at.
        and_then _ _ (one_agrees ";" l p at) (λ c l p at. gives {d = Grammar.assignment x q e c} at))))
        (both "if" (λ t l p at.
        and_then _ _ (condition_agrees r l p at) (λ c l p at.
        and_then _ _ (part l p at) (λ s l p at.
        and_then _ _ (one_agrees "else" l p at) (λ v l p at.
        and_then _ _ (part l p at) (λ u l p at. gives {d = Grammar.if_else t c.0 c.1 c.2 s v u} at)))))
        (both "while" (λ t l p at.
        and_then _ _ (condition_agrees r l p at) (λ c l p at.
        and_then _ _ (part l p at) (λ s l p at. gives {d = Grammar.while t c.0 c.1 c.2 s} at)))
        (both "scalar" (λ t l p at. and_then _ _ (part l p at) (λ s l p at. gives {d = Grammar.scalar t s} at))
        none_left))))))))) l p at

  statement_agrees : (r : ℕ) (l : List Token) (p : ℕ) → At p l → Agrees statement_tree (P.statement K r l) (R.statement ts r p)
  unfolding P.statement R.statement
  statement_agrees zero l p at =
      statement_over_agrees zero (refuse TooDeep 0) (refuse TooDeep 0) (no_room ts) (no_room ts) (λ t l p at. no_level_left t p) (λ t l p at. no_level_left t p) l p at
  statement_agrees (suc r) l p at =
      statement_over_agrees (suc r) (P.statement K r) (P.braced K (P.statement K r)) (λ t. R.statement ts r) (λ t. sequence ts "}" (R.statement ts r))
      (λ t. statement_agrees r)
      (λ t. braced_agrees (P.statement K r) (R.statement ts r) (statement_agrees r))
      l p at

  program_agrees : Agrees program_tree (P.program K nesting_limit ts) (read ts)
  unfolding P.program read sequence program_tree
  program_agrees =
      and_then _ _
      (many_agree "end" (P.statement K nesting_limit) (R.statement ts nesting_limit) (statement_agrees nesting_limit) ts 0 (record { left = refl; within = omega arith }))
      (λ s l p at. and_then _ _ (one_agrees "end" l p at) (λ y l p at. gives at))

  -- A program that parses is read, to the end of its tokens.
  pub read_agrees : (d : Program) → P.program K nesting_limit ts ≡ ok d [] → read ts ≡ ok (program_tree d) (length ts)
  read_agrees d e =
      let h = said program_agrees e in
      let at = h.so.at in
      let none : length (drop h.state ts) ≡ 0 = ap length at.left in
      let last : h.state ≡ length ts = omega (arith, none, length-drop h.state ts, at.within) in
      h.is ∙ ap (λ t. ok t h.state) h.so.is ∙ ap (λ p. ok (program_tree d) p) last

  -- One that has a level too many is refused for that.
  pub deep_agrees : (q : ℕ) → P.program K nesting_limit ts ≡ refused TooDeep q → IsTooDeep (read ts)
  deep_agrees q e = refusal_said program_agrees e refl
