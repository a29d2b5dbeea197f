-- A tree that is read can be gone through: at most 32 levels, at most 232 values on the stack, its names, places and numbers those of the
-- text; and a refusal is at a place of the text.
use Prim.Native.Nat.{ℕ, zero, suc, ◌+◌, ◌*◌, ◌^◌, ◌≤◌, ◌<◌}
use Prim.Native.String.{String}
use mathlib.Core.Path.{◌≡◌, refl, sym, ◌∙◌}
use mathlib.Core.Bool.{Bool, true, false}
use mathlib.Core.List.{List, [], ◌∷◌}
use mathlib.Core.Option.{Option, none, some}
use native.Mathlib.Omega.{arith}
use lib.Dec.{eqb}
use lib.ListN.{length, get_or}
use borrow.Author.Tests.{eqb-true}
use Rattle.meaning.specs.declared.Kind.{Kind}
use Rattle.meaning.specs.declared.Refusal.TheVariants.{NotAllowed, TooDeep}
use Rattle.meaning.specs.declared.Unary.{Unary}
use Rattle.meaning.specs.declared.Unary.TheVariants.{Neg as neg, Inv as inv, Not as unary_not}
use Rattle.meaning.specs.declared.Binary.{Binary}
use Rattle.meaning.specs.Codes.{Out, ok, after, give, refuse, option, lookup, when◌then◌else◌, ◌among◌, number_limit, nesting_limit, the_judge_gives, only_a_run_gives}
use Rattle.meaning.specs.Tokens.{Token, end_at, the}
use Rattle.meaning.specs.Tree.{kinds, levels, Expr, unary, binary, Block, Stmt, braces, if_else, while, scalar, Stmts, none_yet, ◌⨾◌}
use Rattle.meaning.specs.Reading.{Reads, After, ◌⇒◌, operator, look, next, choose, expect, as_long, more, binaries, operand, no_room, closed, unaries, expression, parenthesised, block, declaration, assignment, condition, opening, another, sequence, statement_over, statement, read, begins}
use Rattle.laws.specs.Outcomes.{Ends, well, refusal, RefusedIn}
use Rattle.laws.specs.Sound.{Spelled, stack, stack_limit, InText, of_number, of_float, of_boolean, of_name, of_mask, of_unary, of_binary, Sound, Placed, no_block, at_place, no_value, a_value, Walkable, of_empty, of_braces, of_declare, of_assign, of_if, of_while, of_scalar, AllWalkable, of_none, of_more}
use Rattle.laws.specs.Tokens.{AllIn}
use Rattle.laws.proofs.Outcomes.{followed, weaker, passed, repeated, said}
use Rattle.laws.proofs.The.{the_end, the_number, the_becomes}
use Rattle.laws.proofs.Tokens.{spelled_later, spelled_place, spelled-number, spelled_float, spelled_name}

module _ (text : List ℕ) (ts : List Token) (spelled : AllIn text 0 ts) where
  -- A place of the text, or its end.
  abbrev Near : ℕ → Type 0
  Near p = p ≤ length text

  -- The token at a position.
  abbrev here : ℕ → Token
  here at = get_or ts at (end_at 0)

  -- A value with Q, at the position or later.
  abbrev pub Later : {A : Type 0} → (A → Type 0) → ℕ → A → ℕ → Type 0
  Later Q at a at' = (at ≤ at') × Q a

  -- From a position on, a value with Q or a refusal of the text.
  abbrev pub Goes : {A : Type 0} → (A → Type 0) → ℕ → Out ℕ A → Type 0
  Goes Q at o = Ends (Later Q at) (RefusedIn text) o

  -- What m reads has Q.
  pub record Gives {A : Type 0} (Q : A → Type 0) (m : Reads A) : Type 0 where
    pub at : (p : ℕ) → Goes Q p (m p)

  -- Refusals 3 and 4 are the judge's.
  not_allowed : (p : ℕ) → Near p → RefusedIn text NotAllowed p
  unfolding the_judge_gives only_a_run_gives
  not_allowed p h = record { judges = refl; near = h }

  too_deep : (p : ℕ) → Near p → RefusedIn text TooDeep p
  unfolding the_judge_gives only_a_run_gives
  too_deep p h = record { judges = refl; near = h }

  -- What is known of the token at a position, where it is a k.
  record Seen (k at : ℕ) (t : Token) : Type 0 where
    near : Near t.place
    later : (k ≡ the "end" → ⊥) → at ≤ t.place
    small : k ≡ the "number" → t.value ≤ number_limit
    float : k ≡ the "float number" → t.value < 2 ^ 32
    named : k ≡ the "name" → Spelled text t.place t.spelled

  seen_at : (at k : ℕ) → (here at).is ≡ k → Seen k at (here at)
  seen_at at k e = record {
    near = spelled_place at spelled;
    later = λ h. omega (arith, spelled_later at spelled (λ g. h (sym e ∙ g)));
    small = λ h. spelled-number at spelled (e ∙ h);
    float = λ h. spelled_float at spelled (e ∙ h);
    named = λ h. spelled_name at spelled (e ∙ h);
  }

  -- What follows the token at a position has Q.
  data Cases {A : Type 0} (Q : A → Type 0) (at : ℕ) : List (ℕ × After A) → Type 0 where
    none_left : Cases Q at []
    case : {k : ℕ} {f : After A} {l : List (ℕ × After A)} → ((t : Token) → Seen k at t → Goes Q at (f t (suc at))) → Cases Q at l → Cases Q at ((k, f) ∷ l)

  module _ {A : Type 0} (Q : A → Type 0) (at : ℕ) where
    -- What `choose` does with the case that it finds.
    abbrev Picks : Option (After A) → Type 0
    Picks o = Goes Q at (option (refuse NotAllowed (here at).place) (λ k s. k (here at) (suc s)) o at)

    chosen : (l : List (ℕ × After A)) → Cases Q at l → Picks (lookup (eqb (here at).is) l)
    chosen [] none_left = refusal (not_allowed _ (spelled_place at spelled))
    chosen ((k, f) ∷ l) (case h c) = go (eqb (here at).is k) refl (chosen l c)
      where
        go : (b : Bool) → eqb (here at).is k ≡ b → Picks (lookup (eqb (here at).is) l) → Picks (when b then (λ _. some f) else λ _. lookup (eqb (here at).is) l)
        go true e r = h (here at) (seen_at at k (eqb-true _ _ e))
        go false e r = r

    choose_goes : (l : List (ℕ × After A)) → Cases Q at l → Goes Q at (choose ts l at)
    unfolding choose look next
    choose_goes l c = chosen l c

  -- One act of reading after another; what begins at the next token; a value that is given.
  next_act : {A B : Type 0} {P : A → Type 0} {Q : B → Type 0} (f : A → Reads B) {p : ℕ} {o : Out ℕ A} → Goes P p o → ((a : A) (q : ℕ) → p ≤ q → P a → Goes Q q (f a q)) → Goes Q p (after o f)
  next_act f h k = followed f h (λ a q l. weaker (k a q l.0 l.1) (λ b s m. (omega (arith, l.0, m.0), m.1)))

  past : {A : Type 0} {Q : A → Type 0} {p : ℕ} {o : Out ℕ A} → Goes Q (suc p) o → Goes Q p o
  past h = weaker h (λ a q l. (omega (arith, l.0), l.1))

  given : {A : Type 0} {Q : A → Type 0} (p : ℕ) {a : A} → Q a → Goes Q p (ok a p)
  given p h = well {s = p} (omega arith, h)

  -- A token that is expected, with what is known of it.
  expected : (s : String) (p : ℕ) → Goes (Seen (the s) p) p (expect ts s p)
  unfolding expect ◌⇒◌
  expected s p = choose_goes (Seen (the s) p) p _ (case (λ t h. past (given (suc p) h)) none_left)

  refused_gives : {A : Type 0} (Q : A → Type 0) (t : Token) → Near t.place → Gives Q (no_room ts t)
  unfolding no_room
  refused_gives Q t h = record { at = λ p. refusal (too_deep _ h) }

  -- An expression of the text, with at most n values on the stack.
  record Fit (n : ℕ) (e : Expr) : Type 0 where
    in_text : InText text e
    fits : stack e ≤ n

  fit_more : {n m : ℕ} {e : Expr} → n ≤ m → Fit n e → Fit m e
  fit_more l h = record { in_text = h.in_text; fits = omega (arith, h.fits) }

  fit_binary : (p : ℕ) (o : Binary) (a b : Expr) (n : ℕ) → Near p → Fit (suc n) a → Fit n b → Fit (suc n) (binary p o a b)
  unfolding stack
  fit_binary p o a b n l h g = record { in_text = of_binary l h.in_text g.in_text; fits = omega (arith, h.fits, g.fits) }

  gives_more : {n k : ℕ} {m : Reads Expr} → n ≤ k → Gives (Fit n) m → Gives (Fit k) m
  gives_more l g = record { at = λ p. weaker (g.at p) (λ e q h. (h.0, fit_more l h.1)) }

  -- "Binary operators group to the left": each level adds one value that waits.
  module _ (n : ℕ) (os : List Binary) (m : Reads Expr) (gives : Gives (Fit n) m) where
    more_goes : (e : Expr) (p : ℕ) → Fit (suc n) e → Goes (λ o. Fit (suc n) (option e (λ a. a) o)) p (more ts os m e p)
    unfolding more look next
    more_goes e p h = go (operator (here p).is os)
      where
        go : (o : Option Binary) → Goes (λ o. Fit (suc n) (option e (λ a. a) o)) p (option (give none) (λ o s. after (m (suc s)) (λ e'. give (some (binary (here p).place o e e')))) o p)
        go none = given p h
        go (some o) = past (next_act _ (gives.at (suc p)) (λ e' q _ g. given q (fit_binary _ o e e' n (spelled_place p spelled) h g)))

    as_long_goes : (e : Expr) (p : ℕ) → Fit n e → Goes (Fit (suc n)) p (as_long ts (more ts os m) e p)
    unfolding as_long
    as_long_goes e p h =
        repeated (Later (Fit (suc n)) p) (more ts os m) (λ a q i. weaker (more_goes a q i.1) (λ o s l. (omega (arith, i.0, l.0), l.1)))
        (length ts) e p (omega arith, fit_more (omega arith) h)

  binaries_give : (ls : List (List Binary)) (n : ℕ) (m : Reads Expr) → Gives (Fit n) m → Gives (Fit (length ls + n)) (binaries ts ls m)
  unfolding binaries
  binaries_give [] n m g = gives_more (omega arith) g
  binaries_give (os ∷ ls) n m g =
      let h = binaries_give ls n m g in
      gives_more (omega arith) (record { at = λ p. next_act _ (h.at p) (λ e q l f. as_long_goes (length ls + n) os (binaries ts ls m) h e q f) })

  seven : (n : ℕ) (m : Reads Expr) → Gives (Fit n) m → Gives (Fit (7 + n)) (binaries ts levels m)
  unfolding levels
  seven n m g = binaries_give levels n m g

  -- An operand: `deep` and `parens` read what stands one level deeper.
  module _ (n : ℕ) (some_room : 1 ≤ n) (deep parens : After Expr)
      (deeper : (t : Token) → Near t.place → Gives (Fit n) (deep t)) (inside : (t : Token) → Near t.place → Gives (Fit n) (parens t)) where
    leaf : (e : Expr) → InText text e → stack e ≡ 1 → (at : ℕ) → Goes (Fit n) at (ok e (suc at))
    leaf e h l at = past (given (suc at) (record { in_text = h; fits = omega (arith, l, some_room) }))

    negated : (o : Unary) (at : ℕ) (t : Token) → Near t.place → Goes (Fit n) at (after (deep t (suc at)) (λ e. give (unary t.place o e)))
    unfolding stack
    negated o at t l = past (next_act _ ((deeper t l).at (suc at)) (λ e q _ h. given q (record { in_text = of_unary l h.in_text; fits = h.fits })))

    operand_gives : Gives (Fit n) (operand ts deep parens)
    unfolding operand ◌⇒◌ stack
    operand_gives = record {
      at = λ at. choose_goes (Fit n) at _
          (case (λ t s. negated neg at t s.near)
          (case (λ t s. negated inv at t s.near)
          (case (λ t s. negated unary_not at t s.near)
          (case (λ t s. leaf _ (of_number (s.small refl)) refl at)
          (case (λ t s. leaf _ (of_float (s.float refl)) refl at)
          (case (λ t s. leaf _ of_boolean refl at)
          (case (λ t s. leaf _ of_boolean refl at)
          (case (λ t s. leaf _ (of_name (s.named refl)) refl at)
          (case (λ t s. leaf _ of_mask refl at)
          (case (λ t s. past ((inside t s.near).at (suc at)))
          none_left))))))))));
    }

  closed_gives : {Q : Expr → Type 0} {m : Reads Expr} (t : Token) → Gives Q m → Gives Q (closed ts m t)
  unfolding closed
  closed_gives t g = record { at = λ p. next_act _ (g.at p) (λ e q _ h. next_act _ (expected ")" q) (λ _ s _ _. given s h)) }

  -- An operand where r more levels may open, and an expression there.
  unaries_give : (r : ℕ) → Gives (Fit (7 * r + 1)) (unaries ts r)
  unfolding unaries
  unaries_give zero = operand_gives 1 (omega arith) (no_room ts) (no_room ts) (refused_gives (Fit 1)) (refused_gives (Fit 1))
  unaries_give (suc r) =
      let h = unaries_give r in
      operand_gives (7 * suc r + 1) (omega arith) _ _
      (λ t _. gives_more (omega arith) h)
      (λ t _. closed_gives t (gives_more (omega arith) (seven (7 * r + 1) (unaries ts r) h)))

  pub expression_gives : (r : ℕ) → r ≤ nesting_limit → Gives (Sound text) (expression ts r)
  unfolding expression stack_limit
  expression_gives r l =
      let h = seven (7 * r + 1) (unaries ts r) (unaries_give r) in
      record { at = λ p. weaker (h.at p) (λ e q k. (k.0, record { in_text = k.1.in_text; fits = omega (arith, k.1.fits, l) })) }

  pub condition_gives : (r : ℕ) → r ≤ nesting_limit → Gives (Sound text) (condition ts r)
  unfolding condition parenthesised
  condition_gives r l = record { at = λ p. next_act _ (expected "(" p) (λ t q _ s. (inside r l t s.near).at q) }
    where
      inside : (r : ℕ) → r ≤ nesting_limit → (t : Token) → Near t.place → Gives (Sound text) (parenthesised ts r t)
      inside zero l t h = refused_gives (Sound text) t h
      inside (suc r) l t h = closed_gives t (expression_gives r (omega arith))

  -- "then perhaps `block[N]`", after the first token
  pub block_goes : (p : ℕ) → 0 < p → Goes (Placed text) p (block ts p)
  unfolding block look next
  block_goes p l = go (eqb (here p).is (the "block"))
    where
      go : (b : Bool) → Goes (Placed text) p
          (when◌then◌else◌ {A = Reads Block} b
          (λ _ s. after (expect ts "[" (suc s)) (λ _ s. after (expect ts "number" s) (λ n s. after (expect ts "]" s) (λ _. give (some (n.value, n.place))))))
          (λ _. give none) p)
      go true =
          past (next_act _ (expected "[" (suc p)) (λ _ q lq _.
          next_act _ (expected "number" q) (λ n s _ seen.
          let b = seen.later (λ z. omega (arith, the_number, the_end, z)) in
          next_act _ (expected "]" s) (λ _ u _ _. given u (at_place (omega (arith, lq, b)) seen.near)))))
      go false = given p no_block

  -- A right side and its `;`, from position p on.
  value_goes : {Q : Stmt → Type 0} (r p : ℕ) (f : Expr → Stmt) → r ≤ nesting_limit → ((e : Expr) → Sound text e → Q (f e))
      → Goes Q p (after (expression ts r p) (λ e q. after (expect ts ";" q) (λ _. give (f e))))
  value_goes r p f l h = next_act _ ((expression_gives r l).at p) (λ e q _ k. next_act _ (expected ";" q) (λ _ s _ _. given s (h e k)))

  declaration_goes : (r n p : ℕ) (k : Kind) (t : Token) → Near t.place → 0 < p → r ≤ nesting_limit → Goes (Walkable text n) p (declaration ts r k t p)
  unfolding declaration ◌⇒◌
  declaration_goes r n p k t h l m =
      next_act _ (block_goes p l) (λ b q lq hb.
      next_act _ (expected "name" q) (λ x s ls hx.
      choose_goes (Walkable text n) s _
      (case (λ _ _. past (given (suc s) (of_declare h hb (hx.named refl) no_value)))
      (case (λ e he.
      let after-start : 0 < e.place = omega (arith, l, lq, ls, he.later (λ z. omega (arith, the_becomes, the_end, z))) in
      past (value_goes r (suc s) _ m (λ v hv. of_declare h hb (hx.named refl) (a_value after-start he.near hv))))
      none_left))))

  assignment_goes : (r n p : ℕ) (x : Token) → Spelled text x.place x.spelled → r ≤ nesting_limit → Goes (Walkable text n) p (assignment ts r x p)
  unfolding assignment
  assignment_goes r n p x h m = next_act _ (expected "=" p) (λ e q l s. value_goes r q _ m (λ v hv. of_assign h s.near hv))

  opening_gives : {D : Stmt → Type 0} (deep : After Stmt) → ((t : Token) → Near t.place → Gives D (deep t)) → Gives D (opening ts deep)
  unfolding opening look
  opening_gives deep g = record {
    at = λ p. let near = spelled_place p spelled in passed ((here p).is among begins) NotAllowed _ p _ (not_allowed _ near) (λ _. (g (here p) near).at p);
  }

  -- "a sequence of statements, perhaps empty"
  sequence_gives : (r : ℕ) (close : String) (m : Reads Stmt) → Gives (Walkable text r) m → Gives (AllWalkable text r) (sequence ts close m)
  unfolding sequence as_long another look
  sequence_gives r close m g = record {
    at = λ p.
        next_act _ (repeated (Later (AllWalkable text r) p) (another ts close m) (λ l q h. go p l q h (eqb (here q).is (the close))) (length ts) none_yet p (omega arith, of_none))
        (λ l q _ h. next_act _ (expected close q) (λ _ s _ _. given s h));
  }
    where
      go : (p : ℕ) (l : Stmts) (q : ℕ) → Later (AllWalkable text r) p l q → (b : Bool)
          → Ends (λ o s. Later (AllWalkable text r) p (option l (λ a. a) o) s) (RefusedIn text)
          (when◌then◌else◌ {A = Reads (Option Stmts)} b (λ _. give none) (λ _ s. after (m s) (λ a. give (some (l ⨾ a)))) q)
      go p l q h true = well h
      go p l q h false = followed _ (g.at q) (λ a s k. well {s = s} (omega (arith, h.0, k.0), of_more h.1 k.1))

  -- A statement: D is known of a branch or a body, B of what stands in braces.
  module _ (r n : ℕ) (low : r ≤ nesting_limit) (D : Stmt → Type 0) (B : Stmts → Type 0) (deep : After Stmt) (braced : After Stmts)
      (deeper : (t : Token) → Near t.place → Gives D (deep t)) (inside : (t : Token) → Near t.place → Gives B (braced t))
      (an_if : (p : ℕ) (e : Expr) (s u : Stmt) → Near p → Sound text e → D s → D u → Walkable text n (if_else p e s u))
      (a_while : (p : ℕ) (e : Expr) (s : Stmt) → Near p → Sound text e → D s → Walkable text n (while p e s))
      (a_scalar : (p : ℕ) (s : Stmt) → D s → Walkable text n (scalar p s))
      (some_braces : (p : ℕ) (l : Stmts) → B l → Walkable text n (braces p l)) where
    part : Gives D (opening ts deep)
    part = opening_gives deep deeper

    statement_over_gives : Gives (Walkable text n) (statement_over ts r deep braced)
    unfolding statement_over ◌⇒◌ kinds
    statement_over_gives = record {
      at = λ p. choose_goes (Walkable text n) p _
          (case (λ t s. past (given (suc p) (of_empty s.near)))
          (case (λ t s. past (next_act _ ((inside t s.near).at (suc p)) (λ l q _ h. given q (some_braces _ l h))))
          (case (λ t s. past (declaration_goes r n (suc p) _ t s.near (omega arith) low))
          (case (λ t s. past (declaration_goes r n (suc p) _ t s.near (omega arith) low))
          (case (λ t s. past (declaration_goes r n (suc p) _ t s.near (omega arith) low))
          (case (λ t s. past (assignment_goes r n (suc p) t (s.named refl) low))
          (case (λ t s. past (
          next_act _ ((condition_gives r low).at (suc p)) (λ e q _ he.
          next_act _ (part.at q) (λ a u _ ha.
          next_act _ (expected "else" u) (λ _ v _ _.
          next_act _ (part.at v) (λ b w _ hb. given w (an_if _ e a b s.near he ha hb)))))))
          (case (λ t s. past (
          next_act _ ((condition_gives r low).at (suc p)) (λ e q _ he.
          next_act _ (part.at q) (λ a u _ ha. given u (a_while _ e a s.near he ha)))))
          (case (λ t s. past (next_act _ (part.at (suc p)) (λ a u _ ha. given u (a_scalar _ a ha))))
          none_left)))))))));
    }

  statement_gives : (r : ℕ) → r ≤ nesting_limit → Gives (Walkable text r) (statement ts r)
  unfolding statement
  statement_gives zero l =
      statement_over_gives zero zero l (λ _. ⊥) (λ _. ⊥) (no_room ts) (no_room ts) (refused_gives (λ _. ⊥)) (refused_gives (λ _. ⊥))
      (λ _ _ _ _ _ _ a _. absurd a) (λ _ _ _ _ _ a. absurd a) (λ _ _ a. absurd a) (λ _ _ a. absurd a)
  statement_gives (suc r) l =
      let h = statement_gives r (omega arith) in
      statement_over_gives (suc r) (suc r) l (Walkable text r) (AllWalkable text r) _ _ (λ t _. h) (λ t _. sequence_gives r "}" (statement ts r) h)
      (λ _ _ _ _ near e a b. of_if near e a b) (λ _ _ _ near e a. of_while near e a) (λ _ _ a. of_scalar a) (λ _ _ a. of_braces a)

  -- Every tree that is read can be gone through, and every refusal is one of the text's.
  pub read_ends : Ends (Later (AllWalkable text nesting_limit) 0) (RefusedIn text) (read ts)
  unfolding read
  read_ends = (sequence_gives nesting_limit "end" (statement ts nesting_limit) (statement_gives nesting_limit (omega arith))).at 0

  pub walkable : (l : Stmts) (p : ℕ) → read ts ≡ ok l p → AllWalkable text nesting_limit l
  walkable l p e = (said read_ends e).1
